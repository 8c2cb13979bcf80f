-- Kept values that suffice (document 01, "What the check announces").
-- Assumes nothing.
use Rattle.std.specs.Prelude.{ℕ, ◌+◌, ◌<◌}
use Rattle.lola.specs.Expressions.{Ref, Spec, target, rise, fall}
use Rattle.lola.specs.Graph.{Edge}

-- `kept v` words hold whatever an equation reads of v
pub record Keeps {W F : Type 0} (s : Spec W F) (look kept : ℕ → ℕ) : Type 0 where
  pub some : (v : ℕ) → v < s.streams → 0 < kept v
  pub enough : (y : ℕ) (r : Ref W) → Edge s y r → look y + fall r < kept (target r) + (rise r + look (target r))
