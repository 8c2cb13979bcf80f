-- What a turn gives (document 01, "A run"): "Turn t gives y's value at t - look-ahead(y)".
-- Assumes nothing.
use Rattle.std.specs.Prelude.{ℕ}

-- a value given: stream, position, word
pub record Given (W : Type 0) : Type 0 where
  pub stream : ℕ
  pub position : ℕ
  pub word : W
