-- Numbers of a record that are 0 past the last stream (document 01, "What the check announces").
-- Assumes nothing.
use Rattle.std.specs.Prelude.{ℕ, ◌≤◌, ◌<◌, ◌≡◌, Bool, true, false, List, get_or}
use Rattle.limits.specs.Limits.{most_streams}

-- a test that decides P
abbrev pub Decides : Bool → Type 0 → Type 0
Decides true P = P
Decides false P = P → ⊥

-- "(0 past S)"
abbrev pub ZeroPast : List ℕ → ℕ → Type 0
ZeroPast numbers s = (v : ℕ) → s ≤ v → v < most_streams → get_or numbers v 0 ≡ 0
