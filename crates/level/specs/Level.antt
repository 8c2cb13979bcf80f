-- Levels and their 32 bits (document 01, "Values"), over the logic's IEEE 754 binary32.
-- Assumes nothing.
use Rattle.std.specs.Prelude.{ℕ, Bool, cond, eqb, Float}
use Rattle.std.specs.Float.{binary32}
use Rattle.std.specs.Float.Ieee.{to_bits, nan_bits}

-- kind 2A, "equal of levels (all 32 bits equal)"
abbrev pub same_level : Float → Float → Bool
same_level x y = eqb (to_bits binary32 x) (to_bits binary32 y)

-- "Any NaN pattern .. is read as 7FC00000"
abbrev pub one_nan_of : ℕ → ℕ
one_nan_of w = cond (nan_bits binary32 w) 0x7fc0_0000 w
