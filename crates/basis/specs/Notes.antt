-- A weight from -128 to 127 as a number from 1 on, 0 being left for "no reference" (document 01, "What the check announces").
-- Assumes nothing.
use Rattle.std.specs.Prelude.{ℕ, ◌+◌, ◌-◌, ℤ}
use Rattle.limits.specs.Limits.{rise_of_zero, fall_of_zero}
use Rattle.basis.specs.Parts.{up, down}

-- in rising order, so that the largest note is that of the largest weight
unfoldable pub rising : ℤ → ℕ
rising k = rise_of_zero + up k - down k

-- in falling order, so that it is that of the smallest
unfoldable pub falling : ℤ → ℕ
falling k = fall_of_zero + down k - up k
