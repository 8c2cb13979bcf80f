-- An integer as a difference of two naturals: z is up z - down z, and one of the two is 0. So `q + down k ≡ j + up k` says q = j + k.
-- Assumes nothing.
use Rattle.std.specs.Prelude.{ℕ, suc, ℤ, pos, negsuc}

abbrev pub up : ℤ → ℕ
up (pos n) = n
up (negsuc n) = 0

abbrev pub down : ℤ → ℕ
down (pos n) = 0
down (negsuc n) = suc n
