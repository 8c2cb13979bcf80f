-- Laws of an integer's two parts. An order or a sum in ℤ is a linear fact on them, which omega proves.
-- Assumes nothing.
use mathlib.Core.Path.{◌≡◌, refl, ap}
use mathlib.Core.Logic.{◌⊎◌, inl, inr}
use mathlib.Core.Bool.{Bool, true, false, not, cond}
use Prim.Native.Nat.{ℕ, suc, ◌+◌, ◌-◌, ◌≤◌, ◌<◌}
use native.Mathlib.Omega.{arith}
use lib.IntN.{ℤ, pos, negsuc, ◌+ℤ◌, sub_ℕ}
use lib.Signed.{mag, le_z, lt_z, ◌≤ℤ◌, ◌<ℤ◌}
use Rattle.basis.specs.Parts.{up, down}
use lib.Dec.{T, ltb, ltb→lt, nltb→le, leb→le, le→leb, lt→ltb}

difference_by : (a b : ℕ) (c : Bool) → (T c → a < b) → (T (not c) → b ≤ a) → up (cond c (negsuc (b - suc a)) (pos (a - b))) + b ≡ a + down (cond c (negsuc (b - suc a)) (pos (a - b)))
difference_by a b true f g = let h = f tt in omega arith
difference_by a b false f g = let h = g tt in omega arith

difference_parts : (a b : ℕ) → up (sub_ℕ a b) + b ≡ a + down (sub_ℕ a b)
difference_parts a b = difference_by a b (ltb a b) (ltb→lt a b) (nltb→le a b)

-- the sum
pub sum_parts : (a b : ℤ) → up (a +ℤ b) + (down a + down b) ≡ (up a + up b) + down (a +ℤ b)
sum_parts (pos a) (pos b) = omega arith
sum_parts (pos a) (negsuc b) = omega (arith, difference_parts a (suc b))
sum_parts (negsuc a) (pos b) = omega (arith, difference_parts b (suc a))
sum_parts (negsuc a) (negsuc b) = omega arith

-- one of the two is 0
pub one_part : (a : ℤ) → (up a ≡ 0) ⊎ (down a ≡ 0)
one_part (pos a) = inr refl
one_part (negsuc a) = inl refl

-- the order, both ways
pub le_parts : {a b : ℤ} → a ≤ℤ b → up a + down b ≤ up b + down a
le_parts {a = pos a} {b = pos b} h = omega (arith, leb→le a b h.le)
le_parts {a = pos a} {b = negsuc b} h = absurd h.le
le_parts {a = negsuc a} {b = pos b} h = omega arith
le_parts {a = negsuc a} {b = negsuc b} h = omega (arith, leb→le b a h.le)

parts_le : (a b : ℤ) → up a + down b ≤ up b + down a → T (le_z a b)
parts_le (pos a) (pos b) h = le→leb a b (omega arith)
parts_le (pos a) (negsuc b) h = absurd (no a b h)
  where
    no : (a b : ℕ) → a + suc b ≤ 0 + 0 → ⊥
    no a b h = omega arith
parts_le (negsuc a) (pos b) h = tt
parts_le (negsuc a) (negsuc b) h = le→leb b a (omega arith)

pub le_from_parts : (a b : ℤ) → up a + down b ≤ up b + down a → a ≤ℤ b
le_from_parts a b h = record { le = parts_le a b h }

pub lt_parts : {a b : ℤ} → a <ℤ b → up a + down b < up b + down a
lt_parts {a = pos a} {b = pos b} h = omega (arith, ltb→lt a b h.lt)
lt_parts {a = pos a} {b = negsuc b} h = absurd h.lt
lt_parts {a = negsuc a} {b = pos b} h = omega arith
lt_parts {a = negsuc a} {b = negsuc b} h = omega (arith, ltb→lt b a h.lt)

parts_lt : (a b : ℤ) → up a + down b < up b + down a → T (lt_z a b)
parts_lt (pos a) (pos b) h = lt→ltb a b (omega arith)
parts_lt (pos a) (negsuc b) h = absurd (no a b h)
  where
    no : (a b : ℕ) → a + suc b < 0 + 0 → ⊥
    no a b h = omega arith
parts_lt (negsuc a) (pos b) h = tt
parts_lt (negsuc a) (negsuc b) h = lt→ltb b a (omega arith)

pub lt_from_parts : (a b : ℤ) → up a + down b < up b + down a → a <ℤ b
lt_from_parts a b h = record { lt = parts_lt a b h }

-- equal differences are equal numbers
pub eq_from_parts : (a b : ℤ) → up a + down b ≡ up b + down a → a ≡ b
eq_from_parts (pos a) (pos b) h = ap pos (omega arith)
eq_from_parts (pos a) (negsuc b) h = absurd (no a b h)
  where
    no : (a b : ℕ) → a + suc b ≡ 0 + 0 → ⊥
    no a b h = omega arith
eq_from_parts (negsuc a) (pos b) h = absurd (no a b h)
  where
    no : (a b : ℕ) → 0 + 0 ≡ b + suc a → ⊥
    no a b h = omega arith
eq_from_parts (negsuc a) (negsuc b) h = ap negsuc (omega arith)

-- the magnitude that a range bounds
pub mag_parts : (a : ℤ) (n : ℕ) → mag a < n → (up a < n) × (down a ≤ n)
mag_parts (pos a) n h = omega arith
mag_parts (negsuc a) n h = omega arith

pub mag_from_parts : (a : ℤ) (n : ℕ) → up a < n → down a ≤ n → mag a < n
mag_from_parts (pos a) n h k = omega arith
mag_from_parts (negsuc a) n h k = omega arith

-- a sum's parts are no larger than the parts' sums
sum_within : (a b : ℤ) → (up (a +ℤ b) ≡ 0) ⊎ (down (a +ℤ b) ≡ 0) → (up (a +ℤ b) ≤ up a + up b) × (down (a +ℤ b) ≤ down a + down b)
sum_within a b (inl e) = omega (arith, sum_parts a b)
sum_within a b (inr e) = omega (arith, sum_parts a b)

pub sum_within_parts : (a b : ℤ) → (up (a +ℤ b) ≤ up a + up b) × (down (a +ℤ b) ≤ down a + down b)
sum_within_parts a b = sum_within a b (one_part (a +ℤ b))

pub mag_sum : (n : ℕ) (a b : ℤ) → mag a < n → mag b < n → mag (a +ℤ b) < n + n
mag_sum n a b h k = mag_from_parts (a +ℤ b) (n + n) (omega (arith, mag_parts a n h, mag_parts b n k, sum_within_parts a b)) (omega (arith, mag_parts a n h, mag_parts b n k, sum_within_parts a b))
