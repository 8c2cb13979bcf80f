-- The two measures of a weight: that the code's sums stay within 16 bits and give them, and what they are for a weight in range.
-- Assumes nothing.
use mathlib.Core.Path.{◌≡◌, refl}
use Prim.Native.Nat.{ℕ, zero, suc, ◌+◌, ◌-◌, ◌≤◌, ◌<◌}
use native.Mathlib.Omega.{arith}
use lib.Dec.{T}
use lib.IntN.{ℤ, pos, negsuc, ◌+ℤ◌, ◌-ℤ◌, neg_ℤ, nat_abs}
use lib.Signed.{non_neg}
use mir.Syntax.{w8, w16}
use mir.Val.{Fits, SFits}
use Rattle.basis.specs.Notes.{rising, falling}
use Rattle.limits.specs.Limits.{rise_of_zero, fall_of_zero}
use Rattle.basis.specs.Parts.{up, down}
use Rattle.basis.proofs.Parts.{sum_parts, mag_parts}
use Rattle.expression.specs.References.{Ranged}

-- a number of 16 bits that is a - b for naturals, b the smaller
pub record Counted (z : ℤ) (n : ℕ) : Type 0 where
  pub fits : SFits w16 z
  pub natural : T (non_neg z)
  pub narrow : Fits w16 (nat_abs z)
  pub is : nat_abs z ≡ n

counted : (z : ℤ) (a b : ℕ) → up z + b ≡ a + down z → b ≤ a → a < 300 → Counted z (a - b)
counted (pos n) a b e l h = record { fits = record { sfits = omega arith }; natural = tt; narrow = record { fits = omega arith }; is = omega arith }
counted (negsuc n) a b e l h = absurd (omega arith)

negated : (k : ℤ) → (up (neg_ℤ k) ≡ down k) × (down (neg_ℤ k) ≡ up k)
negated (pos zero) = (refl, refl)
negated (pos (suc n)) = (refl, refl)
negated (negsuc n) = (refl, refl)

module _ (k : ℤ) (f : SFits w8 k) where
  pub wider : SFits w16 k
  wider = record { sfits = omega (arith, f.sfits) }

  pub rising_counted : Counted (k +ℤ pos rise_of_zero) (rising k)
  unfolding rising
  rising_counted =
      let m = mag_parts k 128 f.sfits in
      counted (k +ℤ pos rise_of_zero) (rise_of_zero + up k) (down k) (omega (arith, sum_parts k (pos rise_of_zero))) (omega arith) (omega arith)

  pub falling_counted : Counted (pos fall_of_zero -ℤ k) (falling k)
  unfolding falling
  falling_counted =
      let m = mag_parts k 128 f.sfits in
      counted (pos fall_of_zero -ℤ k) (fall_of_zero + down k) (up k) (omega (arith, sum_parts (pos fall_of_zero) (neg_ℤ k), negated k)) (omega arith) (omega arith)

pub rising_is : {k : ℤ} → Ranged k → rising k + down k ≡ rise_of_zero + up k
unfolding rising
rising_is r = omega arith

pub falling_is : {k : ℤ} → Ranged k → falling k + up k ≡ fall_of_zero + down k
unfolding falling
falling_is r = omega arith
