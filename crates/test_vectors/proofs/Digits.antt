-- A number digit by digit. Assumes nothing.
use Rattle.std.proofs.Common.{ℕ, ◌≡◌, ◌+◌, ◌*◌, ◌^◌, ◌<◌, ◌≤◌, Some, None, List, length, get_or, drop, arith, add-one, drop-cons}
use Rattle.std.proofs.Math.Nat.{pow-suc, pow-le-pow_right}
use Rattle.std.proofs.lemmas.List.{drop_all}
use Rattle.test_vectors.specs.Vectors.{digit_for, number_of}

module _ (n : ℕ) (s : List ℕ) (i : ℕ) where
  pub no_digit : i < length s → digit_for (get_or s i 0) ≡ None → number_of n (drop i s) ≡ None
  unfolding number_of
  no_digit h e = rw (drop-cons s i 0, e)

  pub one_digit : i < length s → {d : ℕ} → digit_for (get_or s i 0) ≡ Some d → number_of n (drop i s) ≡ number_of (n * 16 + d) (drop (i + 1) s)
  unfolding number_of
  one_digit h e = rw (drop-cons s i 0, e, add-one)

  pub no_more : length s ≤ i → number_of n (drop i s) ≡ Some n
  unfolding number_of
  no_more h = rw drop_all

-- another digit fits
pub room : (n i : ℕ) → n < 16 ^ i → i < 8 → n < 268435456
room n i h k = omega (arith, pow-le-pow_right {n = 16} (omega arith) {i = i} {j = 7} (omega arith))

pub one_larger : (n i d : ℕ) → n < 16 ^ i → d < 16 → n * 16 + d < 16 ^ (i + 1)
one_larger n i d h k = rw (add-one, pow-suc) (omega arith)
