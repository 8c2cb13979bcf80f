-- What the loops that test totals find: all below 0, one that is not, the lowest stream with a short loop.
-- Assumes nothing.
use mathlib.Core.Path.{◌≡◌, refl, sym, ap}
use mathlib.Core.Bool.{Bool, true, false, not}
use Prim.Native.Nat.{ℕ, ◌+◌, ◌<◌, ◌≤◌}
use native.Mathlib.Omega.{arith}
use lib.ListN.{length}
use Rattle.std.specs.Prelude.{Option, Some, None, MatchOption, unwrap_or}
use Rattle.std.specs.Bool.{MatchBool}
use Rattle.std.specs.List.{AllWithin, HoldsAt, range_with_len}
use Rattle.std.proofs.lemmas.List.FromFn.{length-range_with_len, get_or-range_with_len}
use native.Mathlib.Numerals.{add-one}
use Rattle.std.proofs.Common.{zero-add}
use Rattle.basis.proofs.Tests.{true_false}
use Rattle.walks.specs.Longest.{Best, plus, below, all_below, loops_below_of, sup_to, back, short_loop_of, place_of}
use Rattle.walks.proofs.Loops.{all_below_each, each_all_below}
use Rattle.walks.proofs.Place.{sup_same, lowest_is, lowest_one}

one_not_below : (f : ℕ → Best) (n m : ℕ) → m < n → below (f m) ≡ false → all_below f n ≡ false
one_not_below f n m h e = go (all_below f n) refl
  where
    go : (b : Bool) → all_below f n ≡ b → all_below f n ≡ false
    go true q = true_false (all_below_each f n q m h) e
    go false q = q

-- as `all` over the streams below S answers
pub loops_tested : (D : ℕ → ℕ → Best) (S : ℕ) (r : Bool) → MatchBool r (AllWithin (λ v. below (D v v) ≡ true) (range_with_len 0 S) 0 (length (range_with_len 0 S))) ((k : ℕ) × (k < length (range_with_len 0 S)) × HoldsAt (λ v. below (D v v) ≡ false) (range_with_len 0 S) k)
    → r ≡ loops_below_of D S
unfolding loops_below_of
loops_tested D S true h = sym (each_all_below (λ v. D v v) S (λ v l. rw (get_or-range_with_len 0 S v 0 l, zero-add) at (h v 0 (omega arith) (rw length-range_with_len l))))
loops_tested D S false h = let l = rw length-range_with_len at h.1 in sym (one_not_below (λ v. D v v) S h.0 l (rw (get_or-range_with_len 0 S h.0 0 l, zero-add) at (h.2 0)))

pub short_up : (S : ℕ) (A : ℕ → ℕ → Best) (v n : ℕ) → n < S → below (back S A v n v) ≡ false → short_loop_of S A v ≡ true
unfolding short_loop_of
short_up S A v n h e = ap not (one_not_below (λ n. back S A v n v) S n h e)

pub short_below : (S : ℕ) (A : ℕ → ℕ → Best) (v : ℕ) → ((n : ℕ) → n < S → below (back S A v n v) ≡ true) → short_loop_of S A v ≡ false
unfolding short_loop_of
short_below S A v h = ap not (each_all_below (λ n. back S A v n v) S h)

-- as `find` over the streams below S answers
pub place_found : (A : ℕ → ℕ → Best) (S : ℕ) (r : Option ℕ) → MatchOption r ((v : ℕ) → 0 ≤ v → v < S → short_loop_of S A v ≡ false) (λ p. (0 ≤ p) × (p < S) × (short_loop_of S A p ≡ true) × ((v : ℕ) → 0 ≤ v → v < p → short_loop_of S A v ≡ false))
    → unwrap_or r S ≡ place_of A S
unfolding place_of
place_found A S None h = lowest_one (record { within = omega arith; before = λ v l. h v (omega arith) l; found = λ l. absurd (omega arith) }) (lowest_is (short_loop_of S A) S)
place_found A S (Some p) h = lowest_one (record { within = omega arith; before = λ v l. h.3 v (omega arith) l; found = λ l. h.2 }) (lowest_is (short_loop_of S A) S)

-- the largest totals of n + 1 edges, with one edge more
pub back_next : (S v n i : ℕ) (A : ℕ → ℕ → Best) (l : ℕ → Best) → ((m : ℕ) → m < S → l m ≡ back S A v n m) → sup_to (λ m. plus (A i m) (l m)) S ≡ back S A v (n + 1) i
unfolding back
back_next S v n i A l h = rw add-one (sup_same (λ m. plus (A i m) (l m)) (λ m. plus (A i m) (back S A v n m)) S (λ m p. ap (plus (A i m)) (h m p)))
