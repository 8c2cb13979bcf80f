-- Every loop is below 0 exactly where the diagonal of the relaxed square is (document 01, "Acceptance needs every loop's total below 0").
-- E are any edges between streams below S, A holds the largest of each pair. Assumes nothing.
use mathlib.Core.Path.{◌≡◌, refl, sym, ◌∙◌, subst}
use mathlib.Core.Logic.{⊎_elim}
use mathlib.Core.Bool.{Bool, true, false, ◌&&◌}
use Prim.Native.Nat.{ℕ, zero, suc, ◌≤◌, ◌<◌}
use native.Mathlib.Omega.{arith}
use native.Mathlib.Nat.{not-suc-le-zero, le_of_suc-le-suc}
use lib.IntN.{ℤ, pos, +ℤ_idr}
use lib.Signed.{◌≤ℤ◌}
use Rattle.basis.proofs.Parts.{le_parts, lt_parts, lt_from_parts}
use Rattle.basis.proofs.Tests.{lt_or_eq, and_true, true_and, true_false}
use Rattle.walks.specs.Walks.{Edges, Within, Walk, stay, step, LoopsBelow}
use Rattle.walks.specs.Longest.{Best, some, plus, below, through, all_below, loops_below_of}
use Rattle.walks.proofs.Best.{Covers, Largest, below_some, below_larger, not_below, covers_some}
use Rattle.walks.proofs.Through.{WalkIn, last, next, real, all}

-- ---- the test of the first n

pub all_below_each : (f : ℕ → Best) (n : ℕ) → all_below f n ≡ true → (m : ℕ) → m < n → below (f m) ≡ true
unfolding all_below
all_below_each f zero e m h = absurd (not-suc-le-zero h)
all_below_each f (suc n) e m h = let q = and_true (all_below f n) (below (f n)) e in
    ⊎_elim (λ p. all_below_each f n q.0 m p) (λ p. subst (λ (x : ℕ). below (f x) ≡ true) (sym p) q.1) (lt_or_eq (le_of_suc-le-suc h))

pub each_all_below : (f : ℕ → Best) (n : ℕ) → ((m : ℕ) → m < n → below (f m) ≡ true) → all_below f n ≡ true
unfolding all_below
each_all_below f zero h = refl
each_all_below f (suc n) h = true_and (each_all_below f n (λ m p. h m (omega arith))) (h n (omega arith))

-- where the test fails, one of the first n is there and 0 or more
pub record NotBelow (f : ℕ → Best) (n : ℕ) : Type 0 where
  pub at : ℕ
  pub low : at < n
  pub t : ℤ
  pub is : f at ≡ some t
  pub up_to : pos 0 ≤ℤ t

pub some_not_below : (f : ℕ → Best) (n : ℕ) → all_below f n ≡ false → NotBelow f n
unfolding all_below
some_not_below f zero e = true_false refl e
some_not_below f (suc n) e = go (all_below f n) (below (f n)) refl e (some_not_below f n)
  where
    go : (a b : Bool) → below (f n) ≡ b → a && b ≡ false → (a ≡ false → NotBelow f n) → NotBelow f (suc n)
    go true b q r below-n = let w = not_below (f n) (q ∙ r) in record { at = n; low = omega arith; t = w.0; is = w.1; up_to = w.2 }
    go false b q r below-n = let w = below-n refl in record { at = w.at; low = let h = w.low in omega arith; t = w.t; is = w.is; up_to = w.up_to }

-- ---- walks by their number of edges and walks by their inner streams

module _ {E : Edges} where
  pub inner : {S : ℕ} → Within E S → {n i j : ℕ} {t : ℤ} → Walk E (suc n) i j t → WalkIn E S i j t
  inner {S} r {i = i} {j = j} (step {k = w} e stay) = subst (λ (z : ℤ). WalkIn E S i j z) (sym (+ℤ_idr w)) (last e)
  inner {S} r {i = i} (step {m = m} {k = w} e (step f u)) = next e (r i m w e).1 (inner r (step f u))

  pub outer : {k i j : ℕ} {t : ℤ} → WalkIn E k i j t → (n : ℕ) × Walk E (suc n) i j t
  outer {i = i} {j = j} (last {w = w} e) = (zero, subst (λ (z : ℤ). Walk E (suc zero) i j z) (+ℤ_idr w) (step e stay))
  outer (next e h u) = let q = outer u in (suc q.0, step e q.1)

  pub start_within : {S n i j : ℕ} {t : ℤ} → Within E S → Walk E (suc n) i j t → i < S
  start_within {i = i} r (step {m = m} {k = w} e u) = (r i m w e).0

  pub end_within : {S n i j : ℕ} {t : ℤ} → Within E S → Walk E (suc n) i j t → j < S
  end_within {i = i} {j = j} r (step {k = w} e stay) = (r i j w e).1
  end_within r (step e (step f u)) = end_within r (step f u)

-- a diagonal that ends below 0 was below 0 all along
diagonal_was : (A : ℕ → ℕ → Best) (v k S : ℕ) → k ≤ S → below (through A S v v) ≡ true → below (through A k v v) ≡ true
unfolding through
diagonal_was A v k zero q h = let e : zero ≡ k = omega arith in subst (λ (n : ℕ). below (through A n v v) ≡ true) e h
diagonal_was A v k (suc S) q h = ⊎_elim (λ p. diagonal_was A v k S (omega arith) (below_larger (through A S v v) (plus (through A S v S) (through A S S v)) h)) (λ e. subst (λ (n : ℕ). below (through A n v v) ≡ true) (sym e) h) (lt_or_eq q)

module _ (E : Edges) (S : ℕ) (A : ℕ → ℕ → Best) (A-is : (i j : ℕ) → Largest (E i j) (A i j)) (ends : Within E S) where
  -- the square covers every walk of one edge or more
  pub square_covers : loops_below_of (through A S) S ≡ true → (i j : ℕ) (t : ℤ) → WalkIn E S i j t → Covers (through A S i j) t
  unfolding loops_below_of
  square_covers neg = all E A A-is S (λ m h. diagonal_was A m m S (omega arith) (all_below_each (λ v. through A S v v) S neg m h))

  -- a diagonal below 0 shuts out every loop of 0 or more
  pub diagonal_loops : loops_below_of (through A S) S ≡ true → LoopsBelow E
  unfolding LoopsBelow loops_below_of
  diagonal_loops neg n v t u =
      let q = covers_some (square_covers neg v v t (inner ends u)) in
      lt_from_parts t (pos 0) (omega (arith, le_parts q.2, lt_parts (below_some (all_below_each (λ v. through A S v v) S neg v (start_within ends u)) q.1)))

  -- a diagonal of 0 or more tells a loop
  pub diagonal_loop : loops_below_of (through A S) S ≡ false → (n : ℕ) × (v : ℕ) × (t : ℤ) × Walk E (suc n) v v t × (pos 0 ≤ℤ t)
  unfolding loops_below_of
  diagonal_loop e = let w = some_not_below (λ v. through A S v v) S e in
      let q = outer (real E A A-is S w.at w.at w.t w.is) in (q.0, w.at, w.t, q.1, w.up_to)

  -- and where every loop is below 0 the diagonal is
  pub loops_diagonal : LoopsBelow E → loops_below_of (through A S) S ≡ true
  unfolding LoopsBelow
  loops_diagonal h = go (loops_below_of (through A S) S) refl
    where
      go : (b : Bool) → loops_below_of (through A S) S ≡ b → loops_below_of (through A S) S ≡ true
      go true e = e
      go false e = let q = diagonal_loop e in absurd (omega (arith, lt_parts (h q.0 q.1 q.2 q.3), le_parts q.4))
