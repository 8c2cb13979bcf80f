-- The place of refusal 7: "lowest stream with a walk of 1 to S edges back to itself totalling 0 or more", by the largest total at each number of edges.
-- E are any edges between streams below S, A holds the largest of each pair. Assumes nothing.
use mathlib.Core.Path.{◌≡◌, refl, sym, ap₂, subst}
use mathlib.Core.Bool.{Bool, true, false, cond}
use mathlib.Core.Logic.{⊎_elim}
use Prim.Native.Nat.{ℕ, zero, suc, ◌≤◌, ◌<◌, suc-le-suc}
use native.Mathlib.Omega.{arith}
use native.Mathlib.Nat.{not-suc-le-zero, le_of_suc-le-suc}
use lib.IntN.{ℤ, ◌+ℤ◌, +ℤ_idr}
use borrow.Author.Tests.{not-true, not-false}
use Rattle.basis.proofs.Parts.{le_parts, lt_parts}
use Rattle.basis.proofs.Tests.{lt_or_eq, lt_or_ge, true_false}
use Rattle.walks.specs.Walks.{Edges, Within, Walk, stay, step, ShortLoop, PlaceOfLoop}
use Rattle.walks.specs.Longest.{Best, some, larger, plus, through, all_below, loops_below_of, sup_to, back, short_loop_of, lowest, place_of}
use Rattle.walks.proofs.Best.{Covers, Largest, covers_left, covers_right, plus_covers, covers_some, larger_is, plus_is, none_some, below_some}
use Rattle.walks.proofs.Loops.{all_below_each, some_not_below, start_within, diagonal_loop}
use Rattle.walks.proofs.Short.{short_loop_lem}

-- ---- the largest of the first n

sup_covers : (f : ℕ → Best) (n m : ℕ) (t : ℤ) → m < n → Covers (f m) t → Covers (sup_to f n) t
unfolding sup_to
sup_covers f zero m t h c = absurd (not-suc-le-zero h)
sup_covers f (suc n) m t h c = ⊎_elim (λ p. covers_left (f n) (sup_covers f n m t p c)) (λ e. covers_right (sup_to f n) (subst (λ (x : ℕ). Covers (f x) t) e c)) (lt_or_eq (le_of_suc-le-suc h))

sup_is : (f : ℕ → Best) (n : ℕ) (t : ℤ) → sup_to f n ≡ some t → (m : ℕ) × (f m ≡ some t)
unfolding sup_to
sup_is f zero t e = none_some e
sup_is f (suc n) t e = ⊎_elim (λ p. sup_is f n t p) (λ p. (n, p)) (larger_is (sup_to f n) (f n) t e)

pub sup_same : (f g : ℕ → Best) (n : ℕ) → ((m : ℕ) → m < n → f m ≡ g m) → sup_to f n ≡ sup_to g n
unfolding sup_to
sup_same f g zero h = refl
sup_same f g (suc n) h = ap₂ larger (sup_same f g n (λ m p. h m (omega arith))) (h n (omega arith))

-- ---- the lowest with a property

pub record Lowest (f : ℕ → Bool) (n p : ℕ) : Type 0 where
  pub within : p ≤ n
  pub before : (v : ℕ) → v < p → f v ≡ false
  pub found : p < n → f p ≡ true

lowest_shift : {f : ℕ → Bool} {n p : ℕ} → f zero ≡ false → Lowest (λ v. f (suc v)) n p → Lowest f (suc n) (suc p)
lowest_shift {f} {n} {p} e l = record { within = suc-le-suc l.within; before = below_p; found = λ h. l.found (le_of_suc-le-suc h) }
  where
    below_p : (v : ℕ) → v < suc p → f v ≡ false
    below_p zero h = e
    below_p (suc v) h = l.before v (le_of_suc-le-suc h)

pub lowest_is : (f : ℕ → Bool) (n : ℕ) → Lowest f n (lowest f n)
unfolding lowest
lowest_is f zero = record { within = omega arith; before = λ v h. absurd (not-suc-le-zero h); found = λ h. absurd (not-suc-le-zero h) }
lowest_is f (suc n) = go (f zero) refl (lowest_is (λ v. f (suc v)) n)
  where
    go : (b : Bool) → f zero ≡ b → Lowest (λ v. f (suc v)) n (lowest (λ v. f (suc v)) n) → Lowest f (suc n) (cond b zero (suc (lowest (λ v. f (suc v)) n)))
    go true e l = record { within = omega arith; before = λ v h. absurd (not-suc-le-zero h); found = λ h. e }
    go false e l = lowest_shift e l

not_before : {f : ℕ → Bool} {n p q : ℕ} → Lowest f n p → Lowest f n q → p < q → ⊥
not_before {p = p} x y h = true_false (x.found (let w = y.within in omega arith)) (y.before p h)

pub lowest_one : {f : ℕ → Bool} {n p q : ℕ} → Lowest f n p → Lowest f n q → p ≡ q
lowest_one {f} {n} {p} {q} x y = ⊎_elim (λ h. absurd (not_before x y h)) (λ h. ⊎_elim (λ g. absurd (not_before y x g)) (λ g. sym g) (lt_or_eq h)) (lt_or_ge p q)

module _ (E : Edges) (S : ℕ) (A : ℕ → ℕ → Best) (A-is : (i j : ℕ) → Largest (E i j) (A i j)) (ends : Within E S) where
  module _ (v : ℕ) where
    back_all : (n : ℕ) {i : ℕ} {t : ℤ} → Walk E (suc n) i v t → Covers (back S A v n i) t
    unfolding back
    back_all zero {i} (step {k = w} e stay) = subst (λ (z : ℤ). Covers (A i v) z) (sym (+ℤ_idr w)) ((A-is i v).all w e)
    back_all (suc n) {i} (step {m = m} {k = w} {t = t} e u) = sup_covers (λ x. plus (A i x) (back S A v n x)) S m (w +ℤ t) (ends i m w e).1 (plus_covers ((A-is i m).all w e) (back_all n u))

    back_real : (n i : ℕ) (t : ℤ) → back S A v n i ≡ some t → Walk E (suc n) i v t
    unfolding back
    back_real zero i t e = subst (λ (z : ℤ). Walk E (suc zero) i v z) (+ℤ_idr t) (step ((A-is i v).real t e) stay)
    back_real (suc n) i t e =
        let q = sup_is (λ x. plus (A i x) (back S A v n x)) S t e in
        let p = plus_is (A i q.0) (back S A v n q.0) t q.1 in
        subst (λ (z : ℤ). Walk E (suc (suc n)) i v z) p.4 (step ((A-is i q.0).real p.0 p.2) (back_real n q.0 p.1 p.3))

    -- the test of a stream says whether it has a short loop
    pub no_short_loop : short_loop_of S A v ≡ false → ShortLoop E S v → ⊥
    unfolding short_loop_of
    no_short_loop e l =
        let q = covers_some (back_all l.n l.loop) in
        omega (arith, le_parts l.up_to, le_parts q.2, lt_parts (below_some (all_below_each (λ n. back S A v n v) S (not-false (all_below (λ n. back S A v n v) S) e) l.n l.few) q.1))

    pub a_short_loop : short_loop_of S A v ≡ true → ShortLoop E S v
    unfolding short_loop_of
    a_short_loop e =
        let w = some_not_below (λ n. back S A v n v) S (not-true (all_below (λ n. back S A v n v) S) e) in
        record { n = w.at; t = w.t; few = w.low; up_to = w.up_to; loop = back_real w.at v w.t w.is }

  -- where the diagonal is not below 0 the place is there
  pub place_of_loop_lem : loops_below_of (through A S) S ≡ false → PlaceOfLoop E S (place_of A S)
  unfolding place_of
  place_of_loop_lem d = go (lowest_is (short_loop_of S A) S)
    where
      short : (x : ℕ) × ShortLoop E S x
      short = let q = diagonal_loop E S A A-is ends d in short_loop_lem S ends q.3 q.4

      go : {p : ℕ} → Lowest (short_loop_of S A) S p → PlaceOfLoop E S p
      go {p} l = ⊎_elim
          (λ h. record { within = h; loop = a_short_loop p (l.found h); lowest = λ v g. no_short_loop v (l.before v g) })
          (λ e. absurd (no_short_loop short.0 (l.before short.0 (subst (λ (x : ℕ). short.0 < x) (sym e) (start_within ends short.1.loop))) short.1))
          (lt_or_eq l.within)
