-- The square relaxed through the streams below k holds the longest walks whose inner streams are below k, where no loop on the way is 0 or more.
-- Assumes nothing.
use mathlib.Core.Path.{◌≡◌, sym, subst}
use mathlib.Core.Logic.{◌⊎◌, inl, inr, ⊎_elim}
use mathlib.Core.Bool.{true}
use Prim.Native.Nat.{ℕ, zero, suc, ◌<◌}
use native.Mathlib.Omega.{arith}
use native.Mathlib.Nat.{not-suc-le-zero, le_of_suc-le-suc}
use lib.IntN.{ℤ, ◌+ℤ◌, +ℤ_assoc}
use Rattle.basis.proofs.Parts.{sum_parts, le_parts, le_from_parts, lt_parts}
use Rattle.basis.proofs.Tests.{lt_or_eq}
use Rattle.walks.specs.Walks.{Edges}
use Rattle.walks.specs.Longest.{Best, some, larger, plus, below, through}
use Rattle.walks.proofs.Best.{Covers, Largest, covers_left, covers_right, covers_down, larger_cases, plus_covers, covers_some, covers_self, plus_some, larger_is, plus_is, below_some}

-- a walk of at least one edge from i to j whose inner streams are all below k, with its total
pub data WalkIn (E : Edges) (k : ℕ) : ℕ → ℕ → ℤ → Type 0 where
  last : {i j : ℕ} {w : ℤ} → E i j w → WalkIn E k i j w
  next : {i m j : ℕ} {w t : ℤ} → E i m w → m < k → WalkIn E k m j t → WalkIn E k i j (w +ℤ t)

module _ {E : Edges} where
  widen : {k : ℕ} {i j : ℕ} {t : ℤ} → WalkIn E k i j t → WalkIn E (suc k) i j t
  widen (last e) = last e
  widen (next e h u) = next e (omega arith) (widen u)

  pub join : {k : ℕ} {i m j : ℕ} {s t : ℤ} → m < k → WalkIn E k i m s → WalkIn E k m j t → WalkIn E k i j (s +ℤ t)
  join h (last e) v = next e h v
  join {k} {i} {m} {j} {t} h (next {w = w} {t = s} e g u) v = subst (λ (z : ℤ). WalkIn E k i j z) (sym (+ℤ_assoc w s t)) (next e g (join h u v))

module _ (E : Edges) (A : ℕ → ℕ → Best) (A-is : (i j : ℕ) → Largest (E i j) (A i j)) where
  -- what stands in the square is the total of a walk
  pub real : (k i j : ℕ) (t : ℤ) → through A k i j ≡ some t → WalkIn E k i j t
  unfolding through
  real zero i j t e = last ((A-is i j).real t e)
  real (suc k) i j t e = ⊎_elim (λ p. widen (real k i j t p)) (λ p. let q = plus_is (through A k i k) (through A k k j) t p in
      subst (λ (z : ℤ). WalkIn E (suc k) i j z) q.4 (join (omega arith) (widen (real k i k q.0 q.2)) (widen (real k k j q.1 q.3))))
      (larger_is (through A k i j) (plus (through A k i k) (through A k k j)) t e)

  -- an edge in front of a walk that the square covers
  module _ (k : ℕ) (all : (i j : ℕ) (t : ℤ) → WalkIn E k i j t → Covers (through A k i j) t) (neg : below (through A k k k) ≡ true) where
    -- an edge to m below k, before what the square has from m to j
    front : {i m : ℕ} {w : ℤ} (j : ℕ) {t : ℤ} → E i m w → m < k → Covers (through A k m j) t → Covers (through A k i j) (w +ℤ t)
    front {i} {m} {w} j {t} e h c =
        let q = covers_some c in
        covers_down (le_from_parts (w +ℤ t) (w +ℤ q.0) (omega (arith, sum_parts w t, sum_parts w q.0, le_parts q.2))) (all i j (w +ℤ q.0) (next e h (real k m j q.0 q.1)))

    -- from k, a loop at k first brings nothing
    no_loop : (j : ℕ) (t : ℤ) → Covers (plus (through A k k k) (through A k k j)) t → Covers (through A k k j) t
    no_loop j t c =
        let q = plus_some (through A k k k) (through A k k j) t c in
        covers_down (le_from_parts t q.1 (omega (arith, sum_parts q.0 q.1, le_parts q.4, lt_parts (below_some neg q.2)))) (covers_self q.3)

    front_via : {i m : ℕ} {w : ℤ} (j : ℕ) (t : ℤ) → E i m w → m < k → Covers (plus (through A k m k) (through A k k j)) t → Covers (plus (through A k i k) (through A k k j)) (w +ℤ t)
    front_via {i} {m} {w} j t e h c =
        let q = plus_some (through A k m k) (through A k k j) t c in
        covers_down (le_from_parts (w +ℤ t) ((w +ℤ q.0) +ℤ q.1) (omega (arith, sum_parts w t, sum_parts (w +ℤ q.0) q.1, sum_parts w q.0, sum_parts q.0 q.1, le_parts q.4)))
        (plus_covers (front k e h (covers_self q.2)) (covers_self q.3))

    all_suc : {i j : ℕ} {t : ℤ} → WalkIn E (suc k) i j t → Covers (through A (suc k) i j) t
    unfolding through
    all_suc {i} {j} {t} (last e) = covers_left (plus (through A k i k) (through A k k j)) (all i j t (last e))
    all_suc {i} {j} (next {m = m} {w = w} {t = t} e h u) = case (lt_or_eq (le_of_suc-le-suc h)) (all_suc u)
      where
        case : (m < k) ⊎ (m ≡ k) → Covers (larger (through A k m j) (plus (through A k m k) (through A k k j))) t → Covers (larger (through A k i j) (plus (through A k i k) (through A k k j))) (w +ℤ t)
        case (inl g) c = ⊎_elim (λ p. covers_left (plus (through A k i k) (through A k k j)) (front j e g p)) (λ p. covers_right (through A k i j) (front_via j t e g p))
            (larger_cases (through A k m j) (plus (through A k m k) (through A k k j)) t c)
        case (inr g) c = covers_right (through A k i j) (plus_covers (all i k w (last (subst (λ (x : ℕ). E i x w) g e)))
            (⊎_elim (λ p. p) (λ p. no_loop j t p)
            (larger_cases (through A k k j) (plus (through A k k k) (through A k k j)) t (subst (λ (x : ℕ). Covers (larger (through A k x j) (plus (through A k x k) (through A k k j))) t) g c))))

  -- with no loop of 0 or more through the streams below k, the square covers every walk
  pub all : (k : ℕ) → ((m : ℕ) → m < k → below (through A m m m) ≡ true) → (i j : ℕ) (t : ℤ) → WalkIn E k i j t → Covers (through A k i j) t
  unfolding through
  all zero neg i j t (last e) = (A-is i j).all t e
  all zero neg i j t (next e h u) = absurd (not-suc-le-zero h)
  all (suc k) neg i j t u = all_suc k (all k (λ m h. neg m (omega arith))) (neg k (omega arith)) u
