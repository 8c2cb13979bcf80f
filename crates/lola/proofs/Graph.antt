-- Source 004's future bounded specifications are those whose loops are all below 0, and its look-ahead distance is document 01's
-- look-ahead ("What the check announces").
-- Assumes nothing.
use Prim.Native.Nat.{ℕ, zero, suc}
use mathlib.Core.Path.{◌≡◌, refl, sym, ap, subst}
use mathlib.Core.Logic.{◌⊎◌, inl, inr, ⊎_elim}
use native.Mathlib.Omega.{arith}
use lib.IntN.{ℤ, pos}
use lib.Signed.{◌≤ℤ◌}
use Rattle.basis.specs.Parts.{up}
use Rattle.basis.proofs.Parts.{le_from_parts}
use Rattle.walks.specs.Walks.{Edges, Walk, stay, step, LoopsBelow, LookAhead}
use Rattle.walks.proofs.Cycles.{no_cycle_loops, loops_no_zero, loops_no_cycle}
use Rattle.lola.specs.Expressions.{Spec}
use Rattle.lola.specs.Graph.{Depends, FutureBounded, LookAheadDistance}

-- a walk is empty, and totals 0, or it has an edge
empty_or_not : {E : Edges} {n i j : ℕ} {t : ℤ} → Walk E n i j t → (t ≡ pos 0) ⊎ ((m : ℕ) × Walk E (suc m) i j t)
empty_or_not stay = inl refl
empty_or_not (step {n = n} e w) = inr (n, step e w)

module _ {W F : Type 0} (s : Spec W F) where
  -- definition 14 is "every loop's total below 0"
  pub bounded_below : FutureBounded s → LoopsBelow (Depends s)
  bounded_below b = no_cycle_loops b.formed b.bounded

  pub below_bounded : LoopsBelow (Depends s) → FutureBounded s
  below_bounded h = record { formed = loops_no_zero h; bounded = loops_no_cycle h }

  -- definition 15 is "the largest total of a walk from v, the empty walk (0) included"
  pub ahead_distance : {v a : ℕ} → LookAhead (Depends s) v a → LookAheadDistance s v a
  ahead_distance {v} {a} h = let r = h.real in record {
    all = λ n. h.all (suc n);
    real = ⊎_elim (λ e. inl (ap up e)) (λ q. inr (q.0, r.1, q.1)) (empty_or_not r.2);
  }

  pub distance_ahead : {v a : ℕ} → LookAheadDistance s v a → LookAhead (Depends s) v a
  distance_ahead {v} {a} h = record {
    all = λ n j t w. ⊎_elim (λ e. subst (λ (z : ℤ). z ≤ℤ pos a) (sym e) (le_from_parts (pos 0) (pos a) (omega arith))) (λ q. h.all q.0 j t q.1) (empty_or_not w);
    real = ⊎_elim (λ e. (zero, v, subst (λ (b : ℕ). Walk (Depends s) zero v v (pos b)) (sym e) stay)) (λ q. (suc q.0, q.1, q.2)) h.real;
  }
