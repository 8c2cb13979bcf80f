-- The tests of a row pass exactly the well-formed ones (document 01, refusals 14 and 15).
-- Assumes nothing.
use Prim.Native.Nat.{ℕ, zero, suc, ◌+◌, ◌≤◌, ◌<◌}
use mathlib.Core.Path.{◌≡◌, refl}
use mathlib.Core.Bool.{Bool, true, false, not, cond}
use mathlib.Core.List.{List}
use mathlib.Core.Logic.{◌⊎◌, inl, inr}
use lib.Dec.{eqb, ltb}
use lib.ListN.{length, get_or}
use native.Mathlib.Omega.{arith}
use borrow.Author.Tests.{eqb-true, eq-eqb, ltb-true, ltb-false, le-ltb, not-true}
use Rattle.basis.proofs.Tests.{and_true, lt_or_eq}
use Rattle.table.specs.Table.{Table}
use Rattle.prepare.specs.PlanFor.{WellFormedRow, bad_flag, first_bad_of, row_fits_of}

module _ (types ws : List ℕ) where
  -- the flag words of k streams from x on are at most 1
  abbrev GoodFlags : ℕ → ℕ → Type 0
  GoodFlags k x = (v : ℕ) → x ≤ v → v < x + k → get_or types v 0 ≡ 0 → get_or ws v 0 ≤ 1

  none_bad : (k x : ℕ) → GoodFlags k x → x + k ≤ first_bad_of types ws k x
  unfolding first_bad_of
  none_bad zero x h = omega arith
  none_bad (suc k) x h = go (bad_flag types ws x) refl (none_bad k (suc x) (λ v a b. h v (omega arith) (omega arith)))
    where
      go : (b : Bool) → bad_flag types ws x ≡ b → suc x + k ≤ first_bad_of types ws k (suc x) → x + suc k ≤ cond b x (first_bad_of types ws k (suc x))
      go true e l =
          let p = and_true (eqb (get_or types x 0) 0) (ltb 1 (get_or ws x 0)) e in
          absurd (omega (arith, ltb-true 1 (get_or ws x 0) p.1, h x (omega arith) (omega arith) (eqb-true (get_or types x 0) 0 p.0)))
      go false e l = omega arith

  flags_good : (k x : ℕ) → x + k ≤ first_bad_of types ws k x → GoodFlags k x
  unfolding first_bad_of
  flags_good zero x h v a b e = absurd (omega arith)
  flags_good (suc k) x h v a b e = go (bad_flag types ws x) refl h (lt_or_eq a) (λ l q. flags_good k (suc x) l v q (omega arith) e)
    where
      go : (c : Bool) → bad_flag types ws x ≡ c → x + suc k ≤ cond c x (first_bad_of types ws k (suc x)) → (x < v) ⊎ (x ≡ v)
          → (suc x + k ≤ first_bad_of types ws k (suc x) → suc x ≤ v → get_or ws v 0 ≤ 1) → get_or ws v 0 ≤ 1
      go true f l q ih = absurd (omega arith)
      go false f l (inl q) ih = ih (omega arith) q
      go false f l (inr q) ih = ltb-false _ _ (rw (q, eq-eqb _ _ e) at f)

module _ (t : Table) (ws : List ℕ) where
  abbrev bad : ℕ
  bad = first_bad_of t.types ws t.inputs 0

  pub row_fits : WellFormedRow t ws → row_fits_of t ws ≡ true
  row_fits w =
      let l : t.inputs ≤ bad = omega (arith, none_bad t.types ws t.inputs 0 (λ v a b. w.flags v (omega arith))) in
      rw (eq-eqb _ _ w.words, le-ltb _ _ l)

  pub fits_row : row_fits_of t ws ≡ true → WellFormedRow t ws
  fits_row h =
      let p = and_true (eqb (length ws) t.inputs) (not (ltb bad t.inputs)) h in
      let l : t.inputs ≤ bad = ltb-false _ _ (not-true (ltb bad t.inputs) p.1) in
      record { words = eqb-true _ _ p.0; flags = λ x b. flags_good t.types ws t.inputs 0 (omega arith) x (omega arith) (omega arith) }
