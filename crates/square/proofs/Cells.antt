-- What a cell says, and what the answers of one cell say, on integers.
-- Assumes nothing.
use mathlib.Core.Path.{◌≡◌, refl, sym, ap, ap₂, ◌∙◌, subst}
use mathlib.Core.Bool.{Bool, true, false, cond}
use Prim.Native.Nat.{ℕ, zero, suc, ◌-◌, ◌^◌, ◌<◌, max}
use native.Mathlib.Omega.{arith}
use lib.IntN.{ℤ, pos, negsuc, ◌+ℤ◌, ◌-ℤ◌, ℤ_discrete}
use lib.Signed.{mag, lt_z, le_z}
use mathlib.Core.Logic.{⊎_elim}
use Rattle.std.specs.Int.{int_max}
use Rattle.std.proofs.lemmas.Int.{int_max_is}
use lib.Dec.{eqb, ltb, leb-zero}
use borrow.Author.Tests.{ltb-true, ltb-false, le-ltb, ne_eqb}
use mir.Syntax.{w64}
use mir.Val.{SFits, to_z, of_z}
use mir.Facts.{to_z-of_z}
use Rattle.limits.specs.Limits.{rise_of_zero}
use Rattle.basis.specs.Parts.{up, down}
use Rattle.basis.proofs.Parts.{le_parts, eq_from_parts, mag_parts, mag_sum}
use Rattle.basis.proofs.Tests.{true_false}
use Rattle.walks.specs.Longest.{none, some, larger, plus, relax_b, max_z, below, or_more}
use Rattle.walks.proofs.Best.{max_both, max_is, larger_none, plus_none}
use Rattle.square.specs.Square.{NO, best, Small, rise_best}
use Rattle.square.proofs.Sizes.{small_mag}

pub best_no : best NO ≡ none
unfolding best
best_no = refl

pub best_some : (z : ℤ) → (z ≡ NO → ⊥) → best z ≡ some z
unfolding best
best_some (pos n) h = refl
best_some (negsuc n) h = rw (ne_eqb n 9223372036854775807 (λ e. h (ap negsuc e)))

-- the test against the least number, both ways
pub is_no : {x : ℤ} → SFits w64 x → of_z w64 x ≡ 9223372036854775808 → x ≡ NO
is_no f e = sym (to_z-of_z f) ∙ ap (to_z w64) e

pub not_no : {x : ℤ} → (of_z w64 x ≡ 9223372036854775808 → ⊥) → x ≡ NO → ⊥
not_no h e = h (ap (of_z w64) e)

pub back_sum : {l r : ℤ} → SFits w64 l → SFits w64 r → to_z w64 (of_z w64 l) +ℤ to_z w64 (of_z w64 r) ≡ l +ℤ r
back_sum f g = ap₂ ◌+ℤ◌ (to_z-of_z f) (to_z-of_z g)

-- a number that is there and small
pub small_there : {l : ℤ} → Small 61 (best l) → (l ≡ NO → ⊥) → mag l < 2 ^ 61
small_there {l} s h = small_mag (subst (Small 61) (best_some l h) s)

sum_small : {l r : ℤ} → Small 61 (best l) → Small 61 (best r) → (l ≡ NO → ⊥) → (r ≡ NO → ⊥) → mag (l +ℤ r) < 2 ^ 62
sum_small {l} {r} s t h k = mag_sum (2 ^ 61) l r (small_there s h) (small_there t k)

pub sum_fits : {l r : ℤ} → Small 61 (best l) → Small 61 (best r) → (l ≡ NO → ⊥) → (r ≡ NO → ⊥) → SFits w64 (l +ℤ r)
sum_fits {l} {r} s t h k = let p = sum_small s t h k in record { sfits = omega arith }

not_least : {z : ℤ} → mag z < 2 ^ 62 → z ≡ NO → ⊥
not_least {z} p e = let q : mag z ≡ 9223372036854775807 = ap mag e in omega arith

-- the larger of two by std and by the definition
int_max_z : (a b : ℤ) → int_max a b ≡ max_z a b
int_max_z a b = let p = max_both a b in eq_from_parts (int_max a b) (max_z a b) (⊎_elim (λ e. omega (arith, int_max_is a b, le_parts p.1, ap up e, ap down e)) (λ e. omega (arith, int_max_is a b, le_parts p.0, ap up e, ap down e)) (max_is a b))

least_max : {z : ℤ} → mag z < 2 ^ 62 → int_max NO z ≡ z
least_max {z} p = let q = mag_parts z (2 ^ 62) p in eq_from_parts (int_max NO z) z (omega (arith, int_max_is NO z, q.0, q.1))

not_least_max : (o z : ℤ) → (o ≡ NO → ⊥) → mag z < 2 ^ 62 → int_max o z ≡ NO → ⊥
not_least_max o z n p e = ⊎_elim (λ q. n (sym (int_max_z o z ∙ q) ∙ e)) (λ q. not_least p (sym (int_max_z o z ∙ q) ∙ e)) (max_is o z)

module _ (o l r : ℤ) where
  pub no_left : l ≡ NO → best o ≡ relax_b (best o) (best l) (best r)
  no_left e = rw (e, best_no) (sym (larger_none (best o)))

  pub no_right : r ≡ NO → best o ≡ relax_b (best o) (best l) (best r)
  no_right e = rw (e, best_no, plus_none) (sym (larger_none (best o)))

  module _ (s : Small 61 (best l)) (t : Small 61 (best r)) (h : l ≡ NO → ⊥) (k : r ≡ NO → ⊥) where
    best_sum : best (l +ℤ r) ≡ plus (best l) (best r)
    best_sum = best_some (l +ℤ r) (not_least (sum_small s t h k)) ∙ sym (ap₂ plus (best_some l h) (best_some r k))

    -- NONE is below the sum
    larger_sum : best (int_max o (l +ℤ r)) ≡ relax_b (best o) (best l) (best r)
    larger_sum = go (ℤ_discrete o NO)
      where
        m : mag (l +ℤ r) < 2 ^ 62
        m = sum_small s t h k

        go : Dec (o ≡ NO) → best (int_max o (l +ℤ r)) ≡ relax_b (best o) (best l) (best r)
        go (yes e) = rw (e, best_no, least_max m) best_sum
        go (no n) = best_some (int_max o (l +ℤ r)) (not_least_max o (l +ℤ r) n m) ∙ sym (ap₂ larger (best_some o n) (ap₂ plus (best_some l h) (best_some r k)) ∙ ap some (sym (int_max_z o (l +ℤ r))))

-- as the code computes it, where both are there
pub relaxed_is : (o l r x : ℤ) → SFits w64 o → SFits w64 l → SFits w64 r → mag x < 2 ^ 63 → Small 61 (best l) → Small 61 (best r) → (of_z w64 l ≡ 9223372036854775808 → ⊥) → (of_z w64 r ≡ 9223372036854775808 → ⊥)
    → x ≡ int_max (to_z w64 (of_z w64 o)) (to_z w64 (of_z w64 (to_z w64 (of_z w64 l) +ℤ to_z w64 (of_z w64 r)))) → best (to_z w64 (of_z w64 x)) ≡ relax_b (best o) (best l) (best r)
relaxed_is o l r x fo fl fr fx s t h k e =
    let sum = ap (λ (z : ℤ). to_z w64 (of_z w64 z)) (back_sum fl fr) ∙ to_z-of_z (sum_fits s t (not_no h) (not_no k)) in
    ap best (to_z-of_z {w = w64} (record { sfits = fx }) ∙ e ∙ ap₂ int_max (to_z-of_z fo) sum) ∙ larger_sum o l r s t (not_no h) (not_no k)

-- the test `z < 0`, where NONE is below
pub below_is : (z : ℤ) → below (best z) ≡ lt_z z (pos 0)
unfolding best
below_is (pos n) = refl
below_is (negsuc n) = negative (eqb n 9223372036854775807)
  where
    negative : (b : Bool) → below (cond b none (some (negsuc n))) ≡ true
    negative true = refl
    negative false = refl

-- the test `z >= 0`
pub test_below : (z : ℤ) → le_z (pos 0) z ≡ false → below (best z) ≡ true
unfolding best
test_below (pos n) e = true_false (leb-zero n) e
test_below (negsuc n) e = negative (eqb n 9223372036854775807)
  where
    negative : (b : Bool) → below (cond b none (some (negsuc n))) ≡ true
    negative true = refl
    negative false = refl

pub test_up : (z : ℤ) → le_z (pos 0) z ≡ true → below (best z) ≡ false
unfolding best
test_up (pos n) e = le-ltb n 0 (omega arith)
test_up (negsuc n) e = true_false e refl

-- one more of a row, for the largest so far
grow_z : (n : ℕ) (z : ℤ) → max_z (pos n) z ≡ pos (or_more n (best z))
unfolding best
grow_z n (pos m) = larger_of (ltb n m) refl
  where
    larger_of : (b : Bool) → ltb n m ≡ b → cond b (pos m) (pos n) ≡ pos (max n m)
    larger_of true e = ap pos (omega (arith, ltb-true n m e))
    larger_of false e = ap pos (omega (arith, ltb-false n m e))
grow_z n (negsuc m) = stays (eqb m 9223372036854775807)
  where
    stays : (b : Bool) → pos n ≡ pos (or_more n (cond b none (some (negsuc m))))
    stays true = refl
    stays false = ap pos (omega arith)

pub grow : (n : ℕ) (z : ℤ) → int_max (pos n) z ≡ pos (or_more n (best z))
grow n z = int_max_z (pos n) z ∙ grow_z n z

-- ---- a weight from 129 more than it

pub rise_none : {x : ℕ} → x ≡ 0 → best NO ≡ rise_best x
unfolding rise_best
rise_none e = rw e best_no

weight_small : (x : ℕ) → x < 65536 → mag (pos x -ℤ pos rise_of_zero) < 2 ^ 62
weight_small x h = go (ltb x rise_of_zero) (ltb-true x rise_of_zero)
  where
    go : (b : Bool) → (b ≡ true → x < rise_of_zero) → mag (cond b (negsuc (rise_of_zero - suc x)) (pos (x - rise_of_zero))) < 2 ^ 62
    go true f = let p = f refl in omega arith
    go false f = omega arith

pub weight_fits : (x : ℕ) → x < 65536 → SFits w64 (pos x -ℤ pos rise_of_zero)
weight_fits x h = let p = weight_small x h in record { sfits = omega arith }

pub rise_some : (x : ℕ) → x < 65536 → (x ≡ 0 → ⊥) → best (pos x -ℤ pos rise_of_zero) ≡ rise_best x
unfolding rise_best
rise_some zero h n = absurd (n refl)
rise_some (suc x) h n = best_some (pos (suc x) -ℤ pos rise_of_zero) (not_least (weight_small (suc x) h))
