-- The square of edges from the numbers of `rise_of`: they stand for the largest weights, which are small, for offsets from -128 to 127.
-- Assumes nothing.
use mathlib.Core.Path.{◌≡◌, refl, sym, ap, ap₂, ◌∙◌}
use mathlib.Core.Bool.{Bool, true, false, cond}
use mathlib.Core.Logic.{⊎_elim}
use mathlib.Core.List.{List, [], ◌∷◌}
use Prim.Native.Nat.{ℕ, zero, suc, ◌+◌, ◌^◌, ◌≤◌, max}
use native.Mathlib.Omega.{arith}
use lib.IntN.{ℤ, pos, negsuc, ◌-ℤ◌}
use Rattle.basis.specs.Notes.{rising}
use Rattle.limits.specs.Limits.{most_back, most_ahead, rise_of_zero, most_note}
use Rattle.basis.specs.Parts.{up, down}
use Rattle.basis.specs.Edges.{Edge, Has, here, later}
use Rattle.basis.proofs.Parts.{sum_parts, le_parts, eq_from_parts, one_part, mag_from_parts}
use Rattle.walks.specs.Longest.{none, some, max_z, larger, joins, only, square_for, note_of, rise_of}
use Rattle.walks.proofs.Best.{max_both, max_is}
use Rattle.walks.proofs.Squares.{joins_ends}
use Rattle.square.specs.Square.{Small, small_none, small_some, rise_best}

rise_there : (x : ℕ) → 1 ≤ x → rise_best x ≡ some (pos x -ℤ pos rise_of_zero)
unfolding rise_best
rise_there zero h = absurd (omega arith)
rise_there (suc x) h = refl

-- x - 129 by its parts
weight_parts : (x : ℕ) → up (pos x -ℤ pos rise_of_zero) + rise_of_zero ≡ x + down (pos x -ℤ pos rise_of_zero)
weight_parts x = omega (arith, sum_parts (pos x) (negsuc most_back))

larger_weight : (x y : ℕ) → max_z (pos x -ℤ pos rise_of_zero) (pos y -ℤ pos rise_of_zero) ≡ pos (max x y) -ℤ pos rise_of_zero
larger_weight x y = let b = max_both (pos x -ℤ pos rise_of_zero) (pos y -ℤ pos rise_of_zero) in ⊎_elim
    (λ e. let q : x ≡ max x y = omega (arith, le_parts b.1, ap up e, ap down e, weight_parts x, weight_parts y) in e ∙ ap (λ (n : ℕ). pos n -ℤ pos rise_of_zero) q)
    (λ e. let q : y ≡ max x y = omega (arith, le_parts b.0, ap up e, ap down e, weight_parts x, weight_parts y) in e ∙ ap (λ (n : ℕ). pos n -ℤ pos rise_of_zero) q)
    (max_is (pos x -ℤ pos rise_of_zero) (pos y -ℤ pos rise_of_zero))

larger_rise : (x y : ℕ) → larger (rise_best x) (rise_best y) ≡ rise_best (max x y)
unfolding rise_best
larger_rise zero y = let q : y ≡ max zero y = omega arith in ap rise_best q
larger_rise (suc x) zero = let q : suc x ≡ max (suc x) zero = omega arith in ap rise_best q
larger_rise (suc x) (suc y) = ap some (larger_weight (suc x) (suc y)) ∙ sym (rise_there (max (suc x) (suc y)) (omega arith))

-- one edge
rise_only : (k : ℤ) (b : Bool) → (b ≡ true → down k ≤ most_back) → cond b (some k) none ≡ rise_best (cond b (rising k) 0)
unfolding rise_best rising
rise_only k false h = refl
rise_only k true h = let l = h refl in
    ap some (eq_from_parts k (pos (rising k) -ℤ pos rise_of_zero) (omega (arith, weight_parts (rising k)))) ∙ sym (rise_there (rising k) (omega arith))

-- the numbers stand for the square
pub rise_square : (es : List Edge) (y v : ℕ) → ((k : ℤ) → Has y v k es → down k ≤ most_back) → rise_best (rise_of es y v) ≡ square_for es y v
unfolding note_of square_for only rise_best
rise_square [] y v low = refl
rise_square (e ∷ es) y v low =
    sym (larger_rise (rise_of es y v) (cond (joins e y v) (rising e.weight) 0))
    ∙ ap₂ larger (rise_square es y v (λ k h. low k (later h)))
    (sym (rise_only e.weight (joins e y v) (λ j. let w = joins_ends e y v j in low e.weight (here w.0 w.1 refl))))

-- and are small
largest_weight : (k : ℤ) (b : Bool) → (b ≡ true → up k ≤ most_ahead) → cond b (rising k) 0 ≤ most_note
unfolding rising
largest_weight k false h = omega arith
largest_weight k true h = let l = h refl in omega arith

pub rise_small : (es : List Edge) (y v : ℕ) → ((k : ℤ) → Has y v k es → up k ≤ most_ahead) → rise_of es y v ≤ most_note
unfolding note_of
rise_small [] y v high = omega arith
rise_small (e ∷ es) y v high = omega (
  arith,
  rise_small es y v (λ k h. high k (later h)),
  largest_weight e.weight (joins e y v) (λ j. let w = joins_ends e y v j in high e.weight (here w.0 w.1 refl)),
)

pub small_rise : (x : ℕ) → x ≤ most_note → Small 7 (rise_best x)
unfolding rise_best
small_rise zero h = small_none
small_rise (suc x) h = small_some (⊎_elim
    (λ e. mag_from_parts (pos (suc x) -ℤ pos rise_of_zero) (2 ^ 7) (omega arith) (omega (arith, weight_parts (suc x))))
    (λ e. mag_from_parts (pos (suc x) -ℤ pos rise_of_zero) (2 ^ 7) (omega (arith, weight_parts (suc x))) (omega arith))
    (one_part (pos (suc x) -ℤ pos rise_of_zero)))
