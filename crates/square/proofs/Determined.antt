-- A row of the square is determined by what its cells say. Assumes nothing.
use mathlib.Core.Path.{◌≡◌, refl, sym, ap, ◌∙◌}
use mathlib.Core.Bool.{cond}
use mathlib.Core.List.{List}
use Prim.Native.Nat.{ℕ, ◌<◌}
use native.Mathlib.Omega.{arith}
use native.Mathlib.Decide.{ℕ_discrete}
use borrow.Author.Tests.{eq-eqb, ne_eqb}
use lib.Dec.{eqb}
use lib.ListN.{length}
use lib.IntN.{ℤ, pos, negsuc}
use lib.Seq.{ext_get_or}
use Rattle.limits.specs.Limits.{most_streams}
use Rattle.walks.specs.Longest.{Best, none, some}
use Rattle.square.specs.Square.{NO, best, at}

-- what a cell says, and the number that says it
number_of : Best → ℤ
number_of none = NO
number_of (some t) = t

number_of_best : (a : ℤ) → number_of (best a) ≡ a
unfolding best number_of
number_of_best (pos n) = refl
number_of_best (negsuc n) = go (ℕ_discrete n 9223372036854775807)
  where
    go : Dec (n ≡ 9223372036854775807) → number_of (cond (eqb n 9223372036854775807) none (some (negsuc n))) ≡ negsuc n
    go (yes e) = rw (eq-eqb _ _ e) (ap negsuc (sym e))
    go (no e) = rw (ne_eqb _ _ e) refl

-- `square_row`; the lengths are those of the array's type
pub square_row_once : {f : ℕ → Best} {a b : List ℤ} → length a ≡ most_streams → length b ≡ most_streams →
    ((j : ℕ) → j < most_streams → at a j ≡ f j) → ((j : ℕ) → j < most_streams → at b j ≡ f j) → a ≡ b
square_row_once {a = a} {b = b} p q f g = ext_get_or NO a b (p ∙ sym q) (λ j l. let h : j < most_streams = omega arith in sym (number_of_best _) ∙ ap number_of (f j h ∙ sym (g j h)) ∙ number_of_best _)
