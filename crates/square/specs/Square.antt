-- The square of numbers as the code holds it, and what its functions answer, cell by cell (document 01, "How to write each place": the square).
-- Assumes nothing.
use Rattle.std.specs.Prelude.{cond, List, [], ℕ, zero, suc, ◌^◌, ◌<◌, eqb, get_or, Result, Ok, Err, ℤ, pos, negsuc, ◌-ℤ◌}
use Rattle.std.specs.Int.Signed.{mag}
use Rattle.limits.specs.Limits.{most_streams, rise_of_zero}
use Rattle.basis.specs.Firsts.{firsts}
use Rattle.walks.specs.Longest.{Best, none, some, through, loops_below_of, look_of, place_of}

-- the code's NONE, the least number of its type
abbrev pub NO : ℤ
NO = negsuc 9223372036854775807

-- what a cell says
unfoldable pub best : ℤ → Best
best (pos n) = some (pos n)
best (negsuc n) = cond (eqb n 9223372036854775807) none (some (negsuc n))

-- the entry j of a row
abbrev pub at : List ℤ → ℕ → Best
at l j = best (get_or l j NO)

-- the square's cell
abbrev pub cell : List (List ℤ) → ℕ → ℕ → Best
cell d i j = at (get_or d i []) j

-- the entry j of a row that is lent, for a j below its length: behind a reference the check knows no length, and has a read past it give 0.
-- Below the length it is `at` (`lent_at_is`, proofs/Rows.antt).
abbrev pub lent_at : List ℤ → ℕ → Best
lent_at l j = best (get_or l j (pos 0))

-- the cell of a square that is lent, the same way
abbrev pub lent_cell : List (List ℤ) → ℕ → ℕ → Best
lent_cell d i j = lent_at (get_or d i []) j

-- there and from -(2 ^ n) to 2 ^ n - 1, or not there
pub data Small (n : ℕ) : Best → Type 0 where
  small_none : Small n none
  small_some : {d : ℤ} → mag d < 2 ^ n → Small n (some d)

-- every cell of the square is small
abbrev pub AllSmall : ℕ → List (List ℤ) → Type 0
AllSmall n d = (i j : ℕ) → i < most_streams → j < most_streams → Small n (cell d i j)

-- the same of a square that is lent
abbrev pub LentSmall : ℕ → List (List ℤ) → Type 0
LentSmall n d = (i j : ℕ) → i < most_streams → j < most_streams → Small n (lent_cell d i j)

-- the weight that a number of `rise_of` stands for
unfoldable pub rise_best : ℕ → Best
rise_best zero = none
rise_best (suc n) = some (pos (suc n) -ℤ pos rise_of_zero)

-- what is announced of a square of S streams: accepted with the look-aheads, or refused with the place of refusal 7
unfoldable pub weighed : (ℕ → ℕ → Best) → ℕ → Result (List ℕ) ℕ
weighed A S = cond (loops_below_of (through A S) S) (Ok (firsts (look_of (through A S) S) most_streams)) (Err (place_of A S))
