-- What a read of an element and of a cell of the square gives, owned or lent, and what a row is once it is relaxed.
-- Assumes nothing.
use mathlib.Core.Path.{◌≡◌, sym, ap, ◌∙◌, subst}
use mathlib.Core.List.{List, [], ◌∷◌}
use Prim.Native.Nat.{ℕ, zero, suc, ◌^◌, ◌≤◌, ◌<◌}
use native.Mathlib.Omega.{arith}
use native.Mathlib.Nat.{not-suc-le-zero, le_of_suc-le-suc}
use lib.ListN.{length, get_or}
use lib.IntN.{ℤ, pos}
use lib.Signed.{mag}
use mir.Syntax.{w64}
use mir.Val.{Val, to_z, of_z}
use mir.Facts.{to_z-of_z}
use denote.Array.{each, in_array, Array}
use denote.Signed.{SInt}
use denote.Shadow.{shadow}
use Rattle.limits.specs.Limits.{most_streams}
use Rattle.walks.specs.Longest.{relax_b}
use Rattle.basis.proofs.Firsts.{get_d_any}
use Rattle.square.specs.Square.{NO, best, at, cell, lent_at, lent_cell, Small, AllSmall, LentSmall, weighed}
use Rattle.square.proofs.Weighed.{weighed_same}

-- each row of a square that a function owns has as many elements as its type says
each_long : (n : ℕ) (xs : List (List ℤ)) (us : List Val) (i : ℕ) → shadow (each (List ℤ) (Array (SInt w64) n).own_val xs us) → i < length xs → length (get_or xs i []) ≡ n
each_long n [] us i p h = absurd (not-suc-le-zero h)
each_long n (x ∷ xs) [] i p h = absurd p
each_long n (x ∷ xs) (u ∷ us) zero p h = p.0.1.0.1
each_long n (x ∷ xs) (u ∷ us) (suc i) p h = each_long n xs us i p.1 (le_of_suc-le-suc h)

-- as `c.good` and a call's `.ok` hand it over
pub row_long : (m n : ℕ) (xs : List (List ℤ)) (vs : List Val) (i : ℕ) → shadow (in_array (List ℤ) (Array (SInt w64) n).own_val m xs vs) → i < m → length (get_or xs i []) ≡ n
row_long m n xs vs i p h = each_long n xs p.0 i p.1.1 (subst (λ (k : ℕ). i < k) (sym p.1.0.1) h)

-- what a read of an element gives
pub read_is : (l : List ℤ) (j : ℕ) → mag (get_or l j (pos 0)) < 2 ^ 63 → j < length l → to_z w64 (of_z w64 (get_or l j (pos 0))) ≡ get_or l j NO
read_is l j f h = to_z-of_z {w = w64} (record { sfits = f }) ∙ get_d_any l j (pos 0) NO h

-- and of a cell of a square, under what `c.good` says of the square
pub cell_is : (d : List (List ℤ)) (vs : List Val) (i j : ℕ) → shadow (in_array (List ℤ) (Array (SInt w64) most_streams).own_val most_streams d vs) → mag (get_or (get_or d i []) j (pos 0)) < 2 ^ 63 → i < most_streams → j < most_streams → to_z w64 (of_z w64 (get_or (get_or d i []) j (pos 0))) ≡ get_or (get_or d i []) j NO
cell_is d vs i j g f h k = read_is (get_or d i []) j f (subst (λ (n : ℕ). j < n) (sym (row_long most_streams most_streams d vs i g h)) k)

-- what a read of an element of a lent row says
pub lent_read : (l : List ℤ) (j : ℕ) → mag (get_or l j (pos 0)) < 2 ^ 63 → best (to_z w64 (of_z w64 (get_or l j (pos 0)))) ≡ lent_at l j
lent_read l j f = ap best (to_z-of_z {w = w64} (record { sfits = f }))

-- below the length it says what the entry does
pub lent_at_is : (l : List ℤ) (j : ℕ) → j < length l → lent_at l j ≡ at l j
lent_at_is l j h = ap best (get_d_any l j (pos 0) NO h)

-- so a square that is owned, and whose rows are thus as long as their type says, says the same where it is lent
module _ (d : List (List ℤ)) (vs : List Val) (good : shadow (in_array (List ℤ) (Array (SInt w64) most_streams).own_val most_streams d vs)) where
  pub lent_cell_is : (i j : ℕ) → i < most_streams → j < most_streams → lent_cell d i j ≡ cell d i j
  lent_cell_is i j h k = lent_at_is (get_or d i []) j (subst (λ (n : ℕ). j < n) (sym (row_long most_streams most_streams d vs i good h)) k)

  pub lent_small : {n : ℕ} → AllSmall n d → LentSmall n d
  lent_small {n} s i j h k = subst (Small n) (sym (lent_cell_is i j h k)) (s i j h k)

  pub lent_weighed : (S : ℕ) → S ≤ most_streams → weighed (lent_cell d) S ≡ weighed (cell d) S
  lent_weighed S few = weighed_same S (lent_cell d) (cell d) (λ i j h k. lent_cell_is i j (omega arith) (omega arith))

-- row m of the square relaxed through k is `row`
abbrev pub Row : List (List ℤ) → ℕ → ℕ → List ℤ → Type 0
Row d k m row = (j : ℕ) → j < most_streams → lent_at row j ≡ relax_b (lent_cell d m j) (lent_cell d m k) (lent_cell d k j)
