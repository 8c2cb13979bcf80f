-- Laws of the accepted rows of an input and of their lines (document 01, "The program").
-- Assumes nothing.
use Prim.Native.Nat.{ℕ, zero, suc, ◌*◌, ◌≤◌, ◌<◌}
use native.Mathlib.Omega.{arith}
use native.Mathlib.Nat.{suc-mul}
use mathlib.Core.Path.{◌≡◌, refl, sym, ap₂}
use mathlib.Core.Bool.{Bool, true, false, cond}
use mathlib.Core.List.{List, [], ◌∷◌, ◌++◌}
use borrow.Author.Tests.{leb-false}
use lib.Dec.{leb}
use lib.ListN.{length, length-append}
use Rattle.basis.proofs.Tests.{true_false}
use Rattle.limits.specs.Limits.{most_rows}
use Rattle.table.specs.Table.{Table}
use Rattle.answers.proofs.Pieces.{front_words}
use Rattle.feed.specs.Printed.{row_size, row_at, row_refusal, is_taken, accepted_rows, row_lines, lines_of_rows}

module _ (t : Table) (bytes : List ℕ) where
  pub row_taken : (n : ℕ) → is_taken t (length (accepted_rows t bytes n)) (row_at t bytes n) ≡ true
      → accepted_rows t bytes (suc n) ≡ accepted_rows t bytes n ++ (row_at t bytes n ∷ [])
  unfolding accepted_rows
  row_taken n e = rw e

  pub row_skipped : (n : ℕ) → is_taken t (length (accepted_rows t bytes n)) (row_at t bytes n) ≡ false → accepted_rows t bytes (suc n) ≡ accepted_rows t bytes n
  unfolding accepted_rows
  row_skipped n e = rw e

  -- one row more
  pub rows_more : (n : ℕ) → length (accepted_rows t bytes n) ≤ length (accepted_rows t bytes (suc n))
  rows_more n = go (is_taken t (length (accepted_rows t bytes n)) (row_at t bytes n)) refl
    where
      go : (b : Bool) → is_taken t (length (accepted_rows t bytes n)) (row_at t bytes n) ≡ b → length (accepted_rows t bytes n) ≤ length (accepted_rows t bytes (suc n))
      go true e = rw (row_taken n e) (omega (arith, length-append (accepted_rows t bytes n) (row_at t bytes n ∷ [])))
      go false e = rw (row_skipped n e) (omega arith)

  row_within : (n : ℕ) → length (accepted_rows t bytes n) ≤ most_rows → length (accepted_rows t bytes (suc n)) ≤ most_rows
  unfolding accepted_rows row_refusal
  row_within n h = go (leb most_rows (length (accepted_rows t bytes n))) refl (is_taken t (length (accepted_rows t bytes n)) (row_at t bytes n)) refl
    where
      go : (a : Bool) → leb most_rows (length (accepted_rows t bytes n)) ≡ a → (b : Bool) → is_taken t (length (accepted_rows t bytes n)) (row_at t bytes n) ≡ b
          → length (cond b (accepted_rows t bytes n ++ (row_at t bytes n ∷ [])) (accepted_rows t bytes n)) ≤ most_rows
      go a p false q = h
      go false p true q = omega (arith, leb-false most_rows (length (accepted_rows t bytes n)) p, length-append (accepted_rows t bytes n) (row_at t bytes n ∷ []))
      go true p true q = true_false refl (sym (rw p at q))

  pub rows_within : (n : ℕ) → length (accepted_rows t bytes n) ≤ most_rows
  unfolding accepted_rows
  rows_within zero = omega arith
  rows_within (suc n) = row_within n (rows_within n)

-- the lines of rows whose turns have the same lines
module _ (f g : ℕ → List ℕ) (t : Table) (bytes : List ℕ) where
  line_same : (n : ℕ) → ((j : ℕ) → j < length (accepted_rows t bytes (suc n)) → f j ≡ g j)
      → row_lines f t bytes (length (accepted_rows t bytes n)) (row_at t bytes n) ≡ row_lines g t bytes (length (accepted_rows t bytes n)) (row_at t bytes n)
  line_same n same = go (is_taken t (length (accepted_rows t bytes n)) (row_at t bytes n)) refl
    where
      go : (b : Bool) → is_taken t (length (accepted_rows t bytes n)) (row_at t bytes n) ≡ b
          → row_lines f t bytes (length (accepted_rows t bytes n)) (row_at t bytes n) ≡ row_lines g t bytes (length (accepted_rows t bytes n)) (row_at t bytes n)
      go true e = rw e (same (length (accepted_rows t bytes n)) (rw (row_taken t bytes n e) (omega (arith, length-append (accepted_rows t bytes n) (row_at t bytes n ∷ [])))))
      go false e = rw e

  pub lines_same : (n : ℕ) → ((j : ℕ) → j < length (accepted_rows t bytes n) → f j ≡ g j) → lines_of_rows f t bytes n ≡ lines_of_rows g t bytes n
  unfolding lines_of_rows
  lines_same zero same = refl
  lines_same (suc n) same = ap₂ (λ (a b : List ℕ). a ++ b) (lines_same n (λ j h. same j (omega (arith, rows_more t bytes n)))) (line_same n same)

-- bytes behind the rows don't matter
module _ (t : Table) (a b : List ℕ) where
  row_in_front : (n : ℕ) → suc n * row_size t ≤ length a → row_at t (a ++ b) n ≡ row_at t a n
  row_in_front n h = front_words a b (n * row_size t) t.inputs (omega (arith, suc-mul n (row_size t)))

  pub rows_in_front : (n : ℕ) → n * row_size t ≤ length a → accepted_rows t (a ++ b) n ≡ accepted_rows t a n
  unfolding accepted_rows
  rows_in_front zero h = refl
  rows_in_front (suc n) h =
      ap₂ (λ (before : List (List ℕ)) (ws : List ℕ). cond (is_taken t (length before) ws) (before ++ (ws ∷ [])) before)
      (rows_in_front n (omega (arith, suc-mul n (row_size t)))) (row_in_front n h)

  pub lines_in_front : (f : ℕ → List ℕ) (n : ℕ) → n * row_size t ≤ length a → lines_of_rows f t (a ++ b) n ≡ lines_of_rows f t a n
  unfolding lines_of_rows
  lines_in_front f zero h = refl
  lines_in_front f (suc n) h =
      let k : n * row_size t ≤ length a = omega (arith, suc-mul n (row_size t)) in
      ap₂ (λ (u v : List ℕ). u ++ v) (lines_in_front f n k) (rw (row_in_front n h, rows_in_front n k) refl)
