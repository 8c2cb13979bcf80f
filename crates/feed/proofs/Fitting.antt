-- What an input of bytes brings: the table is of bytes, and the rows are of 32-bit words (document 01, "The program").
-- Assumes nothing.
use Prim.Native.Nat.{ℕ, zero, suc, ◌+◌, ◌*◌, ◌<◌, ◌^◌}
use native.Mathlib.Omega.{arith}
use mathlib.Core.List.{List, [], ◌∷◌, ◌++◌}
use mathlib.Core.Logic.{⊎_elim}
use lib.ListN.{length, get_or, get_or-append, get_or-eq_default}
use lib.Seq.{get_or-append-add}
use Rattle.basis.proofs.Tests.{lt_or_ge, pick_case}
use Rattle.wire.specs.Bytes.{word_at, AllBytes, AllWords}
use Rattle.wire.proofs.Words.{word_below}
use Rattle.table.specs.Table.{Table}
use Rattle.answers.specs.Words.{words_at}
use Rattle.feed.specs.Printed.{row_size, row_at, is_taken, accepted_rows}

module _ (a b : List ℕ) (bytes : AllBytes (a ++ b)) where
  pub bytes_in_front : AllBytes a
  bytes_in_front = record { each = λ i. ⊎_elim (λ l. rw (get_or-append a b 0 i l) at (bytes.each i)) (λ g. rw (get_or-eq_default a 0 {n = i} g) (omega arith)) (lt_or_ge i (length a)) }

  pub bytes_behind : AllBytes b
  bytes_behind = record { each = λ i. rw (get_or-append-add a b i 0) at (bytes.each (length a + i)) }

-- what holds of each element, and of what stands for none, holds with one element more
each_more : {A : Type 0} (P : A → Type 0) (l : List A) (a d : A) → ((i : ℕ) → P (get_or l i d)) → P a → P d → (i : ℕ) → P (get_or (l ++ (a ∷ [])) i d)
each_more P [] a d each last rest zero = last
each_more P [] a d each last rest (suc i) = rest
each_more P (x ∷ l) a d each last rest zero = each zero
each_more P (x ∷ l) a d each last rest (suc i) = each_more P l a d (λ j. each (suc j)) last rest i

module _ (input : List ℕ) (bytes : AllBytes input) where
  words_of_bytes : (from n : ℕ) → AllWords (words_at input from n)
  unfolding words_at
  words_of_bytes from zero = λ i. omega arith
  words_of_bytes from (suc n) = each_more (λ (w : ℕ). w < 2 ^ 32) (words_at input from n) (word_at input (from + 4 * n)) 0 (words_of_bytes from n) (word_below input bytes (from + 4 * n)) (omega arith)

  pub rows_of_bytes : (t : Table) (n j : ℕ) → AllWords (get_or (accepted_rows t input n) j [])
  unfolding accepted_rows
  rows_of_bytes t zero j = λ i. omega arith
  rows_of_bytes t (suc n) j =
      pick_case (λ (rows : List (List ℕ)). AllWords (get_or rows j [])) (is_taken t (length (accepted_rows t input n)) (row_at t input n)) _ _
      (λ _. each_more AllWords (accepted_rows t input n) (row_at t input n) [] (rows_of_bytes t n) (words_of_bytes (n * row_size t) t.inputs) (λ i. omega arith) j)
      (λ _. rows_of_bytes t n j)
