-- Input that comes in pieces of whole rows is answered as the whole input is: the same run, store and text.
-- Assumes nothing.
use Prim.Native.Nat.{ℕ, zero, suc, ◌+◌, ◌*◌, ◌≤◌}
use native.Mathlib.Omega.{arith}
use native.Mathlib.Nat.{add-mul, add-zero, add-suc, suc-mul}
use mathlib.Core.Path.{◌≡◌, refl, sym, ap, ap₂, ◌∙◌}
use mathlib.Core.List.{List, [], ◌∷◌, ◌++◌}
use lib.ListN.{length}
use Rattle.wire.proofs.Words.{word_in_front, word_past}
use Rattle.answers.specs.Words.{words_at}
use Rattle.answers.specs.Rows.{Progress, after_row, after_rows}

module _ (a b : List ℕ) where
  pub front_words : (k n : ℕ) → k + 4 * n ≤ length a → words_at (a ++ b) k n ≡ words_at a k n
  unfolding words_at
  front_words k zero h = refl
  front_words k (suc n) h = ap₂ (λ (l : List ℕ) (w : ℕ). l ++ (w ∷ [])) (front_words k n (omega arith)) (word_in_front a b (k + 4 * n) (omega arith))

  pub behind_words : (j k n : ℕ) → j ≡ length a + k → words_at (a ++ b) j n ≡ words_at b k n
  unfolding words_at
  behind_words j k zero e = refl
  behind_words j k (suc n) e = ap₂ (λ (l : List ℕ) (w : ℕ). l ++ (w ∷ [])) (behind_words j k n e) (word_past a b (j + 4 * n) (k + 4 * n) (omega arith))

  module _ (s : List ℕ) (inputs : ℕ) (x : Progress) where
    pub front_rows : (m : ℕ) → m * (4 * inputs) ≤ length a → after_rows s (a ++ b) inputs m x ≡ after_rows s a inputs m x
    unfolding after_rows
    front_rows zero h = refl
    front_rows (suc m) h =
        let l : m * (4 * inputs) + 4 * inputs ≤ length a = omega (arith, suc-mul m (4 * inputs)) in
        ap₂ (after_row s) (front_words (m * (4 * inputs)) inputs l) (front_rows m (omega arith))

    pub rows_in_pieces : (m n : ℕ) → length a ≡ m * (4 * inputs) → after_rows s (a ++ b) inputs (m + n) x ≡ after_rows s b inputs n (after_rows s a inputs m x)
    unfolding after_rows
    rows_in_pieces m zero e = rw add-zero (front_rows m (omega arith))
    rows_in_pieces m (suc n) e =
        rw add-suc (ap₂ (after_row s) (behind_words ((m + n) * (4 * inputs)) (n * (4 * inputs)) inputs (add-mul m n (4 * inputs) ∙ ap (λ (k : ℕ). k + n * (4 * inputs)) (sym e))) (rows_in_pieces m n e))
