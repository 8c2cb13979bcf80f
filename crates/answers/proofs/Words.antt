-- Laws of the words of a row: one word more, and how many there are.
-- Assumes nothing.
use Prim.Native.Nat.{ℕ, zero, suc, ◌+◌, ◌*◌, ◌≤◌, ◌<◌}
use mathlib.Core.Path.{◌≡◌, refl, sym, ap, ◌∙◌}
use mathlib.Core.List.{List, [], ◌∷◌}
use native.Mathlib.Omega.{arith}
use native.Mathlib.Numerals.{add-one}
use lib.ListN.{length, take, set, length-append}
use lib.Seq.{take-suc-set, take_all}
use Rattle.wire.specs.Bytes.{word_at}
use Rattle.answers.specs.Words.{words_at}

pub words_none : (input : List ℕ) (from : ℕ) → [] ≡ words_at input from 0
unfolding words_at
words_none input from = refl

pub words_more : (words input : List ℕ) (from i : ℕ) {w : ℕ} → take i words ≡ words_at input from i → i < length words → w ≡ word_at input (from + 4 * i) → take (i + 1) (set words i w) ≡ words_at input from (i + 1)
unfolding words_at
words_more words input from i {w} e h v = rw (add-one, take-suc-set words i w h, e, v)

pub words_all : (words row : List ℕ) {n i : ℕ} → take i words ≡ words_at row 0 i → n ≤ i → i ≤ n → length words ≡ n → words ≡ words_at row 0 n
words_all words row {n} {i} h l m e =
    let k : i ≡ n = omega arith in
    sym (take_all n words (omega arith)) ∙ rw k at h

pub length_words : (input : List ℕ) (from n : ℕ) → length (words_at input from n) ≡ n
unfolding words_at
length_words input from zero = refl
length_words input from (suc n) = length-append (words_at input from n) (word_at input (from + 4 * n) ∷ []) ∙ ap (λ (k : ℕ). k + 1) (length_words input from n) ∙ add-one n

-- as many words as are lent
pub words_long : (row : List ℕ) (m : ℕ) {words : List ℕ} {n : ℕ} → words ≡ words_at row 0 m → length words ≡ n → words ≡ words_at row 0 n
words_long row m {words} {n} e l =
    let k : m ≡ n = omega (arith, l, ap length e, length_words row 0 m) in
    e ∙ ap (words_at row 0) k
