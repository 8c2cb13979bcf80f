-- The words of a row in the input (document 01, "The program": "rows of I words with no framing").
-- Assumes nothing.
use Rattle.std.specs.Prelude.{ℕ, zero, suc, ◌+◌, ◌*◌, List, [], ◌∷◌, ◌++◌}
use Rattle.wire.specs.Bytes.{word_at}

-- n words from byte `from` on
unfoldable pub words_at : (input : List ℕ) (from n : ℕ) → List ℕ
words_at input from zero = []
words_at input from (suc n) = words_at input from n ++ (word_at input (from + 4 * n) ∷ [])
