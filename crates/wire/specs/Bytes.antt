-- Numbers as bytes (document 01, "The table"): "Numbers are little-endian".
-- Assumes nothing.
use Rattle.std.specs.Prelude.{ℕ, ◌+◌, ◌*◌, ◌/◌, ◌%◌, ◌^◌, ◌<◌, List, [], ◌∷◌, get_or}

-- each entry is a byte, as in every slice of u8
pub record AllBytes (l : List ℕ) : Type 0 where
  pub each : (i : ℕ) → get_or l i 0 < 256

-- each entry is a word, as in every slice of u32
abbrev pub AllWords : List ℕ → Type 0
AllWords l = (i : ℕ) → get_or l i 0 < 2 ^ 32

-- a word's four bytes, the lowest first
unfoldable pub le4 : ℕ → List ℕ
le4 w = w % 256 ∷ w / 256 % 256 ∷ w / 65536 % 256 ∷ w / 16777216 % 256 ∷ []

-- the number of four bytes
abbrev pub word_of : (a b c d : ℕ) → ℕ
word_of a b c d = a + 256 * b + 65536 * c + 16777216 * d

-- the number in the four bytes from a place on
unfoldable pub word_at : List ℕ → ℕ → ℕ
word_at l at = word_of (get_or l at 0) (get_or l (at + 1) 0) (get_or l (at + 2) 0) (get_or l (at + 3) 0)
