-- The hexadecimal digits of a word are those of the kit's `hex` for its bytes, the most significant first.
-- Assumes nothing.
use Rattle.std.proofs.Common.{◌≡◌, ℕ, ◌/◌, ◌%◌, ◌<◌, List, [], ◌∷◌, ◌++◌, map, get_or, refl, ap, ◌∙◌, arith, zero-add}
use Rattle.std.specs.Int.{w32, to_be_bytes}
use Rattle.std.specs.List.{range_with_len}
use Rattle.std.proofs.lemmas.List.FromFn.{get_or-map-range_with_len}
use Rattle.hex.specs.Hex.{lower_digits, encode_lower, encode_with}
use Rattle.lines.specs.Lines.{hex_digit_of, hex2, hex8}

digits : lower_digits ≡ map hex_digit_of (range_with_len 0 16)
unfolding hex_digit_of
digits = refl

digit : (d : ℕ) → d < 16 → get_or lower_digits d 0 ≡ hex_digit_of d
digit d h = ap (λ (l : List ℕ). get_or l d 0) digits ∙ get_or-map-range_with_len hex_digit_of 0 16 d d 0 h (zero-add d)

byte : (b : ℕ) → b < 256 → get_or lower_digits (b / 16) 0 ∷ get_or lower_digits (b % 16) 0 ∷ [] ≡ hex2 b
byte b h = rw (digit (b / 16) (omega arith), digit (b % 16) (omega arith))

-- four bytes, the ways in which both definitions name them
four : (a b c d : ℕ) → a < 256 → b < 256 → c < 256 → d < 256 → encode_lower (a ∷ b ∷ c ∷ d ∷ []) ≡ hex2 a ++ (hex2 b ++ (hex2 c ++ hex2 d))
unfolding encode_with
four a b c d h i j k = λ n. byte a h n ++ (byte b i n ++ (byte c j n ++ byte d k n))

pub hex8_as_text : (w : ℕ) → encode_lower (to_be_bytes w32 w) ≡ hex8 w
unfolding hex8
hex8_as_text w = four _ _ _ _ (omega arith) (omega arith) (omega arith) (omega arith)
