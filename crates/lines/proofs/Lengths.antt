-- How long the texts are: a byte's, a word's and a long number's digits, and the lines of the records; and that what was written lies
-- within its slice. Assumes nothing.
use mathlib.Core.Path.{◌≡◌, refl, ap}
use mathlib.Core.List.{List, ◌∷◌, ◌++◌}
use Prim.Native.Nat.{ℕ, ◌+◌, ◌^◌, ◌<◌, ◌≤◌}
use native.Mathlib.Omega.{arith}
use lib.ListN.{length, take, length-append, length-take}
use Rattle.basis.specs.Written.{Wrote}
use Rattle.lines.specs.Lines.{decimal, spaced, hex8, line_end_of, most_value_line, value_line, most_trigger_line, trigger_line}
use Rattle.lines.proofs.Decimals.{digits_at_most}

byte_digits : (n : ℕ) → n < 256 → length (decimal n) ≤ 3
byte_digits n h = digits_at_most 2 n (omega arith)

pub word_digits : (n : ℕ) → n < 2 ^ 32 → length (decimal n) ≤ 10
word_digits n h = digits_at_most 9 n (omega arith)

pub long_digits : (n : ℕ) → n < 2 ^ 64 → length (decimal n) ≤ 20
long_digits n h = digits_at_most 19 n (omega arith)

two_numbers : (a b : ℕ) → length (spaced a ++ spaced b) ≡ 2 + length (decimal a) + length (decimal b)
two_numbers a b = omega (arith, length-append (spaced a) (spaced b))

-- the two numbers of a record's line
pub byte_and_word : (a b : ℕ) → a < 256 → b < 2 ^ 32 → (length (decimal a) + length (decimal b) ≤ 13) × (length (spaced a ++ spaced b) ≤ 15)
byte_and_word a b h k = omega (arith, two_numbers a b, byte_digits a h, word_digits b k)

-- the two numbers of a refusal's line
pub byte_and_long : (a b : ℕ) → a < 256 → b < 2 ^ 64 → (length (decimal a) + length (decimal b) ≤ 23) × (length (spaced a ++ spaced b) ≤ 25)
byte_and_long a b h k = omega (arith, two_numbers a b, byte_digits a h, long_digits b k)

pub hex8_length : (w : ℕ) → length (hex8 w) ≡ 8
unfolding hex8
hex8_length w = refl

pub value_line_length : (stream position word : ℕ) → stream < 256 → position < 2 ^ 32 → length (value_line stream position word) ≤ most_value_line
unfolding value_line
value_line_length stream position word h k =
    omega (arith, byte_and_word stream position h k, length-append (spaced stream ++ spaced position) (32 ∷ (hex8 word ++ line_end_of)), length-append (hex8 word) line_end_of, hex8_length word)

pub trigger_line_length : (stream position : ℕ) → stream < 256 → position < 2 ^ 32 → length (trigger_line stream position) ≤ most_trigger_line
unfolding trigger_line
trigger_line_length stream position h k =
    omega (arith, byte_and_word stream position h k, length-append (spaced stream ++ spaced position) line_end_of)

-- the text lies within the slice
pub wrote_within : {a s b : List ℕ} {p q : ℕ} → p ≤ length a → Wrote a p s b q → q ≤ length b
wrote_within {a} {s} {b} {p} {q} h w =
    omega (arith, w.ends, ap length w.front, length-append (take p a) s, length-take p a, length-take q b)
