-- The program's lines, byte by byte (document 01, "The program"): a line of each sort.
-- Assumes nothing.
use Rattle.std.specs.Prelude.{ℕ, zero, suc, ◌+◌, ◌/◌, ◌%◌, cond, List, [], ◌∷◌, ◌++◌, ltb}
use Rattle.basis.specs.Choices.{or_else}

-- the decimal digits of n in ASCII, the most significant first, no more than `most` of them
unfoldable pub last_digits : (most n : ℕ) → List ℕ
last_digits zero n = []
last_digits (suc most) n = or_else (ltb n 10) ((48 + n) ∷ []) λ _. last_digits most (n / 10) ++ ((48 + n % 10) ∷ [])

-- "every other number decimal": without leading zeros, `0` for 0 (n + 1 digits are enough for n)
unfoldable pub decimal : ℕ → List ℕ
decimal n = last_digits (suc n) n

-- a lower-case hexadecimal digit: `0` to `9`, then `a` to `f`
unfoldable pub hex_digit_of : ℕ → ℕ
hex_digit_of d = cond (ltb d 10) (48 + d) (87 + d)

-- a byte as two digits
abbrev pub hex2 : ℕ → List ℕ
hex2 b = hex_digit_of (b / 16) ∷ hex_digit_of (b % 16) ∷ []

-- "value as eight lower-case hex digits": the most significant byte first
unfoldable pub hex8 : ℕ → List ℕ
hex8 w = hex2 (w / 16777216 % 256) ++ (hex2 (w / 65536 % 256) ++ (hex2 (w / 256 % 256) ++ hex2 (w % 256)))

-- a blank, and a number in decimal
abbrev pub spaced : ℕ → List ℕ
spaced n = 32 ∷ decimal n

-- a line's letter and its two numbers
abbrev pub pair : (letter first second : ℕ) → List ℕ
pair letter first second = letter ∷ (spaced first ++ spaced second)

-- "each ended by byte 0A"
abbrev pub line_end_of : List ℕ
line_end_of = 0x0A ∷ []

-- `v stream position value`: a stream has at most 3 digits, a position 10
abbrev pub most_value_line : ℕ
most_value_line = 26

unfoldable pub value_line : (stream position value : ℕ) → List ℕ
value_line stream position value = pair 118 stream position ++ (32 ∷ (hex8 value ++ line_end_of))

-- `t stream position`
abbrev pub most_trigger_line : ℕ
most_trigger_line = 17

unfoldable pub trigger_line : (stream position : ℕ) → List ℕ
trigger_line stream position = pair 116 stream position ++ line_end_of

-- `r number place`: a place of 64 bits has at most 20 digits
abbrev pub most_refusal_line : ℕ
most_refusal_line = 27

unfoldable pub refusal_line : (number place : ℕ) → List ℕ
refusal_line number place = pair 114 number place ++ line_end_of

-- `s n`
abbrev pub most_stop_line : ℕ
most_stop_line = 23

unfoldable pub stop_line : ℕ → List ℕ
stop_line n = 115 ∷ (spaced n ++ line_end_of)

-- `end N`
abbrev pub most_end_line : ℕ
most_end_line = 15

unfoldable pub end_line : ℕ → List ℕ
end_line n = 101 ∷ 110 ∷ 100 ∷ (spaced n ++ line_end_of)
