-- Operators on words, numbers below 2 ^ 32 (document 01, "The table", kinds 24 to 26).
-- Assumes nothing.
use Rattle.std.specs.Prelude.{ℕ, ◌+◌, ◌-◌, ◌%◌, ◌^◌, Bool, ◌&&◌, nat_lt}

-- kinds 24 and 25: "add, sub of words, modulo 2^32"
abbrev pub add_words_of : ℕ → ℕ → ℕ
add_words_of a b = (a + b) % 2 ^ 32

abbrev pub sub_words_of : ℕ → ℕ → ℕ
sub_words_of a b = (a + 2 ^ 32 - b) % 2 ^ 32

-- kind 26: "word a is ahead of b when (a-b) mod 2^32 is 1 to 2^31-1"
abbrev pub ahead_of : ℕ → ℕ → Bool
ahead_of a b = nat_lt 0 (sub_words_of a b) && nat_lt (sub_words_of a b) (2 ^ 31)
