-- What a line of the input says: a comment, a table as hex digits, or nothing that can be read; and where a line ends.
-- The format is this program's own. Assumes nothing.
use Rattle.std.specs.Prelude.{ℕ, zero, suc, ◌+◌, ◌-◌, ◌*◌, ◌/◌, ◌%◌, ◌≤◌, ◌<◌, ◌≡◌, ◌&&◌, cond, if◌then◌else◌, Option, Some, None, option_and_then, option_map, List, [], ◌∷◌, ◌++◌, ltb, eqb, nat_le, length, get_or, take}
use Rattle.test_tables.specs.declared.Line.{Line}
use Rattle.test_tables.specs.declared.Line.TheVariants.{Comment, Malformed, Table}

pub data Said : Type 0 where
  comment : Said
  malformed : Said
  table : List ℕ → Said

-- what a line that was read and the bytes that were lent for it say together
abbrev pub said : Line → List ℕ → Said
said Comment l = comment
said Malformed l = malformed
said (Table n) l = table (take n l)

-- the bytes of a table lie in those that were lent
abbrev pub Within : Line → List ℕ → Type 0
Within Comment l = Unit {0}
Within Malformed l = Unit {0}
Within (Table n) l = n ≤ length l

-- the number of a hex digit of either case
unfoldable pub digit_for : ℕ → Option ℕ
digit_for b =
    if nat_le 48 b && nat_le b 57 then Some (b - 48)
    else (if nat_le 65 b && nat_le b 70 then Some (b - 65 + 10) else (if nat_le 97 b && nat_le b 102 then Some (b - 97 + 10) else None))

-- the byte of the i-th pair of digits
unfoldable pub pair_of : List ℕ → ℕ → Option ℕ
pair_of s i = option_and_then (λ h. option_map (λ l. h * 16 + l) (digit_for (get_or s (2 * i + 1) 0))) (digit_for (get_or s (2 * i) 0))

-- the bytes of the first n pairs, where each of them is one
unfoldable pub bytes_said : List ℕ → ℕ → Option (List ℕ)
bytes_said s zero = Some []
bytes_said s (suc n) = option_and_then (λ l. option_map (λ b. l ++ (b ∷ [])) (pair_of s n)) (bytes_said s n)

abbrev pub table_if : Option (List ℕ) → Said
table_if (Some l) = table l
table_if None = malformed

-- pairs of digits, no more than there is room for, are a table
unfoldable pub digits_say : (room : ℕ) → List ℕ → Said
digits_say room s =
    cond (eqb (length s % 2) 1) malformed (cond (ltb room (length s / 2)) malformed (table_if (bytes_said s (length s / 2))))

-- `#` starts a comment, `-` alone is the empty table, and an empty line says nothing
unfoldable pub said_of : (room : ℕ) → List ℕ → Said
said_of room s =
    cond (eqb (length s) 0) malformed
    (cond (eqb (get_or s 0 0) 35) comment (cond (eqb (get_or s 0 0) 45) (cond (eqb (length s) 1) (table []) malformed) (digits_say room s)))

-- the line that starts at a place ends at the first line feed from there on, or with the text
pub record LineEnd (s : List ℕ) (at end : ℕ) : Type 0 where
  pub behind : at ≤ end
  pub inside : end ≤ length s
  pub none_before : (k : ℕ) → k < end → at ≤ k → get_or s k 0 ≡ 10 → ⊥
  pub feed : end < length s → get_or s end 0 ≡ 10
