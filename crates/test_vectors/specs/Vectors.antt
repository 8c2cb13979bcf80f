-- A published vector: a line of text, what it says, and when an operator agrees with it (data/README says where the lines come from).
-- Assumes nothing.
use Rattle.std.specs.Prelude.{ℕ, zero, suc, ◌+◌, ◌-◌, ◌*◌, Bool, false, ◌&&◌, cond, Option, Some, None, option_and_then, List, [], ◌∷◌, length, get_or, take, drop, nat_lt, nat_le, eqb, if◌then◌else◌, ◌==◌}
use Rattle.level.specs.Level.{one_nan_of}
use Rattle.value.specs.Values.{image_of, reading_of, apply_of}
use Rattle.test_vectors.specs.declared.Vector.{Vector}

-- the image that the operator of a kind gives for two levels, each a word
abbrev pub outcome_of : ℕ → ℕ → ℕ → ℕ
outcome_of k a b = image_of (apply_of k (reading_of 2 a) (reading_of 2 b))

-- it agrees with a vector where it is its result, with the single NaN for every NaN pattern (document 01, "Values")
abbrev pub agrees_of : ℕ → Option Vector → Bool
agrees_of k (Some v) = eqb (outcome_of k v.a v.b) (one_nan_of v.result)
agrees_of k None = false

-- the number of a lower-case hex digit
unfoldable pub digit_for : ℕ → Option ℕ
digit_for b = if nat_le 48 b && nat_le b 57 then Some (b - 48) else (if nat_le 97 b && nat_le b 102 then Some (b - 97 + 10) else None)

-- the number of digits that follow those of n
unfoldable pub number_of : ℕ → List ℕ → Option ℕ
number_of n [] = Some n
number_of n (b ∷ s) = option_and_then (λ d. number_of (n * 16 + d) s) (digit_for b)

-- the third number of a line: eight digits, or one in a line that is shorter
unfoldable pub result_of : List ℕ → Option ℕ
result_of s = if length s == 27 then number_of 0 (take 8 (drop 18 s)) else digit_for (get_or s 18 0)

-- a space follows each operand, and the line's end stands last
unfoldable pub parted_of : List ℕ → Bool
parted_of s = (get_or s 8 0 == 32) && ((get_or s 17 0 == 32) && (get_or s (length s - 1) 0 == 10))

-- three numbers are a vector where each is one
abbrev pub vector_of : Option ℕ → Option ℕ → Option ℕ → Option Vector
vector_of a b r =
    option_and_then (λ a. option_and_then (λ b. option_and_then (λ r. Some (record { a = a; b = b; result = r })) r) b) a

-- what a line says
unfoldable pub line_of : List ℕ → Option Vector
line_of s =
    if nat_lt (length s) 20 then None
    else (if parted_of s then vector_of (number_of 0 (take 8 s)) (number_of 0 (take 8 (drop 9 s))) (result_of s) else None)

-- of the first n lines of a text, each of so many bytes, those that agree
unfoldable pub agreed_of : ℕ → ℕ → List ℕ → ℕ → ℕ
agreed_of k size s zero = 0
agreed_of k size s (suc n) = agreed_of k size s n + cond (agrees_of k (line_of (take size (drop (n * size) s)))) 1 0
