-- The records of a table that hold no expression, each with its faults in their order: "missing kind byte (2), 3, missing body (2), 6, 4, 5"
-- (document 01, "The table" and "Refusal numbers"). Of these records none has a level or a wanted type. Assumes nothing.
use Rattle.std.specs.Prelude.{ℕ, zero, suc, ◌+◌, Bool, true, false, cond, List, [], ◌∷◌, ◌++◌, ltb, leb, eqb, length, get_or}
use Rattle.limits.specs.Limits.{least_table, most_table, most_streams}
use Rattle.limits.specs.Refusals.{table_length, missing, wrong_kind, wrong_field}
use Rattle.node.specs.Node.{first}

-- the fault of a record of the kind k with a body of b bytes: kind byte missing, another kind, body missing
unfoldable pub record_fault_of : List ℕ → ℕ → ℕ → ℕ → ℕ
record_fault_of s at k b =
    cond (ltb at (length s)) (cond (eqb (get_or s at 0) k) (cond (leb (at + 1 + b) (length s)) 0 missing) wrong_kind) missing

-- "types are 0 flag, 1 word, 2 level"
unfoldable pub type_rule_of : ℕ → ℕ
type_rule_of t = cond (ltb 2 t) wrong_field 0

-- "role (0 plain, 1 trigger)", and refusal 4: "a trigger not of type flag"
unfoldable pub role_rule_of : ℕ → ℕ → ℕ
role_rule_of t r = cond (ltb 1 r) wrong_field (cond (eqb r 0) 0 (cond (eqb t 0) 0 wrong_field))

-- the record 01: edition 1, "I and O at least 1; S at most 32"
unfoldable pub head_fault_of : List ℕ → ℕ
head_fault_of s =
    first (record_fault_of s 0 1 3)
    (cond (eqb (get_or s 1 0) 1)
    (cond (eqb (get_or s 2 0) 0) wrong_field
    (cond (eqb (get_or s 3 0) 0) wrong_field (cond (leb (get_or s 2 0 + get_or s 3 0) most_streams) 0 wrong_field)))
    wrong_field)

-- the record 02, an input's
unfoldable pub input_fault_of : List ℕ → ℕ → ℕ
input_fault_of s at = first (record_fault_of s at 2 1) (type_rule_of (get_or s (at + 1) 0))

-- the record 03, an output's
unfoldable pub output_fault_of : List ℕ → ℕ → ℕ
output_fault_of s at =
    first (record_fault_of s at 3 2) (first (type_rule_of (get_or s (at + 1) 0)) (role_rule_of (get_or s (at + 1) 0) (get_or s (at + 2) 0)))

-- the record 04 of the stream y: "O of 04 in stream order"
unfoldable pub equation_fault_of : List ℕ → ℕ → ℕ → ℕ
equation_fault_of s at y = first (record_fault_of s at 4 1) (cond (eqb (get_or s (at + 1) 0) y) 0 wrong_field)

-- whether the stream v is an input (0) or an output (1), of i inputs: "inputs first"
unfoldable pub side_of : ℕ → ℕ → ℕ
side_of i v = cond (ltb v i) 0 1

-- the fault of a stream's record, the role that it gives (an input has the role 0), and the place behind it
unfoldable pub stream_fault_of : ℕ → List ℕ → ℕ → ℕ
stream_fault_of side s at = cond (eqb side 0) (input_fault_of s at) (output_fault_of s at)

unfoldable pub role_at : ℕ → List ℕ → ℕ → ℕ
role_at side s at = cond (eqb side 0) 0 (get_or s (at + 2) 0)

abbrev pub behind : ℕ → ℕ → ℕ
behind side at = at + 2 + side

-- f where the test holds, which is computed only there
abbrev pub if_fine : {A : Type 0} → Bool → (Unit {0} → A) → A → A
if_fine true f x = f tt
if_fine false f x = x

-- the types and the roles that some records declare and the place behind them, or the number and the place of a fault
pub data Declared : Type 0 where
  declares : List ℕ → List ℕ → ℕ → Declared
  wrong : ℕ → ℕ → Declared

abbrev pub before : List ℕ → List ℕ → Declared → Declared
before ts rs (declares us qs n) = declares (ts ++ us) (rs ++ qs) n
before ts rs (wrong why place) = wrong why place

-- the records of n streams from the stream v on, of i inputs: "I of 02; O of 03"
unfoldable pub declared : ℕ → ℕ → ℕ → List ℕ → ℕ → Declared
declared zero i v s at = declares [] [] at
declared (suc n) i v s at =
    if_fine (eqb (stream_fault_of (side_of i v) s at) 0)
    (λ _. before (get_or s (at + 1) 0 ∷ []) (role_at (side_of i v) s at ∷ []) (declared n i (v + 1) s (behind (side_of i v) at)))
    (wrong (stream_fault_of (side_of i v) s at) at)

-- all that stands before the first equation: "table 1 to 4,096 bytes", the record 01, the streams' records
unfoldable pub heads : List ℕ → Declared
heads s =
    if_fine (leb least_table (length s))
    (λ _. if_fine (leb (length s) most_table)
    (λ _. if_fine (eqb (head_fault_of s) 0) (λ _. declared (get_or s 2 0 + get_or s 3 0) (get_or s 2 0) 0 s 4) (wrong (head_fault_of s) 0))
    (wrong table_length 0))
    (wrong table_length 0)
