-- Document 01's refusal numbers, each once and by name; `src/lib.rt` has the same for the code. 0 is no refusal: "An accepted call
-- answers number 0 and place 0." Assumes nothing.
use Rattle.std.specs.Prelude.{ℕ}

abbrev pub accepted : ℕ
accepted = 0

-- "table length out of its limits"
abbrev pub table_length : ℕ
table_length = 1

-- "kind byte or body missing"
abbrev pub missing : ℕ
missing = 2

-- "kind not allowed here"
abbrev pub wrong_kind : ℕ
wrong_kind = 3

-- "a field out of its rule"
abbrev pub wrong_field : ℕ
wrong_field = 4

-- "node not of the wanted type"
abbrev pub wrong_type : ℕ
wrong_type = 5

-- "node at level 17"
abbrev pub too_deep : ℕ
too_deep = 6

-- "a loop totals 0 or more"
abbrev pub wrong_loop : ℕ
wrong_loop = 7

-- "store words over 4,096"
abbrev pub over_words : ℕ
over_words = 8

-- "bytes after the last expression"
abbrev pub bytes_after : ℕ
bytes_after = 9

-- "not a record of this table"
abbrev pub foreign_record : ℕ
foreign_record = 10

-- "lent store shorter than announced"
abbrev pub short_store : ℕ
short_store = 11

-- "call not of this phase"
abbrev pub wrong_phase : ℕ
wrong_phase = 12

-- "row limit reached"
abbrev pub row_limit : ℕ
row_limit = 13

-- "row hasn't I words"
abbrev pub row_length_of : ℕ
row_length_of = 14

-- "input flag word above 1"
abbrev pub wrong_flag : ℕ
wrong_flag = 15

-- "lent output shorter than the room"
abbrev pub short_output : ℕ
short_output = 16
