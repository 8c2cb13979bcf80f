-- The kinds of the records that a turn gives (document 01, "A run"), their sizes, and the room for them ("What the check announces").
-- `src/lib.rt` has the same for the code. Assumes nothing.
use Rattle.std.specs.Prelude.{ℕ, ◌+◌, ◌*◌, cond, eqb}
use Rattle.limits.specs.Limits.{most_outputs}
use Rattle.records.specs.declared.Kind.{Kind}
use Rattle.records.specs.declared.Kind.TheVariants.{Value, Trigger}

-- "record 50 (stream, position in 4 bytes, value word)"
abbrev pub kind_value : ℕ
kind_value = 0x50

abbrev pub value_size_of : ℕ
value_size_of = 10

-- "record 51 (stream, position)"
abbrev pub kind_trigger : ℕ
kind_trigger = 0x51

abbrev pub trigger_size_of : ℕ
trigger_size_of = 6

-- the byte that names a kind, and the bytes of its record
abbrev pub byte_of : Kind → ℕ
byte_of Value = kind_value
byte_of Trigger = kind_trigger

abbrev pub size_for : Kind → ℕ
size_for Value = value_size_of
size_for Trigger = trigger_size_of

-- the bytes of a record by its first byte, 0 where no record has it
unfoldable pub size_of_kind_of : ℕ → ℕ
size_of_kind_of k = cond (eqb k kind_value) value_size_of (cond (eqb k kind_trigger) trigger_size_of 0)

-- "Room: 10 bytes for each output and 6 for each trigger."
abbrev pub room_for : (outputs triggers : ℕ) → ℕ
room_for outputs triggers = value_size_of * outputs + trigger_size_of * triggers

-- no table announces more: each of the outputs a trigger
abbrev pub most_room : ℕ
most_room = (value_size_of + trigger_size_of) * most_outputs

-- the lines of one turn: no record's line is longer than three times the record
abbrev pub most_text : ℕ
most_text = 3 * most_room
