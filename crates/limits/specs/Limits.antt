-- Document 01's limits ("Numbers"), each once; `src/lib.rt` has the same for the code. A proof uses a limit by its name.
-- Assumes nothing.
use Rattle.std.specs.Prelude.{ℕ, ◌+◌, ◌*◌, ◌-◌}

-- "table 1 to 4,096 bytes"
abbrev pub least_table : ℕ
least_table = 1

abbrev pub most_table : ℕ
most_table = 4096

-- "S at most 32"
abbrev pub most_streams : ℕ
most_streams = 32

-- the pairs of two streams
abbrev pub most_pairs : ℕ
most_pairs = most_streams * most_streams

-- "I and O at least 1": so each is at most S less 1
abbrev pub most_outputs : ℕ
most_outputs = most_streams - 1

-- "nodes nest at most 16 levels deep"
abbrev pub most_levels : ℕ
most_levels = 16

-- "k from -128 to 127 and not 0"
abbrev pub most_back : ℕ
most_back = 128

abbrev pub most_ahead : ℕ
most_ahead = 127

-- A weight is noted as a number from 1 on, 0 being left for "no reference": the note of the weight 0 in rising order, the same in falling order,
-- and the largest note.
abbrev pub rise_of_zero : ℕ
rise_of_zero = most_back + 1

abbrev pub fall_of_zero : ℕ
fall_of_zero = most_ahead + 1

abbrev pub most_note : ℕ
most_note = most_back + most_ahead + 1

-- the largest look-ahead of an accepted table: where every loop is below 0 a longest walk meets no stream twice, so it has at most 31 edges,
-- each of at most 127
abbrev pub most_look : ℕ
most_look = most_outputs * most_ahead

-- "store at most 4,096 words"
abbrev pub most_words : ℕ
most_words = 4096

-- "at most 4,294,967,295 rows in a run"
abbrev pub most_rows : ℕ
most_rows = 4294967295
