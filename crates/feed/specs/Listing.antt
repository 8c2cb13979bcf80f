-- The program's examples (document 01, "The program" and "Examples"): inputs, and what it prints for them, byte by byte.
-- Assumes nothing.
use Rattle.std.specs.Prelude.{ℕ, ◌≡◌, List, [], ◌∷◌, ◌++◌}
use Rattle.wire.specs.Bytes.{le4}
use Rattle.table.specs.TableA.{table_a}
use Rattle.feed.specs.Printed.{printed}

-- "The program on table A and the rows of P2 prints", each line as its bytes
abbrev pub listing : List ℕ
listing =
    -- v 1 0 fffffffa
    118 ∷ 32 ∷ 49 ∷ 32 ∷ 48 ∷ 32 ∷ 102 ∷ 102 ∷ 102 ∷ 102 ∷ 102 ∷ 102 ∷ 102 ∷ 97 ∷ 10
    -- v 1 1 0000000a
    ∷ 118 ∷ 32 ∷ 49 ∷ 32 ∷ 49 ∷ 32 ∷ 48 ∷ 48 ∷ 48 ∷ 48 ∷ 48 ∷ 48 ∷ 48 ∷ 97 ∷ 10
    -- v 2 0 00000000
    ∷ 118 ∷ 32 ∷ 50 ∷ 32 ∷ 48 ∷ 32 ∷ 48 ∷ 48 ∷ 48 ∷ 48 ∷ 48 ∷ 48 ∷ 48 ∷ 48 ∷ 10
    -- v 1 2 ffffffff
    ∷ 118 ∷ 32 ∷ 49 ∷ 32 ∷ 50 ∷ 32 ∷ 102 ∷ 102 ∷ 102 ∷ 102 ∷ 102 ∷ 102 ∷ 102 ∷ 102 ∷ 10
    -- v 2 1 00000001
    ∷ 118 ∷ 32 ∷ 50 ∷ 32 ∷ 49 ∷ 32 ∷ 48 ∷ 48 ∷ 48 ∷ 48 ∷ 48 ∷ 48 ∷ 48 ∷ 49 ∷ 10
    -- t 2 1
    ∷ 116 ∷ 32 ∷ 50 ∷ 32 ∷ 49 ∷ 10
    -- v 2 2 00000000
    ∷ 118 ∷ 32 ∷ 50 ∷ 32 ∷ 50 ∷ 32 ∷ 48 ∷ 48 ∷ 48 ∷ 48 ∷ 48 ∷ 48 ∷ 48 ∷ 48 ∷ 10
    -- end 3
    ∷ 101 ∷ 110 ∷ 100 ∷ 32 ∷ 51 ∷ 10 ∷ []

-- "kind byte 60, two bytes of table length, the table, then rows of I words with no framing": table A, of 36 bytes, and the bytes behind it
abbrev pub on_table_a : List ℕ → List ℕ
on_table_a rows = 0x60 ∷ 36 ∷ 0 ∷ (table_a ++ rows)

-- the rows of P2: 4294967290, 4, 3
abbrev pub bytes_p2 : List ℕ
bytes_p2 = le4 4294967290 ++ (le4 4 ++ le4 3)

-- one flag input, whose values the one output gives: 01 01 01 01, 02 00, 03 00 00, 04 01 13 00
abbrev pub on_flags : List ℕ → List ℕ
on_flags rows = 0x60 ∷ 13 ∷ 0 ∷ 0x01 ∷ 1 ∷ 1 ∷ 1 ∷ 0x02 ∷ 0 ∷ 0x03 ∷ 0 ∷ 0 ∷ 0x04 ∷ 1 ∷ 0x13 ∷ 0 ∷ rows

pub record Example : Type 0 where
  pub input : List ℕ
  pub text : List ℕ

abbrev pub prints : (input text : List ℕ) → Example
prints input text = record { input = input; text = text }

abbrev pub AllPrint : List Example → Type 0
AllPrint [] = Unit {0}
AllPrint (x ∷ xs) = (printed x.input ≡ x.text) × AllPrint xs

abbrev pub examples : List Example
examples =
    -- P2 and P3: stream 1 is 4294967290, 10, 4294967295, stream 2 is 0, 1, 0
    prints (on_table_a bytes_p2) listing
    -- P4 One row 5: stream 1 is 5; stream 2 is 0, on the closing turn.
    ∷ prints (on_table_a (le4 5))
    -- v 1 0 00000005
    (118 ∷ 32 ∷ 49 ∷ 32 ∷ 48 ∷ 32 ∷ 48 ∷ 48 ∷ 48 ∷ 48 ∷ 48 ∷ 48 ∷ 48 ∷ 53 ∷ 10
    -- v 2 0 00000000
    ∷ 118 ∷ 32 ∷ 50 ∷ 32 ∷ 48 ∷ 32 ∷ 48 ∷ 48 ∷ 48 ∷ 48 ∷ 48 ∷ 48 ∷ 48 ∷ 48 ∷ 10
    -- end 1
    ∷ 101 ∷ 110 ∷ 100 ∷ 32 ∷ 49 ∷ 10 ∷ [])
    -- "A part row gives `s n`, then closing goes on."
    ∷ prints (on_table_a (le4 5 ++ (9 ∷ [])))
    -- v 1 0 00000005
    (118 ∷ 32 ∷ 49 ∷ 32 ∷ 48 ∷ 32 ∷ 48 ∷ 48 ∷ 48 ∷ 48 ∷ 48 ∷ 48 ∷ 48 ∷ 53 ∷ 10
    -- s 44
    ∷ 115 ∷ 32 ∷ 52 ∷ 52 ∷ 10
    -- v 2 0 00000000
    ∷ 118 ∷ 32 ∷ 50 ∷ 32 ∷ 48 ∷ 32 ∷ 48 ∷ 48 ∷ 48 ∷ 48 ∷ 48 ∷ 48 ∷ 48 ∷ 48 ∷ 10
    -- end 1
    ∷ 101 ∷ 110 ∷ 100 ∷ 32 ∷ 49 ∷ 10 ∷ [])
    -- "No rows, then closing: over, no output."
    ∷ prints (on_table_a [])
    -- end 0
    (101 ∷ 110 ∷ 100 ∷ 32 ∷ 48 ∷ 10 ∷ [])
    -- "A refused row is reported and skipped", and "takes no position"
    ∷ prints (on_flags (le4 2 ++ le4 1))
    -- r 15 0
    (114 ∷ 32 ∷ 49 ∷ 53 ∷ 32 ∷ 48 ∷ 10
    -- v 1 0 00000001
    ∷ 118 ∷ 32 ∷ 49 ∷ 32 ∷ 48 ∷ 32 ∷ 48 ∷ 48 ∷ 48 ∷ 48 ∷ 48 ∷ 48 ∷ 48 ∷ 49 ∷ 10
    -- end 1
    ∷ 101 ∷ 110 ∷ 100 ∷ 32 ∷ 49 ∷ 10 ∷ [])
    -- "Empty input gives `s 0`."
    ∷ prints []
    -- s 0
    (115 ∷ 32 ∷ 48 ∷ 10 ∷ [])
    -- in the head, in the table: "n bytes read in all"
    ∷ prints (0x60 ∷ 36 ∷ [])
    -- s 2
    (115 ∷ 32 ∷ 50 ∷ 10 ∷ [])
    ∷ prints (0x60 ∷ 36 ∷ 0 ∷ 0x01 ∷ [])
    -- s 4
    (115 ∷ 32 ∷ 52 ∷ 10 ∷ [])
    -- "A first byte other than 60 gives `r 3 0`"
    ∷ prints (0x61 ∷ 36 ∷ 0 ∷ [])
    -- r 3 0
    (114 ∷ 32 ∷ 51 ∷ 32 ∷ 48 ∷ 10 ∷ [])
    -- "A length that refusal 1 covers isn't read further": 0, and 4,097
    ∷ prints (0x60 ∷ 0 ∷ 0 ∷ [])
    -- r 1 0
    (114 ∷ 32 ∷ 49 ∷ 32 ∷ 48 ∷ 10 ∷ [])
    ∷ prints (0x60 ∷ 0x01 ∷ 0x10 ∷ [])
    -- r 1 0
    (114 ∷ 32 ∷ 49 ∷ 32 ∷ 48 ∷ 10 ∷ [])
    -- "a refused table [..] ends it with no `end` line": the body of its first record is missing
    ∷ prints (0x60 ∷ 1 ∷ 0 ∷ 0x01 ∷ 7 ∷ [])
    -- r 2 0
    (114 ∷ 32 ∷ 50 ∷ 32 ∷ 48 ∷ 10 ∷ [])
    ∷ []
