-- The head of the input (document 01, "The program").
-- Assumes nothing.
use Rattle.std.specs.Prelude.{ℕ, ◌+◌, ◌*◌, cond, List, eqb, ltb, length, get_or, Option, Some, None, Result, Ok, Err}
use Rattle.limits.specs.Limits.{most_table}
use Rattle.limits.specs.Refusals.{table_length, wrong_kind}
use Rattle.limits.specs.declared.Refusal.{Refusal}
use Rattle.monitor.specs.Refusals.{told}

-- what the bytes of the head say: the input stops in them, a refusal with its place, or the table's length
pub data Head : Type 0 where
  Stopped : Head
  Refused : (number place : ℕ) → Head
  Table : (length : ℕ) → Head

-- the same by what the code has for it
abbrev pub head_as : Result (Option ℕ) Refusal → Head
head_as (Ok None) = Stopped
head_as (Ok (Some n)) = Table n
head_as (Err e) = Refused (told e).number (told e).place

-- "kind byte 60, two bytes of table length"
abbrev pub kind_table_of : ℕ
kind_table_of = 0x60

abbrev pub head_size : ℕ
head_size = 3

-- "table length out of its limits": refusal 1, place 0
unfoldable pub length_of : ℕ → Head
length_of n = cond (eqb n 0) (Refused table_length 0) (cond (ltb most_table n) (Refused table_length 0) (Table n))

-- "A first byte other than 60 gives `r 3 0`"
unfoldable pub input_head : List ℕ → Head
input_head s =
    cond (eqb (length s) 0) Stopped
    (cond (eqb (get_or s 0 0) kind_table_of) (cond (ltb (length s) head_size) Stopped (length_of (get_or s 1 0 + 256 * get_or s 2 0))) (Refused wrong_kind 0))
