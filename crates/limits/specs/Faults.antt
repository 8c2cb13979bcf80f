-- Document 01's number of each fault that the code names. Assumes nothing.
use Rattle.std.specs.Prelude.{ℕ, ◌≡◌, ◌≤◌, ◌<◌, Result, Ok, Err}
use Rattle.limits.specs.Refusals.{table_length, missing, wrong_kind, wrong_field, wrong_type, too_deep, wrong_loop, over_words, bytes_after, foreign_record, short_store, wrong_phase, row_limit, row_length_of, wrong_flag, short_output}
use Rattle.limits.specs.declared.Fault.{Fault}
use Rattle.limits.specs.declared.UnknownFault.{UnknownFault}
use Rattle.limits.specs.declared.Refusal.{Refusal}
use Rattle.limits.specs.declared.Fault.TheVariants.{TableLength, Missing, WrongKind, WrongField, WrongType, TooDeep, WrongLoop, OverWords, BytesAfter, ForeignRecord, ShortStore, WrongPhase, RowLimit, RowLength, WrongFlag, ShortOutput}

abbrev pub number_for : Fault → ℕ
number_for TableLength = table_length
number_for Missing = missing
number_for WrongKind = wrong_kind
number_for WrongField = wrong_field
number_for WrongType = wrong_type
number_for TooDeep = too_deep
number_for WrongLoop = wrong_loop
number_for OverWords = over_words
number_for BytesAfter = bytes_after
number_for ForeignRecord = foreign_record
number_for ShortStore = short_store
number_for WrongPhase = wrong_phase
number_for RowLimit = row_limit
number_for RowLength = row_length_of
number_for WrongFlag = wrong_flag
number_for ShortOutput = short_output

-- what the conversion of a fault into a byte gives
abbrev pub Numbers : Fault → ℕ → Type 0
Numbers f n = n ≡ number_for f

-- what that of a byte into a fault gives: only 0 and what is above 16 are no fault's number, and then the error holds it
abbrev pub Named : ℕ → Result Fault UnknownFault → Type 0
Named n (Ok f) = n ≡ number_for f
Named n (Err e) = (n ≡ e.0) × (1 ≤ n → 16 < n)

-- A definition gives the number of a fault, 0 where there is none: what a test answers that looks for it.
abbrev pub Tested : Result (Unit {0}) Fault → ℕ → Type 0
Tested (Ok _) n = n ≡ 0
Tested (Err f) n = n ≡ number_for f

-- a refusal of this number at this place
abbrev pub Refuses : Refusal → (why place : ℕ) → Type 0
Refuses r why place = (why ≡ number_for r.fault) × (place ≡ r.place)
