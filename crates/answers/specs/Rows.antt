-- What the program prints of its rows and its closing turns (document 01, "The program"): the answers of the calls, one after another.
-- Assumes nothing.
use Rattle.std.specs.Prelude.{ℕ, zero, suc, ◌*◌, ◌≤◌, ◌<◌, ◌≡◌, true, false, cond, List, [], ◌++◌, eqb, length, take, replicate, ◌+◌, Result, Ok, Err, IfOk}
use Rattle.basis.specs.Written.{Wrote}
use Rattle.limits.specs.Refusals.{accepted}
use Rattle.limits.specs.declared.Refusal.{Refusal}
use Rattle.lines.specs.Lines.{refusal_line, most_refusal_line}
use Rattle.records.specs.Kinds.{most_room}
use Rattle.records.specs.Lines.{lines_of}
use Rattle.monitor.specs.declared.Run.{Run}
use Rattle.monitor.specs.Refusals.{told, is_draining_of}
use Rattle.monitor.specs.Calls.{After, row_call_of, drain_call_of}
use Rattle.answers.specs.Words.{words_at}

-- the output lent to a turn: as long as the room of any table
abbrev pub lent : List ℕ
lent = replicate most_room 0

-- a line for each record that the call gave, or "A refused row is reported"
unfoldable pub answer_text : (number place : ℕ) (records : List ℕ) → List ℕ
answer_text number place records = cond (eqb number accepted) (lines_of records) (refusal_line number place)

-- the same by what the code has for it, and what that needs
abbrev pub outcome_text : Result ℕ Refusal → (out : List ℕ) → List ℕ
outcome_text (Ok count) out = lines_of (take count out)
outcome_text (Err e) out = refusal_line (told e).number (told e).place

abbrev pub Fits : Result ℕ Refusal → (out text : List ℕ) (at : ℕ) → Type 0
Fits o out text at = IfOk o (λ count. (count ≤ length out) × (at + 3 * count ≤ length text)) × (at + most_refusal_line ≤ length text)

abbrev pub text_of : After → List ℕ
text_of a = answer_text a.answer.number a.answer.place (take a.answer.count a.output)

-- how far a run has come: its record, its store, and what was printed on the way
pub record Progress : Type 0 where
  pub run : Run
  pub store : List ℕ
  pub text : List ℕ

abbrev pub begun : Run → List ℕ → Progress
begun r st = record { run = r; store = st; text = [] }

abbrev pub onward : After → List ℕ → Progress
onward a text = record { run = a.answer.run; store = a.store; text = text ++ text_of a }

-- one row of the table s
abbrev pub after_row : (s ws : List ℕ) → Progress → Progress
after_row s ws x = onward (row_call_of s x.run ws x.store lent) x.text

-- the first n rows of the input, "rows of I words with no framing"
unfoldable pub after_rows : (s input : List ℕ) (inputs n : ℕ) → Progress → Progress
after_rows s input inputs zero x = x
after_rows s input inputs (suc n) x = after_row s (words_at input (n * (4 * inputs)) inputs) (after_rows s input inputs n x)

-- one closing turn
abbrev pub after_drain : (s : List ℕ) → Progress → Progress
after_drain s x = onward (drain_call_of s x.run x.store lent) x.text

unfoldable pub after_drains : (s : List ℕ) (n : ℕ) → Progress → Progress
after_drains s zero x = x
after_drains s (suc n) x = after_drain s (after_drains s n x)

-- the code has come so far: its record, its store, and the text from `at` up to `end`
pub record Reached (x : Progress) (r : Run) (st before : List ℕ) (at : ℕ) (after : List ℕ) (end : ℕ) : Type 0 where
  pub run_is : r ≡ x.run
  pub store_is : st ≡ x.store
  pub wrote : Wrote before at x.text after end

-- closing turns were taken while there were any, and one at least where there was one
pub record Drains (s : List ℕ) (turns : ℕ) (x : Progress) : Type 0 where
  pub each : (i : ℕ) → i < turns → is_draining_of (after_drains s i x).run.phase ≡ true
  pub some : turns ≡ 0 → is_draining_of x.run.phase ≡ false

-- the rows taken from the input's front are whole, and there is one at least where the input has one
pub record Taken (input : List ℕ) (inputs rows used : ℕ) : Type 0 where
  pub used_is : used ≡ rows * (4 * inputs)
  pub whole : used ≤ length input
  pub some : used ≡ 0 → length input < 4 * inputs

-- so were some rows answered
pub record Answered (s input : List ℕ) (inputs : ℕ) (x : Progress) (r : Run) (st before after : List ℕ) (used end : ℕ) : Type 0 where
  pub rows : ℕ
  pub reached : Reached (after_rows s input inputs rows x) r st before 0 after end
  pub taken : Taken input inputs rows used
