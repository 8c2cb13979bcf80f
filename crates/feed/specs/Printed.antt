-- THE PAGE TO READ for the program: what it prints for an input (document 01, "The program"), over source 004's evaluation model.
-- `Program` says how the program's pieces make this text. Assumes nothing.
use Rattle.std.specs.Prelude.{ℕ, zero, suc, ◌+◌, ◌*◌, ◌/◌, ◌%◌, Bool, false, not, cond, List, [], ◌∷◌, ◌++◌, map, eqb, ltb, leb, length, take, drop}
use Rattle.limits.specs.Limits.{most_rows}
use Rattle.limits.specs.Refusals.{accepted, row_limit, wrong_flag}
use Rattle.basis.specs.Choices.{or_else}
use Rattle.lines.specs.Lines.{refusal_line, stop_line, end_line}
use Rattle.records.specs.Lines.{lines_given}
use Rattle.value.specs.declared.Value.{Value}
use Rattle.value.specs.declared.Value.TheVariants.{Flag}
use Rattle.table.specs.Table.{Table}
use Rattle.announce.specs.Announced.{announced}
use Rattle.lola.specs.Models.{model_of, trace}
use Rattle.run.specs.Run.{owed}
use Rattle.meaning.specs.Tables.{spec_of, read_in}
use Rattle.prepare.specs.PlanFor.{table_for, look_for, plan_for, first_bad_of}
use Rattle.monitor.specs.Refusals.{Fault}
use Rattle.monitor.specs.Refusals.{fine, refuse_if}
use Rattle.monitor.specs.Turns.{in_words}
use Rattle.answers.specs.Words.{words_at}
use Rattle.feed.specs.Head.{Head}
use Rattle.feed.specs.Head.{Stopped, Refused, Table as Tabled}
use Rattle.feed.specs.Head.{head_size, input_head}

-- ---- rows

-- the bytes of a row: I words
abbrev pub row_size : Table → ℕ
row_size t = 4 * t.inputs

-- the n-th row of the bytes behind the table, counted from 0: "rows of I words with no framing"
abbrev pub row_at : Table → (bytes : List ℕ) (n : ℕ) → List ℕ
row_at t bytes n = words_at bytes (n * row_size t) t.inputs

-- why a row of I words is refused where `taken` rows have been accepted: "row limit reached", "input flag word above 1"
unfoldable pub row_refusal : Table → (taken : ℕ) (ws : List ℕ) → Fault
row_refusal t taken ws =
    let bad = first_bad_of t.types ws t.inputs 0 in
    refuse_if (leb most_rows taken) row_limit 0 (refuse_if (ltb bad t.inputs) wrong_flag bad fine)

abbrev pub is_taken : Table → (taken : ℕ) (ws : List ℕ) → Bool
is_taken t taken ws = eqb (row_refusal t taken ws).number accepted

-- the accepted ones of the first n rows: "A refused row [..] is skipped", "A refused row takes no position"
unfoldable pub accepted_rows : Table → (bytes : List ℕ) (n : ℕ) → List (List ℕ)
accepted_rows t bytes zero = []
accepted_rows t bytes (suc n) =
    let before = accepted_rows t bytes n in
    let ws = row_at t bytes n in
    cond (is_taken t (length before) ws) (before ++ (ws ∷ [])) before

-- the lines of the first n rows, where `turn j` are those of turn j: "A row call is turn j, for the j-th accepted row",
-- "A refused row is reported and skipped"
module _ (turn : ℕ → List ℕ) (t : Table) (bytes : List ℕ) where
  abbrev pub row_lines : (taken : ℕ) (ws : List ℕ) → List ℕ
  row_lines taken ws = cond (is_taken t taken ws) (turn taken) (refusal_line (row_refusal t taken ws).number (row_refusal t taken ws).place)

  unfoldable pub lines_of_rows : ℕ → List ℕ
  lines_of_rows zero = []
  lines_of_rows (suc n) = lines_of_rows n ++ row_lines (length (accepted_rows t bytes n)) (row_at t bytes n)

-- ---- turns

module _ (s : List ℕ) (rows : List (List ℕ)) where
  -- the evaluation model of the accepted rows: there is exactly one (demand 2)
  abbrev pub model_for : ℕ → ℕ → Value
  model_for = model_of (spec_of (table_for s)) (look_for s) (Flag false) (length rows) (trace (read_in (table_for s)) 0 rows)

  -- the lines of what turn j owes
  unfoldable pub turn_lines : ℕ → List ℕ
  turn_lines j = lines_given (table_for s).roles (map in_words (owed (plan_for s) model_for (length rows) j))

-- the lines of n turns from turn `from` on
unfoldable pub lines_of_turns : (turn : ℕ → List ℕ) (from n : ℕ) → List ℕ
lines_of_turns turn from zero = []
lines_of_turns turn from (suc n) = lines_of_turns turn from n ++ turn (from + n)

-- "with N = 0 or no closing turns the run is over, else draining calls are turns N, N+1 and so on"
abbrev pub turns_left_of : (rows closing : ℕ) → ℕ
turns_left_of rows closing = cond (eqb rows 0) 0 closing

-- ---- the whole input

-- "A part row gives `s n`": `left` bytes behind the last whole row, n read in all
abbrev pub part_line : (left n : ℕ) → List ℕ
part_line left n = cond (eqb left 0) [] (stop_line n)

-- an accepted table s, the bytes behind it, n bytes read in all: the rows, the part row, "then closing goes on", "at the end `end N`"
unfoldable pub run_text : (s bytes : List ℕ) (n : ℕ) → List ℕ
run_text s bytes n =
    let t = table_for s in
    let whole = length bytes / row_size t in
    let rows = accepted_rows t bytes whole in
    let turn = turn_lines s rows in
    lines_of_rows turn t bytes whole
    ++ (part_line (length bytes % row_size t) n ++ (lines_of_turns turn (length rows) (turns_left_of (length rows) (announced s).closing) ++ end_line (length rows)))

-- the table's bytes and those behind them: "this, a refused table [..] ends it with no `end` line"
unfoldable pub table_text : (s bytes : List ℕ) (n : ℕ) → List ℕ
table_text s bytes n = or_else (not (eqb (announced s).number accepted)) (refusal_line (announced s).number (announced s).place) λ _. run_text s bytes n

-- by what the head says: "`s n` where input stops inside something", "A first byte other than 60", "A length that refusal 1 covers isn't
-- read further"
unfoldable pub head_text : (input : List ℕ) → Head → List ℕ
head_text input Stopped = stop_line (length input)
head_text input (Refused number place) = refusal_line number place
head_text input (Tabled n) =
    or_else (ltb (length input) (head_size + n)) (stop_line (length input)) λ _. table_text (take n (drop head_size input)) (drop (head_size + n) input) (length input)

-- what the program prints for an input
unfoldable pub printed : (input : List ℕ) → List ℕ
printed input = head_text input (input_head input)
