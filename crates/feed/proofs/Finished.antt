-- Behind the last closing turn the program has printed what it prints for its input, but for the last line (document 01, "The program").
-- Assumes nothing.
use Prim.Native.Nat.{ℕ, ◌+◌, ◌*◌, ◌/◌, ◌%◌, ◌<◌}
use native.Mathlib.Omega.{arith}
use native.Mathlib.Nat.{mul-add-div_right, mul-add-mod_self_right, div-eq_of_lt, mod-eq_of_lt, add-zero}
use mathlib.Core.Path.{◌≡◌, refl, sym, ap, ap₂, subst, ◌∙◌}
use mathlib.Core.Bool.{false}
use mathlib.Core.List.{List, [], ◌++◌, map, append-nil, append_assoc}
use lib.ListN.{length, take, length-append}
use Rattle.basis.specs.Given.{Given}
use Rattle.wire.specs.Bytes.{AllBytes}
use Rattle.lines.specs.Lines.{end_line}
use Rattle.records.specs.Lines.{lines_of, lines_given}
use Rattle.records.proofs.Lines.{lines_of_given}
use Rattle.value.specs.declared.Value.{Value}
use Rattle.value.specs.declared.Value.TheVariants.{Flag}
use Rattle.table.specs.Table.{Table}
use Rattle.announce.specs.Announced.{announced}
use Rattle.lola.specs.Models.{trace}
use Rattle.lola.proofs.Existence.{model_exists}
use Rattle.run.specs.Run.{rows_in, owed_before}
use Rattle.run.proofs.Once.{owed_at}
use Rattle.meaning.specs.Tables.{spec_of, read_in, TableModel}
use Rattle.prepare.specs.PlanFor.{table_for, look_for, plan_for}
use Rattle.prepare.proofs.Accepted.{plan_announced}
use Rattle.monitor.specs.declared.Run.{Run}
use Rattle.monitor.specs.Refusals.{is_draining_of}
use Rattle.monitor.specs.Turns.{in_words}
use Rattle.demands.specs.Runs.{bytes_given_of}
use Rattle.demands.proofs.Demands.{demand_3}
use Rattle.demands.proofs.Back.{bytes_at, turn_fits}
use Rattle.answers.specs.Rows.{Progress}
use Rattle.feed.specs.Printed.{row_size, accepted_rows, lines_of_rows, model_for, turn_lines, lines_of_turns, turns_left_of, part_line, run_text, printed}
use Rattle.feed.specs.Stands.{Behind, AtClosing}
use Rattle.feed.proofs.Texts.{printed_run}
use Rattle.feed.proofs.Fitting.{bytes_in_front, bytes_behind, rows_of_bytes}
use Rattle.feed.proofs.Rows.{rows_within, lines_same, rows_in_front, lines_in_front}
use Rattle.feed.proofs.Running.{log_lines}
use Rattle.feed.proofs.Closing.{turns_same, Drains, closing_run}

-- ---- what a turn gave is what it owed

-- the model that the definition speaks of is one
pub model_is : (s : List ℕ) → (announced s).number ≡ 0 → (rows : List (List ℕ)) → TableModel (table_for s) rows (model_for s rows)
unfolding plan_for
model_is s a rows =
    let p = plan_announced s a in
    model_exists (spec_of (table_for s)) (look_for s) p.rank p.is.schedule (Flag false) (length rows) (trace (read_in (table_for s)) 0 rows)

-- the lines of what turn j gave are those of what it owes, where the table and the rows are of bytes
module _ {s st₀ bytes : List ℕ} {n left read turns : ℕ} {x : Progress} (c : Drains s st₀ bytes n left read turns x) (a : (announced s).number ≡ 0) (of_table : AllBytes s) (of_rows : AllBytes bytes) where
  abbrev rows : List (List ℕ)
  rows = accepted_rows (table_for s) bytes n

  log_is : c.log ≡ map (bytes_given_of s) (owed_before (plan_for s) (model_for s rows) (length rows) (length rows + turns))
  log_is =
      let e : rows_in c.calls ++ [] ≡ rows = append-nil (rows_in c.calls) ∙ c.rows_are in
      let g = (demand_3.running s st₀ c.ran).gives [] (λ _. refl) (model_for s rows) (subst (λ (l : List (List ℕ)). TableModel (table_for s) l (model_for s rows)) (sym e) (model_is s a rows)) in
      g ∙ ap₂ (λ (l m : ℕ). map (bytes_given_of s) (owed_before (plan_for s) (model_for s rows) l m)) (ap length e) (ap₂ (λ (l m : ℕ). l + m) (ap length c.rows_are) c.drained_are)

  pub turn_lines_lem : (j : ℕ) → j < length rows + turns → log_lines c.log j ≡ turn_lines s rows j
  unfolding turn_lines
  turn_lines_lem j h =
      let words = rows_of_bytes bytes of_rows (table_for s) n in
      let few = rows_within (table_for s) bytes n in
      let σ = model_for s rows in
      let T = length rows + turns in
      ap lines_of (bytes_at s a of_table rows words few σ (model_is s a rows) T c.log log_is j)
      ∙ lines_of_given (table_for s).roles _ (turn_fits s a of_table rows words few σ (model_is s a rows) T c.log log_is j)
      ∙ ap (λ (gs : List (Given Value)). lines_given (table_for s).roles (map in_words gs)) (owed_at (plan_for s) σ (length rows) T j h)

  -- so the text is that of the definition
  text_owed : x.text ≡ (lines_of_rows (turn_lines s rows) (table_for s) bytes n ++ part_line left read) ++ lines_of_turns (turn_lines s rows) (length rows) turns
  text_owed =
      c.text_is
      ∙ ap₂ (λ (u v : List ℕ). (u ++ part_line left read) ++ v)
      (lines_same (log_lines c.log) (turn_lines s rows) (table_for s) bytes n (λ j h. turn_lines_lem j (omega arith)))
      (turns_same (log_lines c.log) (turn_lines s rows) (length rows) turns turn_lines_lem)

-- ---- the rows and the part row, by division

module _ (s bytes part : List ℕ) (n read : ℕ) (whole : length bytes ≡ n * row_size (table_for s)) (short : length part < row_size (table_for s)) where
  abbrev t : Table
  t = table_for s

  whole_rows : length (bytes ++ part) / row_size t ≡ n
  whole_rows =
      rw (length-append bytes part, whole)
      (mul-add-div_right (omega arith) n (length part) ∙ ap (λ (k : ℕ). n + k) (div-eq_of_lt short) ∙ add-zero n)

  part_left : length (bytes ++ part) % row_size t ≡ length part
  part_left = rw (length-append bytes part, whole) (mul-add-mod_self_right n (row_size t) (length part) ∙ mod-eq_of_lt short)

  pub text_of_rows :
      run_text s (bytes ++ part) read
      ≡ lines_of_rows (turn_lines s (accepted_rows t bytes n)) t bytes n
      ++ (part_line (length part) read
      ++ (lines_of_turns (turn_lines s (accepted_rows t bytes n)) (length (accepted_rows t bytes n)) (turns_left_of (length (accepted_rows t bytes n)) (announced s).closing)
      ++ end_line (length (accepted_rows t bytes n))))
  unfolding run_text
  text_of_rows =
      rw (whole_rows, part_left, rows_in_front t bytes part n (omega arith), lines_in_front t bytes part (turn_lines s (accepted_rows t bytes n)) n (omega arith))

-- ---- the whole

module _ {b : List ℕ} {r : Run} {table store : List ℕ} {n : ℕ} {said : List ℕ} (c : AtClosing b r table store n said) where
  abbrev behind : Behind b table n c.part c.before
  behind = c.behind

  abbrev taken : List (List ℕ)
  taken = accepted_rows (table_for (take n table)) behind.rows behind.count

  all_turns : is_draining_of r.phase ≡ false → c.turns ≡ turns_left_of (length taken) (announced (take n table)).closing
  all_turns e = (closing_run c).over (ap (λ (y : Run). is_draining_of y.phase) (sym (closing_run c).run_is) ∙ e)

  -- all is printed but the last line
  pub finished : AllBytes b → is_draining_of r.phase ≡ false → printed b ≡ said ++ end_line r.rows
  finished bytes e =
      let s : List ℕ = take n table in
      let behind-head = bytes_behind behind.head (s ++ (behind.rows ++ c.part)) (subst AllBytes behind.bytes_are bytes) in
      let of_table = bytes_in_front s (behind.rows ++ c.part) behind-head in
      let of_rows = bytes_in_front behind.rows c.part (bytes_behind s (behind.rows ++ c.part) behind-head) in
      let rows_are : r.rows ≡ length taken = ap (λ (y : Run). y.rows) (closing_run c).run_is in
      let turn = turn_lines s taken in
      let A = lines_of_rows turn (table_for s) behind.rows behind.count in
      let P = part_line (length c.part) (length b) in
      let T = lines_of_turns turn (length taken) (turns_left_of (length taken) (announced s).closing) in
      let E = end_line (length taken) in
      let text_is : said ≡ (A ++ P) ++ T = text_owed (closing_run c) behind.accepted of_table of_rows ∙ ap (λ (k : ℕ). (A ++ P) ++ lines_of_turns turn (length taken) k) (all_turns e) in
      ap printed behind.bytes_are
      ∙ printed_run behind.head behind.head_is behind.head_long s (behind.rows ++ c.part) behind.table_long behind.accepted
      ∙ ap (λ (l : List ℕ). run_text s (behind.rows ++ c.part) (length l)) (sym behind.bytes_are)
      ∙ text_of_rows s behind.rows c.part behind.count (length b) behind.rows_long behind.part_short
      ∙ sym (ap₂ (λ (u : List ℕ) (k : ℕ). u ++ end_line k) text_is rows_are ∙ append_assoc (A ++ P) T E ∙ append_assoc A P (T ++ E))
