-- Laws of an answer: what it prints, where it leaves a run, and that the bytes it gave lie within the output lent.
-- Assumes nothing.
use Prim.Native.Nat.{ℕ, ◌+◌, ◌≤◌}
use native.Mathlib.Omega.{arith}
use mathlib.Core.Path.{◌≡◌, refl, ap, sym, ◌∙◌}
use mathlib.Core.Bool.{Bool, true, false, cond}
use mathlib.Core.List.{List, [], ◌++◌}
use Rattle.std.specs.Prelude.{Result, Ok, Err}
use lib.Dec.{eqb}
use lib.ListN.{length, take, drop, length-append, length-drop}
use borrow.Author.Tests.{eq-eqb, ne_eqb}
use Rattle.basis.specs.Written.{Wrote}
use Rattle.basis.proofs.Written.{wrote_as}
use Rattle.lines.specs.Lines.{refusal_line}
use Rattle.limits.specs.declared.Refusal.{Refusal}
use Rattle.limits.proofs.Faults.{number_some}
use Rattle.records.specs.Kinds.{most_room, most_text}
use Rattle.records.specs.Lines.{lines_of}
use Rattle.output.specs.Encoding.{overwritten}
use Rattle.monitor.specs.declared.Run.{Run}
use Rattle.monitor.specs.Turns.{bytes_on}
use Rattle.monitor.specs.Refusals.{row_fault_of, drain_fault_of}
use Rattle.monitor.specs.Calls.{Answer, with_outcome, After, Leaves, row_call_of, drain_call_of}
use Rattle.answers.specs.Rows.{answer_text, outcome_text, Fits, text_of, onward, Reached}

pub accepted_text : {number : ℕ} (place : ℕ) (records : List ℕ) → number ≡ 0 → answer_text number place records ≡ lines_of records
unfolding answer_text
accepted_text place records h = rw (eq-eqb _ _ h)

pub refused_text : {number : ℕ} (place : ℕ) (records : List ℕ) → (number ≡ 0 → ⊥) → answer_text number place records ≡ refusal_line number place
unfolding answer_text
refused_text place records h = rw (ne_eqb _ _ h)

-- by what the code has for it
pub text_for : (r : Run) (o : Result ℕ Refusal) (out : List ℕ) → answer_text (with_outcome r o).number (with_outcome r o).place (take (with_outcome r o).count out) ≡ outcome_text o out
text_for r (Ok count) out = accepted_text 0 (take count out) refl
text_for r (Err e) out = refused_text e.place [] (number_some e.fault)

pub room_for : (r : Run) (o : Result ℕ Refusal) (out text : List ℕ) (at : ℕ) → length out ≡ most_room → (with_outcome r o).count ≤ most_room → at + most_text ≤ length text → Fits o out text at
room_for r (Ok count) out text at l h k = ((omega arith, omega arith), omega arith)
room_for r (Err e) out text at l h k = (tt, omega arith)

pub run_kept : (r : Run) (o : Result ℕ Refusal) → r ≡ (with_outcome r o).run
run_kept r (Ok count) = refl
run_kept r (Err e) = refl

-- what a call left, and its text
pub reached_by : (r : Run) (o : Result ℕ Refusal) {x : After} {st out before after : List ℕ} {at end : ℕ} → Leaves x (with_outcome r o) st out → Wrote before at (outcome_text o out) after end
    → Reached (onward x []) r st before at after end
reached_by r o {x} {st} {out} l w = record {
  run_is = run_kept r o ∙ ap (λ (b : Answer). b.run) l.answer_is;
  store_is = l.store_is;
  wrote = wrote_as text_is w;
}
  where
    text_is : [] ++ text_of x ≡ outcome_text o out
    text_is = rw (← l.answer_is, ← l.output_is) (text_for r o out)

-- The bytes that a call gave lie within the output that was lent, for that keeps its length.
bytes_within : (bytes out : List ℕ) → length (overwritten bytes out) ≡ length out → length bytes ≤ length out
bytes_within bytes out e = omega (arith, length-append bytes (drop (length bytes) out), length-drop (length bytes) out, e)

count_within : (b : Bool) (x y : After) (out : List ℕ) → (length x.output ≡ length out → x.answer.count ≤ length out) → y.answer.count ≡ 0 → length (cond b x y).output ≡ length out → (cond b x y).answer.count ≤ length out
count_within true x y out f z e = f e
count_within false x y out f z e = omega (arith, z)

module _ (s : List ℕ) (r : Run) where
  pub row_count : (ws st out : List ℕ) {a : Answer} {st' out' : List ℕ} → length out' ≡ length out → Leaves (row_call_of s r ws st out) a st' out' → a.count ≤ length out
  unfolding row_call_of
  row_count ws st out e l =
      rw l.answer_is
      (count_within (eqb (row_fault_of s r (length st) ws (length out)).number 0) _ _ out
      (bytes_within (bytes_on s (r.rows + 1) r.rows ws st) out) refl (ap length (sym l.output_is) ∙ e))

  pub drain_count : (st out : List ℕ) {a : Answer} {st' out' : List ℕ} → length out' ≡ length out → Leaves (drain_call_of s r st out) a st' out' → a.count ≤ length out
  unfolding drain_call_of
  drain_count st out e l =
      rw l.answer_is
      (count_within (eqb (drain_fault_of s r (length st) (length out)).number 0) _ _ out
      (bytes_within (bytes_on s r.rows (r.rows + r.done) [] st) out) refl (ap length (sym l.output_is) ∙ e))
