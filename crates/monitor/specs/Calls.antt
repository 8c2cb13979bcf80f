-- What each call leaves, for every argument (document 01, "A run" and "Refusal numbers"): its answer, the store, the output.
-- Assumes nothing.
use Rattle.std.specs.Prelude.{ℕ, ◌+◌, ◌≡◌, cond, List, [], ◌++◌, eqb, ltb, length, drop, replicate, Result, Ok, Err}
use Rattle.limits.specs.Limits.{most_streams}
use Rattle.limits.specs.Refusals.{accepted}
use Rattle.limits.specs.declared.Refusal.{Refusal}
use Rattle.run.specs.Run.{store_after}
use Rattle.output.specs.Encoding.{overwritten}
use Rattle.announce.specs.Announced.{announced}
use Rattle.prepare.specs.PlanFor.{plan_for}
use Rattle.monitor.specs.declared.Run.{Run}
use Rattle.monitor.specs.declared.Phase.{Phase}
use Rattle.monitor.specs.declared.Phase.TheVariants.{Reading, Draining, Over}
use Rattle.monitor.specs.declared.Answer as code
use Rattle.monitor.specs.Turns.{bytes_on}
use Rattle.monitor.specs.Refusals.{Fault, told, open_fault, row_fault_of, close_fault_of, drain_fault_of}

-- what a call answers, by document 01's numbers: the record, the number and the place of a refusal or 0 and 0, and the bytes written
pub record Answer : Type 0 where
  pub run : Run
  pub number : ℕ
  pub place : ℕ
  pub count : ℕ

pub record After : Type 0 where
  pub answer : Answer
  pub store : List ℕ
  pub output : List ℕ

-- the record with these numbers: "each stream's look-ahead and kept number (0 past S), the rows taken, the phase and closing turns done"
abbrev pub run_with_of : (look kept : List ℕ) (rows : ℕ) → Phase → (done : ℕ) → Run
run_with_of look kept rows phase done = record { look = look; kept = kept; rows = rows; phase = phase; done = done }

-- the record of the same run, further on
abbrev pub moved_to : Run → (rows : ℕ) → Phase → (done : ℕ) → Run
moved_to r rows phase done = run_with_of r.look r.kept rows phase done

-- "A refusal hands back the record it got [..], writes 0 bytes, and leaves store and output untouched."
abbrev pub refused_with : Run → Fault → Answer
refused_with r f = record { run = r; number = f.number; place = f.place; count = 0 }

abbrev pub refusal : Run → Fault → (st out : List ℕ) → After
refusal r f st out = record { answer = refused_with r f; store = st; output = out }

-- "An accepted call answers number 0 and place 0."
abbrev pub accepted_with : Run → (count : ℕ) → Answer
accepted_with r count = record { run = r; number = accepted; place = 0; count = count }

abbrev pub acceptance : Run → (st : List ℕ) (bytes out : List ℕ) → After
acceptance r st bytes out = record { answer = accepted_with r (length bytes); store = st; output = overwritten bytes out }

-- what a call hands back, by document 01's numbers
abbrev pub with_outcome : Run → Result ℕ Refusal → Answer
with_outcome r (Ok count) = accepted_with r count
with_outcome r (Err e) = refused_with r (told e)

abbrev pub answered : code.Answer → Answer
answered a = with_outcome a.run a.outcome

-- the same of a call that writes no bytes, r being the record that a refusal hands back
abbrev pub ended : Run → Result Run Refusal → Answer
ended r (Ok q) = accepted_with q 0
ended r (Err e) = refused_with r (told e)

-- the call's answer: its first fault, if there is one
abbrev pub unless : Fault → (refused accepted : After) → After
unless f a b = cond (eqb f.number accepted) b a

-- "the check and opening give an all-zero one, phase reading"
abbrev pub zero_run : Run
zero_run = run_with_of (replicate most_streams 0) (replicate most_streams 0) 0 Reading 0

-- Opening. "Opening puts 0 into exactly the announced store words."
unfoldable pub open_call : (s st : List ℕ) → After
open_call s st =
    let c = announced s in
    unless (open_fault s (length st)) (refusal zero_run (open_fault s (length st)) st [])
    (acceptance (run_with_of c.look c.kept 0 Reading 0) (replicate c.words 0 ++ drop c.words st) [] [])

-- "A row call is turn j, for the j-th accepted row, counted from 0."
unfoldable pub row_call_of : (s : List ℕ) → Run → (ws st out : List ℕ) → After
row_call_of s r ws st out =
    unless (row_fault_of s r (length st) ws (length out)) (refusal r (row_fault_of s r (length st) ws (length out)) st out)
    (acceptance (moved_to r (r.rows + 1) Reading 0)
    (store_after (plan_for s) (r.rows + 1) r.rows ws st)
    (bytes_on s (r.rows + 1) r.rows ws st) out)

-- "Closing fixes N; with N = 0 or no closing turns the run is over"
unfoldable pub closed_phase_of : (rows closing : ℕ) → Phase
closed_phase_of rows closing = cond (eqb rows 0) Over (cond (eqb closing 0) Over Draining)

unfoldable pub close_call : (s : List ℕ) → Run → After
close_call s r =
    unless (close_fault_of s r) (refusal r (close_fault_of s r) [] [])
    (acceptance (moved_to r r.rows (closed_phase_of r.rows (announced s).closing) 0) [] [] [])

-- the phase after the closing turn that makes `done` of them
unfoldable pub drained_phase_of : (done closing : ℕ) → Phase
drained_phase_of done closing = cond (ltb done closing) Draining Over

-- "else draining calls are turns N, N+1 and so on"; there is no row
unfoldable pub drain_call_of : (s : List ℕ) → Run → (st out : List ℕ) → After
drain_call_of s r st out =
    unless (drain_fault_of s r (length st) (length out)) (refusal r (drain_fault_of s r (length st) (length out)) st out)
    (acceptance (moved_to r r.rows (drained_phase_of (r.done + 1) (announced s).closing) (r.done + 1))
    (store_after (plan_for s) r.rows (r.rows + r.done) [] st)
    (bytes_on s r.rows (r.rows + r.done) [] st) out)

-- what a call left is what the definition says: its answer, the store and the output behind the lent slices
pub record Leaves (x : After) (a : Answer) (st out : List ℕ) : Type 0 where
  pub answer_is : a ≡ x.answer
  pub store_is : st ≡ x.store
  pub output_is : out ≡ x.output

-- the same of opening, which has no output
pub record Opens (x : After) (a : Answer) (st : List ℕ) : Type 0 where
  pub answer_is : a ≡ x.answer
  pub store_is : st ≡ x.store
