-- What each entry of the dock leaves, for every argument (document 01, "A run"): "that entry gives what the by-value call gives".
-- Assumes nothing.
use Rattle.std.specs.Prelude.{ℕ, ◌≤◌, ◌<◌, ◌≡◌, cond, List, [], eqb, ltb, Option, MatchOption, Result, Ok, Err}
use Rattle.limits.specs.Refusals.{accepted, foreign_record}
use Rattle.limits.specs.Faults.{number_for}
use Rattle.limits.specs.declared.Refusal.{Refusal}
use Rattle.monitor.specs.declared.Run.{Run}
use Rattle.monitor.specs.declared.Answer as code
use Rattle.monitor.specs.declared.Phase.{Phase}
use Rattle.monitor.specs.declared.Phase.TheVariants.{Reading, Draining, Over}
use Rattle.monitor.specs.Phases.{byte_of}
use Rattle.monitor.specs.Refusals.{fault, after_table}
use Rattle.monitor.specs.Calls.{Answer, answered, After, open_call, row_call_of, close_call, drain_call_of}
use Rattle.dock.specs.declared.Record.{Record}
use Rattle.dock.specs.declared.Reply.{Reply}
use Rattle.dock.specs.declared.Told.{Told}

-- the phases' bytes; no byte above the last one is a phase
abbrev pub reading_byte : ℕ
reading_byte = 0

abbrev pub draining_byte : ℕ
draining_byte = 1

abbrev pub over_byte : ℕ
over_byte = 2

-- the phase of a byte; the byte of a phase is `byte_of`
unfoldable pub phase_for : ℕ → Phase
phase_for n = cond (eqb n reading_byte) Reading (cond (eqb n draining_byte) Draining Over)

-- the dock's record as the run's, and back
abbrev pub run_of : Record → Run
run_of d = record { look = d.look; kept = d.kept; rows = d.rows; phase = phase_for d.phase; done = d.done }

abbrev pub record_of : Run → Record
record_of r = record { look = r.look; kept = r.kept; rows = r.rows; done = r.done; phase = byte_of r.phase }

abbrev pub reply_for : Answer → Reply
reply_for a = record { held = record_of a.run; told = record { number = a.number; place = a.place; count = a.count } }

-- what comes of a run's call is told so, and its answer is replied so; a record is one of a run where its byte is a phase
abbrev pub told_for : Result ℕ Refusal → Told
told_for (Ok count) = record { number = accepted; place = 0; count = count }
told_for (Err e) = record { number = number_for e.fault; place = e.place; count = 0 }

abbrev pub Tells : Result ℕ Refusal → Told → Type 0
Tells o t = t ≡ told_for o

abbrev pub Replies : code.Answer → Reply → Type 0
Replies a r = r ≡ reply_for (answered a)

abbrev pub IsRun : Record → Option Run → Type 0
IsRun d r = MatchOption r (over_byte < d.phase) (λ run. (d.phase ≤ over_byte) × (run ≡ run_of d))

-- what an entry leaves: the record and what is told, the store, the output
pub record Left : Type 0 where
  pub reply : Reply
  pub store : List ℕ
  pub output : List ℕ

-- what the by-value call leaves
abbrev pub left_by_of : After → Left
left_by_of x = record { reply = reply_for x.answer; store = x.store; output = x.output }

-- A byte that is no phase is "not a record of this table", after the table's own tests; the record is handed back as it was.
unfoldable pub strange_reply : (s : List ℕ) → Record → Reply
strange_reply s d = let f = after_table s (fault foreign_record 0) in record { held = d; told = record { number = f.number; place = f.place; count = 0 } }

unfoldable pub lent : (s : List ℕ) → Record → (st out : List ℕ) → After → Left
lent s d st out x = cond (ltb over_byte d.phase) (record { reply = strange_reply s d; store = st; output = out }) (left_by_of x)

-- the entries
abbrev pub lent_open : (s st : List ℕ) → Left
lent_open s st = left_by_of (open_call s st)

abbrev pub lent_row : (s : List ℕ) → Record → (ws st out : List ℕ) → Left
lent_row s d ws st out = lent s d st out (row_call_of s (run_of d) ws st out)

abbrev pub lent_close : (s : List ℕ) → Record → Left
lent_close s d = lent s d [] [] (close_call s (run_of d))

abbrev pub lent_drain : (s : List ℕ) → Record → (st out : List ℕ) → Left
lent_drain s d st out = lent s d st out (drain_call_of s (run_of d) st out)

-- The record behind the reference after an entry of an open run has written back what a call may change: d is the record that was lent, e the one
-- that the call by value handed back. It is e (`Keeping.antt`): no such call changes a look-ahead or a kept number.
abbrev pub written_back : (d e : Record) → Record
written_back d e = record { look = d.look; kept = d.kept; rows = e.rows; done = e.done; phase = e.phase }

-- what a call by value over the dock's record left is what the definition says
pub record Gives (x : Left) (a : Reply) (st out : List ℕ) : Type 0 where
  pub reply_is : a ≡ x.reply
  pub store_is : st ≡ x.store
  pub output_is : out ≡ x.output

-- what an entry left is what the definition says: the record behind the reference, what is told, and the lent slices
pub record Lends (x : Left) (d : Record) (told : Told) (st out : List ℕ) : Type 0 where
  pub record_is : d ≡ x.reply.held
  pub told_is : told ≡ x.reply.told
  pub store_is : st ≡ x.store
  pub output_is : out ≡ x.output
