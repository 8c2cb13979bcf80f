-- The calls of the code as calls of the theory, of which demand 3 speaks (document 01, "What the contracts must exclude").
-- Assumes nothing.
use Rattle.std.specs.Prelude.{ℕ, ◌≡◌, List, map, eqb}
use Rattle.value.specs.declared.Value.{Value}
use Rattle.run.specs.Run as run
use Rattle.basis.specs.Given.{Given}
use Rattle.run.specs.Run.{Rec, Call, answer}
use Rattle.records.specs.Encoding.{encode}
use Rattle.output.specs.Encoding.{Emitted}
use Rattle.announce.specs.Announced.{announced}
use Rattle.prepare.specs.PlanFor.{table_for, plan_for}
use Rattle.monitor.specs.declared.Phase.{Phase}
use Rattle.monitor.specs.declared.Phase.TheVariants.{Reading, Draining, Over}
use Rattle.monitor.specs.declared.Run.{Run}
use Rattle.monitor.specs.Calls.{Answer}
use Rattle.monitor.specs.Turns.{in_words}

unfoldable pub phase_for : Phase → run.Phase
phase_for Reading = run.reading
phase_for Draining = run.draining
phase_for Over = run.over

-- of the record, what changes in a run
unfoldable pub rec_of : Run → Rec
rec_of r = record { rows = r.rows; phase = phase_for r.phase; done = r.done }

-- a record with the numbers that are announced of accepted bytes
pub record Numbered (s : List ℕ) (r : Run) : Type 0 where
  pub accepted : (announced s).number ≡ 0
  pub look_is : r.look ≡ (announced s).look
  pub kept_is : r.kept ≡ (announced s).kept

-- the bytes of the values given
abbrev pub bytes_given_of : List ℕ → List (Given Value) → List ℕ
bytes_given_of s gs = encode (table_for s).roles (map in_words gs)

-- what a call with the record r left is the theory's answer: taken or not, the record, the store, and the bytes of the values given
pub record Agrees (s : List ℕ) (theory : run.Answer Value ℕ) (r : Run) (out : List ℕ) (a : Answer) (st1 out1 : List ℕ) : Type 0 where
  pub taken_is : theory.accepted ≡ eqb a.number 0
  pub record_is : theory.after ≡ rec_of a.run
  pub store_is : st1 ≡ theory.store
  pub output_is : Emitted (bytes_given_of s theory.given) out out1 a.count
  pub numbers_stay : (a.run.look ≡ r.look) × (a.run.kept ≡ r.kept)

-- the answer to the call k over the store st
abbrev pub Is : (s : List ℕ) → Call ℕ → Run → (st out : List ℕ) → Answer → (st1 out1 : List ℕ) → Type 0
Is s k r st out a st1 out1 = Agrees s (answer (plan_for s) k (rec_of r) st) r out a st1 out1

-- an opening that is accepted is the theory's
pub record Begins (s st : List ℕ) (a : Answer) (st1 : List ℕ) : Type 0 where
  pub taken_is : a.number ≡ 0
  pub numbered : Numbered s a.run
  pub record_is : rec_of a.run ≡ record { rows = 0; phase = run.reading; done = 0 }
  pub store_is : st1 ≡ run.opened (plan_for s) st
