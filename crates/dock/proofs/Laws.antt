-- What the entries promise, for the reader (document 01, "A run" and "Refusal numbers"): each "gives what the by-value call gives", a
-- refused one leaves all as it was, and what each leaves is determined. Assumes nothing.
use Prim.Native.Nat.{ℕ, ◌≤◌}
use mathlib.Core.Path.{◌≡◌, refl, sym, ap, ◌∙◌}
use mathlib.Core.List.{List, []}
use lib.Dec.{eqb, ltb}
use lib.ListN.{length}
use borrow.Author.Tests.{ltb-false}
use Rattle.basis.proofs.Tests.{pick_case}
use Rattle.monitor.specs.declared.Run.{Run}
use Rattle.monitor.specs.declared.Phase.{Phase}
use Rattle.monitor.specs.Refusals.{Fault, open_fault, row_fault_of, close_fault_of, drain_fault_of}
use Rattle.monitor.specs.Calls.{After, unless, refusal, zero_run, open_call, row_call_of, close_call, drain_call_of}
use Rattle.dock.specs.declared.Record.{Record}
use Rattle.dock.specs.declared.Told.{Told}
use Rattle.dock.specs.Lent.{over_byte, run_of, record_of, Left, left_by_of, strange_reply, lent, lent_open, lent_row, lent_close, lent_drain, Lends}
use Rattle.dock.proofs.Giving.{lent_by}
use Rattle.dock.proofs.Phases.{phase_of_number, number_of_phase, is_phase}

-- ---- the record by value and the record lent

pub run_of_record : (r : Run) → run_of (record_of r) ≡ r
run_of_record r = ap (λ (p : Phase). record { look = r.look; kept = r.kept; rows = r.rows; phase = p; done = r.done }) (phase_of_number r.phase)

pub record_of_run : (d : Record) → d.phase ≤ over_byte → record_of (run_of d) ≡ d
record_of_run d h = ap (λ (n : ℕ). record { look = d.look; kept = d.kept; rows = d.rows; done = d.done; phase = n }) (number_of_phase d.phase h)

-- "that entry gives what the by-value call gives"
module _ (s : List ℕ) (r : Run) (st out : List ℕ) where
  as_by_value : (call : Run → After) → lent s (record_of r) st out (call (run_of (record_of r))) ≡ left_by_of (call r)
  as_by_value call = lent_by s (record_of r) st out (call (run_of (record_of r))) (is_phase r.phase) ∙ ap (λ (q : Run). left_by_of (call q)) (run_of_record r)

  pub row_as_by_value : (ws : List ℕ) → lent_row s (record_of r) ws st out ≡ left_by_of (row_call_of s r ws st out)
  row_as_by_value ws = as_by_value (λ q. row_call_of s q ws st out)

  pub drain_as_by_value : lent_drain s (record_of r) st out ≡ left_by_of (drain_call_of s r st out)
  drain_as_by_value = as_by_value (λ q. drain_call_of s q st out)

pub close_as_by_value : (s : List ℕ) (r : Run) → lent_close s (record_of r) ≡ left_by_of (close_call s r)
close_as_by_value s r = as_by_value s r [] [] (close_call s)

-- ---- a refused entry

-- "A refusal hands back the record it got [..], writes 0 bytes, and leaves store and output untouched."
pub record Untouched (d : Record) (st out : List ℕ) (x : Left) : Type 0 where
  pub held_is : x.reply.held ≡ d
  pub count_is : x.reply.told.count ≡ 0
  pub store_is : x.store ≡ st
  pub output_is : x.output ≡ out

-- a call by value whose refusals hand back the run r
record Refuses (r : Run) (st out : List ℕ) (x : After) : Type 0 where
  leaves : (x.answer.number ≡ 0 → ⊥) → Untouched (record_of r) st out (left_by_of x)

refuses : (f : Fault) (r : Run) (st out : List ℕ) (accepted : After) → accepted.answer.number ≡ 0 → Refuses r st out (unless f (refusal r f st out) accepted)
refuses f r st out accepted e =
    pick_case (Refuses r st out) (eqb f.number 0) accepted (refusal r f st out) (λ _. record { leaves = λ n. absurd (n e) })
    (λ _. record { leaves = λ n. record { held_is = refl; count_is = refl; store_is = refl; output_is = refl } })

-- A record that is handed back is the one that was lent: as a run and back, or as it was where its byte is no phase.
module _ (s : List ℕ) (d : Record) (st out : List ℕ) where
  untouched : (x : After) → Refuses (run_of d) st out x → ((lent s d st out x).reply.told.number ≡ 0 → ⊥) → Untouched d st out (lent s d st out x)
  unfolding lent strange_reply
  untouched x k =
      pick_case (λ (y : Left). (y.reply.told.number ≡ 0 → ⊥) → Untouched d st out y) (ltb over_byte d.phase) _ (left_by_of x)
      (λ _ n. record { held_is = refl; count_is = refl; store_is = refl; output_is = refl })
      (λ h n. let u = k.leaves n in
      record { held_is = u.held_is ∙ record_of_run d (ltb-false _ _ h); count_is = u.count_is; store_is = u.store_is; output_is = u.output_is })

  pub row_refused : (ws : List ℕ) → ((lent_row s d ws st out).reply.told.number ≡ 0 → ⊥) → Untouched d st out (lent_row s d ws st out)
  unfolding row_call_of
  row_refused ws = untouched (row_call_of s (run_of d) ws st out) (refuses (row_fault_of s (run_of d) (length st) ws (length out)) _ _ _ _ refl)

  pub drain_refused : ((lent_drain s d st out).reply.told.number ≡ 0 → ⊥) → Untouched d st out (lent_drain s d st out)
  unfolding drain_call_of
  drain_refused = untouched (drain_call_of s (run_of d) st out) (refuses (drain_fault_of s (run_of d) (length st) (length out)) _ _ _ _ refl)

pub close_refused : (s : List ℕ) (d : Record) → ((lent_close s d).reply.told.number ≡ 0 → ⊥) → Untouched d [] [] (lent_close s d)
unfolding close_call
close_refused s d = untouched s d [] [] (close_call s (run_of d)) (refuses (close_fault_of s (run_of d)) _ _ _ _ refl)

-- "the check and opening give an all-zero one, phase reading"
pub open_refused : (s st : List ℕ) → ((lent_open s st).reply.told.number ≡ 0 → ⊥) → Untouched (record_of zero_run) st [] (lent_open s st)
unfolding open_call
open_refused s st n = (refuses (open_fault s (length st)) _ _ _ _ refl).leaves n

-- ---- what an entry leaves is determined

pub record Same (d e : Record) (t u : Told) (st1 st2 out1 out2 : List ℕ) : Type 0 where
  pub records : d ≡ e
  pub tolds : t ≡ u
  pub stores : st1 ≡ st2
  pub outputs : out1 ≡ out2

pub lends_once : {x : Left} {d e : Record} {t u : Told} {st1 st2 out1 out2 : List ℕ} → Lends x d t st1 out1 → Lends x e u st2 out2 → Same d e t u st1 st2 out1 out2
lends_once a b = record {
  records = a.record_is ∙ sym b.record_is;
  tolds = a.told_is ∙ sym b.told_is;
  stores = a.store_is ∙ sym b.store_is;
  outputs = a.output_is ∙ sym b.output_is;
}
