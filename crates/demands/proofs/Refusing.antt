-- A refused call hands back the record it got, writes 0 bytes, and leaves store and output untouched.
-- Assumes nothing.
use Prim.Native.Nat.{ℕ, ◌+◌}
use mathlib.Core.Path.{◌≡◌, refl}
use mathlib.Core.Bool.{Bool, true, false, cond}
use mathlib.Core.List.{List, [], ◌++◌}
use lib.Dec.{eqb}
use lib.ListN.{length, drop, replicate}
use Rattle.announce.specs.Announced.{announced}
use Rattle.run.specs.Run.{store_after}
use Rattle.prepare.specs.PlanFor.{plan_for}
use Rattle.monitor.specs.declared.Run.{Run}
use Rattle.monitor.specs.Refusals.{Fault}
use Rattle.monitor.specs.Turns.{bytes_on}
use Rattle.monitor.specs.Refusals.{open_fault, row_fault_of, drain_fault_of, close_fault_of}
use Rattle.monitor.specs.Calls.{acceptance, refusal, zero_run, open_call, row_call_of, close_call, drain_call_of}
use Rattle.demands.specs.Demands.{Untouched, Refusals}

module _ (f : Fault) (r next : Run) (st out st1 bytes : List ℕ) where
  untouched : (b : Bool) → ((cond b (acceptance next st1 bytes out) (refusal r f st out)).answer.number ≡ 0 → ⊥) → Untouched (cond b (acceptance next st1 bytes out) (refusal r f st out)) r st out
  untouched true n = absurd (n refl)
  untouched false n = record { record_is = refl; count_is = refl; store_is = refl; output_is = refl }

pub refusals : (s : List ℕ) → Refusals s
unfolding open_call row_call_of drain_call_of close_call
refusals s r ws st out = (
  untouched (row_fault_of s r (length st) ws (length out)) r _ st out (store_after (plan_for s) (r.rows + 1) r.rows ws st) (bytes_on s (r.rows + 1) r.rows ws st)
      (eqb (row_fault_of s r (length st) ws (length out)).number 0),
  untouched (drain_fault_of s r (length st) (length out)) r _ st out (store_after (plan_for s) r.rows (r.rows + r.done) [] st) (bytes_on s r.rows (r.rows + r.done) [] st)
      (eqb (drain_fault_of s r (length st) (length out)).number 0),
  untouched (close_fault_of s r) r _ [] [] [] [] (eqb (close_fault_of s r).number 0),
  untouched (open_fault s (length st)) zero_run _ st [] (replicate (announced s).words 0 ++ drop (announced s).words st) [] (eqb (open_fault s (length st)).number 0),
)
