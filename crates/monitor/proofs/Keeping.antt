-- What no call of an open run changes: its record's look-aheads and kept numbers, which opening takes from the table (document 01, "A run").
-- So who holds the record and lends it has only the other three fields to write back. Assumes nothing.
use Prim.Native.Nat.{ℕ}
use mathlib.Core.Path.{◌≡◌, refl}
use mathlib.Core.List.{List, []}
use lib.Dec.{eqb}
use lib.ListN.{length}
use Rattle.basis.proofs.Tests.{pick_case}
use Rattle.monitor.specs.declared.Run.{Run}
use Rattle.monitor.specs.Refusals.{Fault, row_fault_of, close_fault_of, drain_fault_of}
use Rattle.monitor.specs.Calls.{After, unless, refusal, row_call_of, close_call, drain_call_of}

-- after a call on the run r
pub record Keeps (r : Run) (x : After) : Type 0 where
  pub look_is : x.answer.run.look ≡ r.look
  pub kept_is : x.answer.run.kept ≡ r.kept

-- a refusal hands back the record it got
module _ (r : Run) (f : Fault) (st out : List ℕ) where
  unless_keeps : (accepted : After) → Keeps r accepted → Keeps r (unless f (refusal r f st out) accepted)
  unless_keeps accepted k = pick_case (Keeps r) (eqb f.number 0) accepted (refusal r f st out) (λ _. k) (λ _. record { look_is = refl; kept_is = refl })

module _ (s : List ℕ) (r : Run) where
  pub row_keeps : (ws st out : List ℕ) → Keeps r (row_call_of s r ws st out)
  unfolding row_call_of
  row_keeps ws st out = unless_keeps r (row_fault_of s r (length st) ws (length out)) st out _ (record { look_is = refl; kept_is = refl })

  pub close_keeps : Keeps r (close_call s r)
  unfolding close_call
  close_keeps = unless_keeps r (close_fault_of s r) [] [] _ (record { look_is = refl; kept_is = refl })

  pub drain_keeps : (st out : List ℕ) → Keeps r (drain_call_of s r st out)
  unfolding drain_call_of
  drain_keeps st out = unless_keeps r (drain_fault_of s r (length st) (length out)) st out _ (record { look_is = refl; kept_is = refl })
