-- A run of the code: a succession of its calls, each of which left what its contract says (document 01, "A run").
-- Assumes nothing.
use Rattle.std.specs.Prelude.{ℕ, ◌≡◌, List, [], ◌∷◌, ◌++◌, map, length, take}
use Rattle.value.specs.declared.Value.{Value}
use Rattle.run.specs.Run as run
use Rattle.basis.specs.Given.{Given}
use Rattle.run.specs.Run.{Call, Lent}
use Rattle.run.specs.Demands.{Demand3}
use Rattle.prepare.specs.PlanFor.{plan_for}
use Rattle.monitor.specs.declared.Run.{Run}
use Rattle.monitor.specs.Calls.{Answer}
use Rattle.monitor.specs.Calls.{open_call, row_call_of, close_call, drain_call_of, Leaves, Opens}
use Rattle.demands.specs.Runs.{rec_of, bytes_given_of}

-- On the bytes s and the store st₀: the accepted calls, the last first; the record and the store as they are now; the bytes of each turn.
-- "refused calls may fall anywhere and bring anything": any bytes, record, words and output, and another store, this one or a part of it;
-- what it was lent is then as its contract left it.
pub data Ran (s st₀ : List ℕ) : List (Call ℕ) → Run → List ℕ → List (List ℕ) → Type 0 where
  opened : {a : Answer} {st : List ℕ} → Opens (open_call s st₀) a st → a.number ≡ 0 → Ran s st₀ [] a.run st []
  row :
      {ks : List (Call ℕ)} {r : Run} {st : List ℕ} {log : List (List ℕ)} → Ran s st₀ ks r st log →
      (ws out : List ℕ) {a : Answer} {st1 out1 : List ℕ} → Leaves (row_call_of s r ws st out) a st1 out1 → a.number ≡ 0 →
      Ran s st₀ (run.row ws (length out) ∷ ks) a.run st1 (log ++ (take a.count out1 ∷ []))
  closed :
      {ks : List (Call ℕ)} {r : Run} {st : List ℕ} {log : List (List ℕ)} → Ran s st₀ ks r st log →
      {a : Answer} → a ≡ (close_call s r).answer → a.number ≡ 0 → Ran s st₀ (run.close ∷ ks) a.run st log
  drained :
      {ks : List (Call ℕ)} {r : Run} {st : List ℕ} {log : List (List ℕ)} → Ran s st₀ ks r st log →
      (out : List ℕ) {a : Answer} {st1 out1 : List ℕ} → Leaves (drain_call_of s r st out) a st1 out1 → a.number ≡ 0 →
      Ran s st₀ (run.drain (length out) ∷ ks) a.run st1 (log ++ (take a.count out1 ∷ []))
  refused_open :
      {ks : List (Call ℕ)} {r : Run} {st : List ℕ} {log : List (List ℕ)} → Ran s st₀ ks r st log →
      (q : List ℕ) {a : Answer} {lent left after : List ℕ} → Lent st lent left after → Opens (open_call q lent) a left → (a.number ≡ 0 → ⊥) →
      Ran s st₀ ks r after log
  refused_row :
      {ks : List (Call ℕ)} {r : Run} {st : List ℕ} {log : List (List ℕ)} → Ran s st₀ ks r st log →
      (q : List ℕ) (r' : Run) (ws out : List ℕ) {a : Answer} {lent left after out1 : List ℕ} → Lent st lent left after → Leaves (row_call_of q r' ws lent out) a left out1 → (a.number ≡ 0 → ⊥) →
      Ran s st₀ ks r after log
  refused_drain :
      {ks : List (Call ℕ)} {r : Run} {st : List ℕ} {log : List (List ℕ)} → Ran s st₀ ks r st log →
      (q : List ℕ) (r' : Run) (out : List ℕ) {a : Answer} {lent left after out1 : List ℕ} → Lent st lent left after → Leaves (drain_call_of q r' lent out) a left out1 → (a.number ≡ 0 → ⊥) →
      Ran s st₀ ks r after log
  refused_close :
      {ks : List (Call ℕ)} {r : Run} {st : List ℕ} {log : List (List ℕ)} → Ran s st₀ ks r st log →
      (q : List ℕ) (r' : Run) {a : Answer} → a ≡ (close_call q r').answer → (a.number ≡ 0 → ⊥) → Ran s st₀ ks r st log

-- Demand 3 of the code: it holds of the run, and the bytes of each turn are those of the values that the theory gives
pub record CodeMeets (s st₀ : List ℕ) (ks : List (Call ℕ)) (r : Run) (st : List ℕ) (log : List (List ℕ)) : Type 0 where
  pub given : List (List (Given Value))
  pub bytes_are : log ≡ map (bytes_given_of s) given
  pub demand3 : Demand3 (plan_for s) st₀ ks (rec_of r) st given
