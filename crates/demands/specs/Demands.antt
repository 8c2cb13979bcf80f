-- THE PAGE TO READ: demands 2 and 3, in the customer's words, over the definitions that the functions' contracts cite (`announced`,
-- `open_call`, `row_call_of`, `close_call`, `drain_call_of`) and over source 004's evaluation model. The theorems are `demand_2` and `demand_3`.
-- Assumes nothing.
use Rattle.std.specs.Prelude.{ℕ, ◌+◌, ◌≤◌, ◌<◌, ◌≡◌, true, false, ◌⊎◌, List, [], ◌∷◌, ◌++◌, map, length, get_or, drop}
use mathlib.Core.List.{flatten}
use Rattle.limits.specs.Limits.{most_rows}
use Rattle.wire.specs.Bytes.{AllBytes, AllWords}
use Rattle.records.specs.Reading.{read_items, read_back_of, items_given}
use Rattle.value.specs.declared.Value.{Value}
use Rattle.value.specs.Values.{image_of}
use Rattle.table.specs.Table.{streams}
use Rattle.announce.specs.Announced.{announced}
use Rattle.announce.specs.Conditions.{Accepted}
use Rattle.lola.specs.Models.{OneModel, trace}
use Rattle.run.specs.Run.{Call, Alike, rows_in, closed, drained, owed, owed_before}
use Rattle.run.specs.Demands.{given_for}
use Rattle.meaning.specs.Tables.{spec_of, read_in, TableModel}
use Rattle.prepare.specs.PlanFor.{table_for, WellFormedRow, look_for, plan_for}
use Rattle.monitor.specs.declared.Run.{Run}
use Rattle.monitor.specs.Calls.{After, zero_run, open_call, row_call_of, close_call, drain_call_of}
use Rattle.demands.specs.Runs.{bytes_given_of}
use Rattle.demands.specs.Ran.{Ran}
use Rattle.demands.specs.Succession.{Brought, answers_on, store_on}

-- ---- Demand 2, of any bytes s

pub record Demand2 (s : List ℕ) : Type 0 where
  -- "A table is accepted exactly under document 01's conditions." What is accepted meets them if s are bytes, as every slice of u8 is.
  pub accepted_exactly : (AllBytes s → (announced s).number ≡ 0 → Accepted s) × (Accepted s → (announced s).number ≡ 0)
  -- and `table_for s`, of which the rest speaks, is the table whose bytes s are
  pub the_table : (a : Accepted s) → table_for s ≡ a.table
  -- "For each accepted table and each trace of accepted rows there is exactly one evaluation model (source 004, definitions 5 to 7)":
  -- for each list of rows, those that no row call would accept too
  pub one_model : (announced s).number ≡ 0 → (rows : List (List ℕ)) → OneModel (spec_of (table_for s)) (length rows) (trace (read_in (table_for s)) 0 rows)
  -- ".. however the trace goes on": a value that is due by the last of some rows is the same for every continuation
  pub however_it_goes_on :
      (announced s).number ≡ 0 → (rows more more' : List (List ℕ)) (σ τ : ℕ → ℕ → Value) → TableModel (table_for s) (rows ++ more) σ → TableModel (table_for s) (rows ++ more') τ →
      (v j : ℕ) → v < streams (table_for s) → j + look_for s v < length rows → σ v j ≡ τ v j

-- ---- Demand 3

-- a refused call: "hands back the record unchanged, changes no word of the store and no byte of the output"
pub record Untouched (x : After) (r : Run) (st out : List ℕ) : Type 0 where
  pub record_is : x.answer.run ≡ r
  pub count_is : x.answer.count ≡ 0
  pub store_is : x.store ≡ st
  pub output_is : x.output ≡ out

-- "Opening an accepted table on a store as announced always gives a run."
abbrev pub Opening : List ℕ → Type 0
Opening s = (st : List ℕ) → Accepted s → (announced s).words ≤ length st → (open_call s st).answer.number ≡ 0

-- Every refusal, of any table, record, row, store and output. Closing is lent neither store nor output; opening no output, and "the check and
-- opening give an all-zero" record.
abbrev pub Refusals : List ℕ → Type 0
Refusals s =
    (r : Run) (ws st out : List ℕ) →
    (((row_call_of s r ws st out).answer.number ≡ 0 → ⊥) → Untouched (row_call_of s r ws st out) r st out)
    × (((drain_call_of s r st out).answer.number ≡ 0 → ⊥) → Untouched (drain_call_of s r st out) r st out)
    × (((close_call s r).answer.number ≡ 0 → ⊥) → Untouched (close_call s r) r [] [])
    × (((open_call s st).answer.number ≡ 0 → ⊥) → Untouched (open_call s st) zero_run st [])

-- a call that is refused, and so gives no byte
abbrev pub Refused : After → Type 0
Refused x = (x.answer.number ≡ 0 → ⊥) × (x.answer.count ≡ 0)

-- Of every point that a run can reach (`Ran`: "Its accepted calls bring that table, one store that nothing else writes, and the record
-- last handed back; refused calls may fall anywhere and bring anything"): ks are the accepted calls, r and st the record and the store
-- as they are now, log the bytes of each turn.
pub record Demand3 (s st₀ : List ℕ) (ks : List (Call ℕ)) (r : Run) (st : List ℕ) (log : List (List ℕ)) : Type 0 where
  -- "Then a well-formed row below the row limit is always accepted until closing"
  pub takes_rows :
      closed ks ≡ false → length (rows_in ks) < most_rows → (ws out : List ℕ) → WellFormedRow (table_for s) ws → (announced s).room ≤ length out → (row_call_of s r ws st out).answer.number ≡ 0
  -- and no other one, on whatever store
  pub no_other_row :
      (ws other out : List ℕ) → (row_call_of s r ws other out).answer.number ≡ 0 →
      (closed ks ≡ false) × (length (rows_in ks) < most_rows) × WellFormedRow (table_for s) ws × ((announced s).room ≤ length out)
  -- "as are closing and its turns"
  pub takes_closing : closed ks ≡ false → (close_call s r).answer.number ≡ 0
  pub takes_turns :
      closed ks ≡ true → 0 < length (rows_in ks) → drained ks < (announced s).closing → (out : List ℕ) → (announced s).room ≤ length out → (drain_call_of s r st out).answer.number ≡ 0
  -- and then no further one
  pub no_further_turn : closed ks ≡ true → (length (rows_in ks) ≡ 0) ⊎ (drained ks ≡ (announced s).closing) → (out : List ℕ) → (drain_call_of s r st out).answer.number ≡ 0 → ⊥
  -- the bytes of every turn are what the model owes on it: of the rows so far followed by ANY further rows, of the rows taken once closed
  pub gives :
      (more : List (List ℕ)) → (closed ks ≡ true → more ≡ []) → (σ : ℕ → ℕ → Value) → TableModel (table_for s) (rows_in ks ++ more) σ →
      log ≡ map (bytes_given_of s) (owed_before (plan_for s) σ (length (rows_in ks ++ more)) (length (rows_in ks) + drained ks))
  -- "each output's value for row j is given once, on turn j plus its look-ahead": when that turn is done, its bytes, read back, have one
  -- word for y and j, the model's, and so have the bytes of all turns. (The table is of bytes and the rows are of 32-bit words, as all are
  -- that a caller can bring. That rows that follow change nothing of it is `however_it_goes_on`.)
  pub once :
      AllBytes s → ((i : ℕ) → AllWords (get_or (rows_in ks) i [])) → (σ : ℕ → ℕ → Value) → TableModel (table_for s) (rows_in ks) σ →
      (y j : ℕ) → (table_for s).inputs ≤ y → y < streams (table_for s) → j < length (rows_in ks) → j + look_for s y < length log →
      (given_for y j (read_back_of (get_or log (j + look_for s y) [])) ≡ image_of (σ y j) ∷ [])
      × (given_for y j (flatten (map read_back_of log)) ≡ image_of (σ y j) ∷ [])
  -- "a trigger stream's true value is followed by record 51": of each turn, all records are those of its values, read back
  pub triggers :
      AllBytes s → ((i : ℕ) → AllWords (get_or (rows_in ks) i [])) → (t : ℕ) → read_items (get_or log t []) ≡ items_given (table_for s).roles (read_back_of (get_or log t []))
  -- "after the closing turns no value is owed": every value's turn is done, no later turn owes one, and no call with this record gives a
  -- byte, whatever row, store and output it brings
  pub nothing_owed :
      closed ks ≡ true → (length (rows_in ks) ≡ 0) ⊎ (drained ks ≡ (announced s).closing) →
      ((y j : ℕ) → y < streams (table_for s) → j < length (rows_in ks) → j + look_for s y < length log)
      × ((σ : ℕ → ℕ → Value) (t : ℕ) → length log ≤ t → owed (plan_for s) σ (length (rows_in ks)) t ≡ [])
      × ((ws other out : List ℕ) → Refused (row_call_of s r ws other out) × Refused (close_call s r) × Refused (drain_call_of s r other out))
  -- "store words past the announced number stay"
  pub words_stay : drop (announced s).words st ≡ drop (announced s).words st₀

-- ".. and change no answer"

-- two stores of at least the announced words, and these the same
abbrev pub SameWords : (s st st' : List ℕ) → Type 0
SameWords s = Alike (announced s).words

pub record Unread (s : List ℕ) : Type 0 where
  -- on two such stores any calls, accepted or refused, with any records, rows and outputs, answer the same throughout, and the stores are so again
  pub same_throughout : (ks : List Brought) (st st' : List ℕ) → SameWords s st st' → (answers_on s ks st ≡ answers_on s ks st') × SameWords s (store_on s ks st) (store_on s ks st')
  -- two runs of the same accepted calls, on stores of whatever words: the same record and bytes, and such stores, at every point
  pub two_runs :
      (st₀ st₁ : List ℕ) {ks : List (Call ℕ)} {r r' : Run} {st st' : List ℕ} {log log' : List (List ℕ)} →
      Ran s st₀ ks r st log → Ran s st₁ ks r' st' log' → (r ≡ r') × (log ≡ log') × SameWords s st st'

-- the two demands, as theorems: see proofs/Demands.antt
abbrev pub DEMAND2 : Type 0
DEMAND2 = (s : List ℕ) → Demand2 s

pub record DEMAND3 : Type 0 where
  pub opening : (s : List ℕ) → Opening s
  pub refusals : (s : List ℕ) → Refusals s
  pub running : (s st₀ : List ℕ) {ks : List (Call ℕ)} {r : Run} {st : List ℕ} {log : List (List ℕ)} → Ran s st₀ ks r st log → Demand3 s st₀ ks r st log
  pub words_unread : (s : List ℕ) → Unread s
