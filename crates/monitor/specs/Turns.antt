-- The bytes that a turn gives (document 01, "A run"), for every content of the store, and what a turn of a call needs and leaves; the
-- store that it leaves is run's `store_after`. Assumes nothing.
use Rattle.std.specs.Prelude.{ℕ, ◌+◌, ◌≤◌, ◌<◌, ◌^◌, ◌≡◌, List, map, length, Option, Result, Ok, Err}
use Rattle.limits.specs.declared.Refusal.{Refusal}
use Rattle.value.specs.declared.Value.{Value}
use Rattle.value.specs.Values.{image_of}
use Rattle.basis.specs.Given.{Given}
use Rattle.node.specs.Kinds.{Tabulated}
use Rattle.run.specs.Run.{store_after, given_on}
use Rattle.records.specs.Encoding.{encode}
use Rattle.output.specs.Encoding.{Emitted}
use Rattle.announce.specs.Announced.{announced}
use Rattle.prepare.specs.declared.Prepared.{Prepared}
use Rattle.prepare.specs.Preparing.{Brief, Prepares, Preparing}
use Rattle.prepare.specs.PlanFor.{table_for, plan_for}
use Rattle.monitor.specs.declared.Run.{Run}
use Rattle.monitor.specs.declared.Turn.{Turn}
use Rattle.monitor.specs.declared.Turn.TheVariants.{Row, Closing}
use Rattle.monitor.specs.declared.Taken.{Taken}
use Rattle.monitor.specs.Refusals.{fine, told, turn_fault_of}

-- "store and output take its 32-bit image"
abbrev pub in_words : Given Value → Given ℕ
in_words g = record { stream = g.stream; position = g.position; word = image_of g.word }

-- "Turn t gives y's value at t - look-ahead(y) where that lies in 0 to N-1 [..]. Values come in stream order": n rows are known, ws are
-- the words of the row
unfoldable pub bytes_on : (s : List ℕ) (n t : ℕ) (ws st : List ℕ) → List ℕ
bytes_on s n t ws st = encode (table_for s).roles (map in_words (given_on (plan_for s) n t ws st))

-- a turn done: the store, the output and the number of bytes
pub record Turned (s : List ℕ) (n t : ℕ) (ws st out st1 out1 : List ℕ) (count : ℕ) : Type 0 where
  pub store_is : st1 ≡ store_after (plan_for s) n t ws st
  pub output_is : Emitted (bytes_on s n t ws st) out out1 count

-- what the turn with this number needs, n rows being known, of which there is one: the constant table, a brief by the record's numbers, as
-- many words and bytes lent as announced, a number that the code's 32 bits hold, and a word for each input where the turn has a row
pub record TurnFits (kinds : List (List ℕ)) (s look kept : List ℕ) (p : Brief) (n t given lent space : ℕ) : Type 0 where
  pub tabulated : Tabulated kinds
  pub prepares : Prepares s look kept p
  pub store_long : p.words ≤ lent
  pub output_long : p.room ≤ space
  pub row_known : 0 < n
  pub rows_fit : n < 2 ^ 32
  pub row_long : t < n → p.inputs ≤ given

-- what a turn by its brief needs: the constant table, and the brief by the record's own numbers
pub record TurnReady (r : Run) (kinds : List (List ℕ)) (s : List ℕ) (p : Brief) : Type 0 where
  pub tabulated : Tabulated kinds
  pub prepares : Prepares s r.look r.kept p

-- the rows known in a turn: those taken before it, and a row call's own ("turn j, for the j-th accepted row, counted from 0")
abbrev pub known_rows_of : Turn → (rows : ℕ) → ℕ
known_rows_of Row rows = rows + 1
known_rows_of Closing rows = rows

-- the number of the next turn: reading has 0 closing turns done, "draining calls are turns N, N+1 and so on"
abbrev pub turn_of : Run → ℕ
turn_of r = r.rows + r.done

-- the next turn done: no test refuses it, and x has its bytes and the closing turns announced
pub record TurnDone (k : Turn) (s : List ℕ) (r : Run) (ws st out st1 out1 : List ℕ) (x : Taken) : Type 0 where
  pub passes : fine ≡ turn_fault_of k s r (length st) ws (length out)
  pub turned : Turned s (known_rows_of k r.rows) (turn_of r) ws st out st1 out1 x.count
  pub closing_is : x.closing ≡ (announced s).closing

-- refused: the first fault, which "leaves store and output untouched"
pub record TurnRefused (k : Turn) (s : List ℕ) (r : Run) (ws st out st1 out1 : List ℕ) (e : Refusal) : Type 0 where
  pub fault_is : told e ≡ turn_fault_of k s r (length st) ws (length out)
  pub store_kept : st1 ≡ st
  pub output_kept : out1 ≡ out

-- what came of the next turn
abbrev pub Took : Turn → (s : List ℕ) → Run → (ws st out st1 out1 : List ℕ) → Result Taken Refusal → Type 0
Took k s r ws st out st1 out1 (Ok x) = TurnDone k s r ws st out st1 out1 x
Took k s r ws st out st1 out1 (Err e) = TurnRefused k s r ws st out st1 out1 e

-- sums by the record's numbers, whatever stands in the arrays that they were made in
pub record Summed (s look kept : List ℕ) (r : Option Prepared) : Type 0 where
  pub types : List ℕ
  pub roles : List ℕ
  pub starts : List ℕ
  pub order : List ℕ
  pub preparing : Preparing r s look kept types roles starts order
