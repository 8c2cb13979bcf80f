-- Calls one after the other on one store, with one table: what a caller sees of them, and the store in the end (document 01, "A run").
-- Assumes nothing.
use Rattle.std.specs.Prelude.{ℕ, List, [], ◌∷◌}
use Rattle.monitor.specs.declared.Run.{Run}
use Rattle.monitor.specs.Calls.{Answer}
use Rattle.monitor.specs.Calls.{After, open_call, row_call_of, close_call, drain_call_of}

-- a call with one table: the record that it brings, its row and its output
pub data Brought : Type 0 where
  opening : Brought
  row : Run → (ws out : List ℕ) → Brought
  closing : Run → Brought
  draining : Run → (out : List ℕ) → Brought

-- what it leaves, where it is lent the store st; closing is lent none
abbrev pub call_on : (s : List ℕ) → Brought → (st : List ℕ) → After
call_on s opening st = open_call s st
call_on s (row r ws out) st = row_call_of s r ws st out
call_on s (closing r) st = record { answer = (close_call s r).answer; store = st; output = [] }
call_on s (draining r out) st = drain_call_of s r st out

-- one after the other: what each answers and leaves in its output, and the store in the end
unfoldable pub answers_on : (s : List ℕ) → List Brought → (st : List ℕ) → List (Answer × List ℕ)
answers_on s [] st = []
answers_on s (k ∷ ks) st = ((call_on s k st).answer, (call_on s k st).output) ∷ answers_on s ks (call_on s k st).store

unfoldable pub store_on : (s : List ℕ) → List Brought → (st : List ℕ) → List ℕ
store_on s [] st = st
store_on s (k ∷ ks) st = store_on s ks (call_on s k st).store
