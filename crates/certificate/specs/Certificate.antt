-- When a record's look-aheads and kept numbers are those announced (document 01, "What the check announces"), and the order of a turn.
-- Assumes nothing.
use Rattle.std.specs.Prelude.{ℕ, ◌+◌, ◌≤◌, ◌<◌, ◌≡◌, Bool, true, false, List, get_or, ℤ}
use Rattle.basis.specs.Parts.{up, down}
use Rattle.walks.specs.Walks.{Edges, Right}
use Rattle.walks.specs.Schedule.{Schedule}

-- no edge asks more than the look-ahead of its stream has
abbrev pub Slack : Edges → (ℕ → ℕ) → Type 0
Slack E look = (y v : ℕ) (k : ℤ) → E y v k → up k + look v ≤ look y + down k

-- an edge from y to v that leaves nothing over: y reads on its turn the value that v has on the same turn
pub record Tight (E : Edges) (look : ℕ → ℕ) (y v : ℕ) : Type 0 where
  pub k : ℤ
  pub edge : E y v k
  pub tight : up k + look v ≡ look y + down k

-- the numbers are those announced, and `order` lists the streams by a rank that falls along tight edges: each comes behind what it reads on its turn
pub record Ordered (E : Edges) (S : ℕ) (look kept : ℕ → ℕ) (order : List ℕ) : Type 0 where
  pub right : Right E S look kept
  pub schedule : Schedule E S look
  pub placed : (v : ℕ) → v < S → get_or order (schedule.rank v) 0 ≡ v
  pub inside : (i : ℕ) → i < S → get_or order i 0 < S
  pub back : (i : ℕ) → i < S → schedule.rank (get_or order i 0) ≡ i

-- the verdict on the numbers: yes with the order, or no and they are not those announced
abbrev pub Settled : Bool → Edges → ℕ → (ℕ → ℕ) → (ℕ → ℕ) → List ℕ → Type 0
Settled true E S look kept order = Ordered E S look kept order
Settled false E S look kept order = Right E S look kept → ⊥
