-- The order within a turn: slack on every edge, and a rank that falls along the edges without slack.
-- An edge of weight k from y to v has the slack look-ahead(y) - k - look-ahead(v). Assumes nothing.
use Rattle.std.specs.Prelude.{ℕ, ◌+◌, ◌≤◌, ◌<◌, ◌≡◌, ℤ}
use Rattle.basis.specs.Parts.{up, down}
use Rattle.walks.specs.Walks.{Edges}

pub record Schedule (E : Edges) (S : ℕ) (look : ℕ → ℕ) : Type 0 where
  pub rank : ℕ → ℕ
  pub few : (v : ℕ) → v < S → rank v < S
  pub slack : (y v : ℕ) (k : ℤ) → E y v k → up k + look v ≤ look y + down k
  pub falls : (y v : ℕ) (k : ℤ) → E y v k → up k + look v ≡ look y + down k → rank v < rank y
