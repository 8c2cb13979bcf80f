-- Kept values from the look-aheads and the smallest weights, as `fall_of` notes them (document 01, "Kept values of v").
-- Assumes nothing.
use Rattle.std.specs.Prelude.{cond, List, ℕ, zero, suc, ◌+◌, ◌-◌, ◌≤◌, ◌<◌, max, ltb, get_or}
use Rattle.limits.specs.Limits.{most_streams, fall_of_zero, most_note, most_look}
use Rattle.basis.specs.Firsts.{firsts}
use Rattle.basis.specs.Rows.{entry}

-- what an accepted table gives: no look-ahead above the largest, no note above the largest. The notes of y's edges are the row y.
abbrev pub Looks : List ℕ → Type 0
Looks look = (y : ℕ) → y < most_streams → get_or look y 0 ≤ most_look

abbrev pub Falls : List (List ℕ) → Type 0
Falls fall = (y v : ℕ) → y < most_streams → v < most_streams → entry fall y v ≤ most_note

-- look-ahead(y) - k - look-ahead(v), or 0 where it is below 0 or there is no edge
abbrev pub slack_at_of : ℕ → ℕ → ℕ → ℕ
slack_at_of zero a b = 0
slack_at_of (suc m) a b = a + suc m - (fall_of_zero + b)

-- the largest over the first n streams y
unfoldable pub slack_over : (ℕ → ℕ) → (ℕ → ℕ) → ℕ → ℕ → ℕ
slack_over fall look v zero = 0
slack_over fall look v (suc y) = max (slack_over fall look v y) (slack_at_of (fall y) (look y) (look v))

-- the kept number of v, from the look-aheads and the smallest weights of all pairs
unfoldable pub kept_over : List ℕ → List (List ℕ) → ℕ → ℕ
kept_over look fall v = suc (slack_over (λ y. entry fall y v) (λ y. get_or look y 0) v most_streams)

-- the kept numbers of the streams below S, 0 past them
unfoldable pub kept_row : List ℕ → List (List ℕ) → ℕ → List ℕ
kept_row look fall S = firsts (λ v. cond (ltb v S) (kept_over look fall v) 0) most_streams
