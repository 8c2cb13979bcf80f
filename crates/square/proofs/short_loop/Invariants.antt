-- `short_loop`: `line` holds the largest totals of n + 1 edges, and fewer edges than that lead back below 0.
-- Assumes nothing.
use Rattle.std.proofs.Common.{◌≡◌, ℕ, ◌<◌, true}
use Rattle.limits.specs.Limits.{most_streams}
use Rattle.walks.specs.Longest.{below, back}
use Rattle.square.specs.Square.{lent_at, lent_cell}
use Rattle.square.proofs.short_loop.Given as goal

abbrev pub invariant-loop-n : goal.invariant-loop-n
invariant-loop-n l = record {
  line : (i : ℕ) → i < most_streams → lent_at l.line i ≡ back l.s (lent_cell l.a) l.v l.n i;
  passed : (m : ℕ) → m < l.n → below (back l.s (lent_cell l.a) l.v m l.v) ≡ true;
}
