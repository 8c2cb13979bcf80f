-- `relax`: the rows passed are relaxed, the others as they were.
-- Assumes nothing.
use Rattle.std.proofs.Common.{◌≡◌, ℕ, ◌<◌, ◌≤◌, [], length, get_or}
use Rattle.limits.specs.Limits.{most_streams}
use Rattle.square.proofs.Rows.{Row}
use Rattle.square.proofs.relax.Given as goal

abbrev pub invariant-loop-row : goal.invariant-loop-row
invariant-loop-row l = record {
  size : length l.d ≡ most_streams;
  passed : (m : ℕ) → m < l.row-index → Row l.initial.d l.k m (get_or l.d m []);
  left : (m : ℕ) → l.row-index ≤ m → get_or l.d m [] ≡ get_or l.initial.d m [];
}
