-- `relax_row`: the entries below j are relaxed, the others as they were.
-- Assumes nothing.
use Rattle.std.proofs.Common.{◌≡◌, ℕ, ◌<◌, ◌≤◌, length}
use Rattle.limits.specs.Limits.{most_streams}
use Rattle.walks.specs.Longest.{relax_b}
use Rattle.square.specs.Square.{best, lent_at}
use Rattle.square.proofs.relax_row.Given as goal

abbrev pub invariant-loop-j : goal.invariant-loop-j
invariant-loop-j l = record {
  size : length l.row ≡ most_streams;
  passed : (i : ℕ) → i < l.j → lent_at l.row i ≡ relax_b (lent_at l.initial.row i) (best l.left) (lent_at l.via i);
  left : (i : ℕ) → l.j ≤ i → lent_at l.row i ≡ lent_at l.initial.row i;
}
