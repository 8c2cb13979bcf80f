-- `edges_into`: the entries below i are those of the column.
-- Assumes nothing.
use Rattle.std.proofs.Common.{◌≡◌, ℕ, ◌<◌, length}
use Rattle.limits.specs.Limits.{most_streams}
use Rattle.square.specs.Square.{lent_at, lent_cell}
use Rattle.square.proofs.edges_into.Given as goal

abbrev pub invariant-loop-i : goal.invariant-loop-i
invariant-loop-i l = (length l.out ≡ most_streams) × ((m : ℕ) → m < l.i → lent_at l.out m ≡ lent_cell l.a m l.v)
