-- `longest`: the square is relaxed through the streams below k.
-- Assumes nothing.
use Rattle.std.proofs.Common.{◌≡◌, ℕ, ◌<◌}
use Rattle.limits.specs.Limits.{most_streams}
use Rattle.walks.specs.Longest.{through}
use Rattle.square.specs.Square.{lent_cell}
use Rattle.square.proofs.longest.Given as goal

abbrev pub invariant-loop-k : goal.invariant-loop-k
invariant-loop-k l = (i j : ℕ) → i < most_streams → j < most_streams → lent_cell l.out i j ≡ through (lent_cell l.a) l.k i j
