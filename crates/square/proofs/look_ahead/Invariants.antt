-- `look_ahead`: `most` is the largest of 0 and the entries passed.
-- Assumes nothing.
use Rattle.std.proofs.Common.{◌≡◌, pos}
use Rattle.walks.specs.Longest.{look_to}
use Rattle.square.specs.Square.{lent_at}
use Rattle.square.proofs.look_ahead.Given as goal

abbrev pub invariant-loop-total : goal.invariant-loop-total
invariant-loop-total l = l.most ≡ pos (look_to (lent_at l.row) l.total-index)
