-- `square_row`: the entries below j are the weights.
-- Assumes nothing.
use Rattle.std.proofs.Common.{◌≡◌, ℕ, ◌<◌, length, get_or}
use Rattle.limits.specs.Limits.{most_streams}
use Rattle.square.specs.Square.{at, rise_best}
use Rattle.square.proofs.square_row.Given as goal

abbrev pub invariant-loop-j : goal.invariant-loop-j
invariant-loop-j l = (length l.out ≡ most_streams) × ((i : ℕ) → i < l.j → at l.out i ≡ rise_best (get_or l.rise i 0))
