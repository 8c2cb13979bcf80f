-- `square_of`: the rows below y are those of the weights.
-- Assumes nothing.
use Rattle.std.proofs.Common.{◌≡◌, ℕ, ◌<◌, length}
use Rattle.limits.specs.Limits.{most_streams}
use Rattle.basis.specs.Rows.{entry}
use Rattle.square.specs.Square.{cell, rise_best}
use Rattle.announce.proofs.square_of.Given as goal

abbrev pub invariant-loop-y : goal.invariant-loop-y
invariant-loop-y l = (length l.square ≡ most_streams) × ((x : ℕ) → x < l.y → (v : ℕ) → v < most_streams → cell l.square x v ≡ rise_best (entry l.rise x v))
