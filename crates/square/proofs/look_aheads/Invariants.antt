-- `look_aheads`: look-aheads at the streams below v, 0 from v on.
-- Assumes nothing.
use Rattle.limits.specs.Limits.{most_streams}
use Rattle.walks.specs.Longest.{look_to}
use Rattle.square.specs.Square.{lent_cell}
use Rattle.basis.proofs.Firsts.{Filled}
use Rattle.square.proofs.look_aheads.Given as goal

abbrev pub invariant-loop-v : goal.invariant-loop-v
invariant-loop-v l = Filled most_streams (λ i. look_to (lent_cell l.d i) l.s) l.v l.out
