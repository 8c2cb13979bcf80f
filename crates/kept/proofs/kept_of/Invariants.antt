-- `kept_of`: kept numbers at the streams below v, 0 from v on.
-- Assumes nothing.
use Rattle.limits.specs.Limits.{most_streams}
use Rattle.kept.specs.Kept.{kept_over}
use Rattle.basis.proofs.Firsts.{Filled}
use Rattle.kept.proofs.kept_of.Given as goal

abbrev pub invariant-loop-v : goal.invariant-loop-v
invariant-loop-v l = Filled most_streams (kept_over l.look l.fall) l.v l.out
