-- `kept_of`: kept numbers at the streams below v, 0 from v on.
-- Assumes nothing.
use Rattle.std.proofs.Common.{◌≡◌, arith}
use Rattle.kept.specs.Kept.{kept_row}
use Rattle.basis.proofs.Firsts.{filled_none, filled_all}
use Rattle.kept.proofs.kept_of.Goals as goal

pub loop-v-init : goal.loop-v-init
loop-v-init c = filled_none

pub returns : goal.returns
unfolding kept_row
returns c = let e : c.args.s ≡ c.loop-v.v = omega arith in rw e (filled_all c.loop-v.invariant)
