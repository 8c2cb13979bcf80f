-- `look_aheads`: look-aheads at the streams below v, 0 from v on.
-- Assumes nothing.
use Rattle.std.proofs.Common.{◌≡◌, arith}
use Rattle.walks.specs.Longest.{look_of}
use Rattle.basis.proofs.Firsts.{filled_none, filled_all}
use Rattle.square.proofs.look_aheads.Goals as goal

pub loop-v-init : goal.loop-v-init
loop-v-init c = filled_none

pub returns : goal.returns
unfolding look_of
returns c = let e : c.loop-v.v ≡ c.args.s = omega arith in filled_all (rw e at c.loop-v.invariant)
