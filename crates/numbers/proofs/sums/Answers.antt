-- `sums`: the sums and the largest of the numbers below v, each of which is at most 65,535.
-- Assumes nothing.
use Rattle.std.proofs.Common.{arith, rules}
use Rattle.basis.specs.Sums.{total, most}
use Rattle.basis.proofs.Sums.{total_more, most_more}
use Rattle.numbers.proofs.sums.Goals as goal

pub loop-v-init : goal.loop-v-init
unfolding total most
loop-v-init c = search rules

pub loop-v-preserved : goal.loop-v-preserved
loop-v-preserved c = grind (arith, total_more, most_more)
