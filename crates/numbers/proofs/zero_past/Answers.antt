-- `zero_past`: what was joined up to v is 0 exactly where both numbers are 0 from s up to v.
-- Assumes nothing.
use Rattle.numbers.proofs.Past.{joined_on}
use Rattle.numbers.proofs.zero_past.Goals as goal

pub loop-v-preserved : goal.loop-v-preserved
loop-v-preserved c = joined_on c.loop-v.auto.v c.loop-v.invariant
