-- `see`: the rows of the first v streams have their types.
-- Assumes nothing.
use native.Mathlib.Omega.{arith}
use Rattle.expression.proofs.Seeing.{see_start, see_more}
use Rattle.expression.proofs.see.Goals as goal

pub loop-v-init : goal.loop-v-init
loop-v-init c = see_start c.args.types.now c.requires.1 c.requires.2

pub loop-v-preserved : goal.loop-v-preserved
loop-v-preserved c = see_more c.args.types.now c.requires.1 (omega (arith, c.loop-v-test.true, c.requires.0)) c.from.ensures c.loop-v.invariant
