-- `ordered`: the first n streams of the line stand.
-- Assumes nothing.
use Rattle.std.proofs.Common.{arith}
use Rattle.certificate.proofs.Mask.{full}
use Rattle.certificate.proofs.Line.{way_start, way_step, way_end, way_stuck}
use Rattle.certificate.proofs.ordered.Goals as goal

pub loop-n-init : goal.loop-n-init
loop-n-init c = way_start _ _ _ _ c.requires.1 (λ v h. full v (omega arith))

pub returns-in_default : goal.returns-in_default
returns-in_default c = way_stuck _ _ _ _ _ c.loop-n.invariant c.loop-n-test.true c.in_default.ensures

pub loop-n-preserved : goal.loop-n-preserved
loop-n-preserved c = way_step _ _ _ _ _ c.loop-n.invariant _ c.requires.0 c.in-Some.ensures

pub returns : goal.returns
returns c = way_end _ _ _ _ _ c.loop-n.invariant c.loop-n-test.false
