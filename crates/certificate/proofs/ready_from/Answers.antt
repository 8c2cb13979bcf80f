-- `ready_from`: the stream that is tried first is ready, or another one is looked for.
-- Assumes nothing.
use Rattle.certificate.specs.Tally.{bit}
use Rattle.certificate.proofs.ready_from.Goals as goal

pub returns-then-tight-n-eq0 : goal.returns-then-tight-n-eq0
unfolding bit
returns-then-tight-n-eq0 c = (c.requires.1, c.if-rest-n-eq1.true, c.if-tight-n-eq0.true)
