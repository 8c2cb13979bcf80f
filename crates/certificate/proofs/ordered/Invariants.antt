-- `ordered`: the first n streams of the line stand.
-- Assumes nothing.
use Rattle.certificate.proofs.Line.{Way}
use Rattle.certificate.proofs.ordered.Given as goal

abbrev pub invariant-loop-n : goal.invariant-loop-n
invariant-loop-n l = Way l.tight l.s l.n l.rest l.order
