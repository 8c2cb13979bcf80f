-- `zero_past`: what was joined up to v is 0 exactly where both numbers are 0 from s up to v.
-- Assumes nothing.
use Rattle.numbers.proofs.Past.{Joined}
use Rattle.numbers.proofs.zero_past.Given as goal

abbrev pub invariant-loop-v : goal.invariant-loop-v
invariant-loop-v l = Joined l.look l.kept l.s l.v l.any
