-- `drain`: a byte that is no phase, or the run's own call.
-- Assumes nothing.
use Rattle.dock.proofs.Giving.{gives_strange, gives_known}
use Rattle.dock.proofs.Record.drain.Goals as goal

pub returns-in-None : goal.returns-in-None
returns-in-None c = gives_strange _ _ _ _ _ c.in-None.ensures c.strange.ensures

pub returns-in-Some : goal.returns-in-Some
returns-in-Some c = gives_known _ _ _ _ _ c.in-Some.ensures.0 c.from.ensures (rw c.in-Some.ensures.1 at c.drain.ensures)
