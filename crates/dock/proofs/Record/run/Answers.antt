-- `run`: a byte that is no phase, or the record with its byte as a phase.
-- Assumes nothing.
use Rattle.dock.proofs.Phases.{run_known}
use Rattle.dock.proofs.Record.run.Goals as goal

pub returns : goal.returns
returns c = run_known _ _ c.in-Ok.ensures
