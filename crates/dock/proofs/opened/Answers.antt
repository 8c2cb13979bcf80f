-- `opened`: the run's own opening, with its record as C has it.
-- Assumes nothing.
use Rattle.dock.proofs.Giving.{gives_opened}
use Rattle.dock.proofs.opened.Goals as goal

pub returns : goal.returns
returns c = gives_opened _ _ c.from.ensures c.open.ensures
