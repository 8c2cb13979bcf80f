-- `strange`: the table's own refusal, or 10.
-- Assumes nothing.
use Rattle.dock.proofs.Giving.{strange_is}
use Rattle.dock.proofs.Record.strange.Goals as goal

pub returns : goal.returns
returns c = strange_is _ _ c.from.ensures c.foreign.ensures
