-- `glasspuddle_row` meets its contract, by that of `Record::row`: what it does not write back, no call changes.
-- Assumes nothing.
use Rattle.dock.proofs.Keeping.{row_keeps, lends_back}
use Rattle.dock.proofs.glasspuddle_row.Goals as goal

pub returns : goal.returns
returns c = rw (c.hand_back.ensures.0, c.hand_back.ensures.1) (lends_back c.row.ensures (row_keeps _ _ _ _ _))
