-- `glasspuddle_close` meets its contract, by that of `Record::close`: what it does not write back, no call changes.
-- Assumes nothing.
use Rattle.dock.proofs.Keeping.{close_keeps, lends_back}
use Rattle.dock.proofs.glasspuddle_close.Goals as goal

pub returns : goal.returns
returns c = rw (c.hand_back.ensures.0, c.hand_back.ensures.1) (lends_back c.close.ensures (close_keeps _ _))
