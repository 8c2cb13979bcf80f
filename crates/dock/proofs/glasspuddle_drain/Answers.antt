-- `glasspuddle_drain` meets its contract, by that of `Record::drain`: what it does not write back, no call changes.
-- Assumes nothing.
use Rattle.dock.proofs.Keeping.{drain_keeps, lends_back}
use Rattle.dock.proofs.glasspuddle_drain.Goals as goal

pub returns : goal.returns
returns c = rw (c.hand_back.ensures.0, c.hand_back.ensures.1) (lends_back c.drain.ensures (drain_keeps _ _ _ _))
