-- `wire::put_byte` meets its contract: one byte at a place.
-- Assumes nothing.
use Rattle.basis.proofs.Written.{wrote_byte}
use Rattle.wire.proofs.put_byte.Goals as goal

pub returns : goal.returns
returns c = wrote_byte _ _ _ c.requires
