-- `wire::put_bytes` meets its contract: the bytes are copied into the slice's part.
-- Assumes nothing.
use Rattle.std.proofs.Common.{refl}
use Rattle.wire.proofs.Words.{wrote_copied}
use Rattle.wire.proofs.put_bytes.Goals as goal

pub returns : goal.returns
returns c = rw c.copy_from_slice.ensures.after (wrote_copied _ _ _ _ refl c.requires)
