-- `wire::word_at` meets its contract.
-- Assumes nothing.
use Rattle.wire.specs.Bytes.{word_at}
use Rattle.wire.proofs.word_at.Goals as goal

pub returns : goal.returns
unfolding word_at
returns c = c.word_of.ensures
