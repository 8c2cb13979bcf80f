-- `note`: both notes raised.
-- Assumes nothing.
use Rattle.expression.proofs.Noting.{noted_both}
use Rattle.expression.proofs.note.Goals as goal

pub returns : goal.returns
returns c = noted_both c.raise.ensures c.raise-2.ensures
