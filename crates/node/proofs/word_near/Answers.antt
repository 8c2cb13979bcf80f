-- `word_near`: four bytes.
-- Assumes nothing.
use mathlib.Core.Path.{◌∙◌}
use Rattle.wire.specs.Bytes.{word_at}
use Rattle.node.proofs.word_near.Goals as goal

pub returns : goal.returns
unfolding word_at
returns c = c.word_of.ensures ∙ rw (c.byte_near.ensures, c.byte_near-2.ensures, c.byte_near-3.ensures, c.byte_near-4.ensures)
