-- `note_cell`: by what was read, no edge, an edge without slack, or the tally with the cell's edges and the cell wiped.
-- Assumes nothing.
use mathlib.Core.Path.{refl}
use borrow.Author.Rules.{rules}
use Rattle.certificate.proofs.Forgetting.{wiped_none, wiped_some}
use Rattle.certificate.proofs.Tally.{read_none, read_lacks, read_noted}
use Rattle.certificate.proofs.note_cell.Goals as goal

pub returns-then-top-eq0 : goal.returns-then-top-eq0
returns-then-top-eq0 c = (read_none c.from-top.ensures c.if-top-eq0.true, wiped_none _ _ c.from-top.ensures c.if-top-eq0.true)

pub returns-then-have-want : goal.returns-then-have-want
returns-then-have-want c = (read_lacks c.from-top.ensures c.from-have.ensures c.from-ahead.ensures c.if-top-eq0.false c.if-have-want.true, refl)

pub returns : goal.returns
returns c = (
  read_noted c.from-top.ensures c.from-have.ensures c.from-ahead.ensures c.if-top-eq0.false (search rules) (search rules) c.from.ensures c.if-have-want.false c.mark.ensures c.looser.ensures,
  wiped_some _ _ c.from-top.ensures c.if-top-eq0.false,
)
