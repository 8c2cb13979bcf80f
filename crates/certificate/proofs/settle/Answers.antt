-- `settle`: where the numbers agree, the line of the streams decides.
-- Assumes nothing.
use Rattle.certificate.proofs.Verdict.{settle_line, settle_amiss}
use Rattle.certificate.proofs.settle.Goals as goal

pub returns-then-numbers_agree : goal.returns-then-numbers_agree
returns-then-numbers_agree c = λ es ends x. settle_line es _ c.requires.0 ends _ _ _ _ x c.if-numbers_agree.ensures c.ordered.result _ c.ordered.ensures

pub returns-else-numbers_agree : goal.returns-else-numbers_agree
returns-else-numbers_agree c = λ es ends x. rw c.if-numbers_agree.false (settle_amiss es _ c.requires.0 ends _ _ _ _ x c.if-numbers_agree.ensures)
