-- `other_fault`, by the type in the row.
-- Assumes nothing.
use borrow.Author.Tests.{eq-eqb, ne_eqb}
use Rattle.expression.specs.Scanning.{other_fault_of}
use Rattle.expression.proofs.other_fault.Goals as goal

pub returns-then-t-eq-NO_TYPE : goal.returns-then-t-eq-NO_TYPE
unfolding other_fault_of
returns-then-t-eq-NO_TYPE c = simp (eq-eqb _ _ c.if-t-eq-NO_TYPE.true)

pub returns-else-t-eq-NO_TYPE : goal.returns-else-t-eq-NO_TYPE
unfolding other_fault_of
returns-else-t-eq-NO_TYPE c = simp (ne_eqb _ _ c.if-t-eq-NO_TYPE.false)
