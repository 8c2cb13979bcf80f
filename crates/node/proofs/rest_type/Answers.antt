-- `rest_type`, by the number of operands.
-- Assumes nothing.
use borrow.Author.Tests.{eq-eqb, ne_eqb}
use Rattle.node.specs.Kinds.{rest_of}
use Rattle.node.proofs.rest_type.Goals as goal

pub returns-then-operands-eq3 : goal.returns-then-operands-eq3
unfolding rest_of
returns-then-operands-eq3 c = simp (eq-eqb _ _ c.if-operands-eq3.true)

pub returns-else-operands-eq3 : goal.returns-else-operands-eq3
unfolding rest_of
returns-else-operands-eq3 c = simp (ne_eqb _ _ c.if-operands-eq3.false)
