-- `result_fault`, by the set of types.
-- Assumes nothing.
use borrow.Author.Tests.{eq-eqb, ne_eqb}
use Rattle.node.specs.Node.{result_fault_of}
use Rattle.node.proofs.result_fault.Goals as goal

pub returns-then-results-eq-NOTHING : goal.returns-then-results-eq-NOTHING
unfolding result_fault_of
returns-then-results-eq-NOTHING c = simp (eq-eqb _ _ c.if-results-eq-NOTHING.true)

pub returns-else-results-eq-NOTHING : goal.returns-else-results-eq-NOTHING
unfolding result_fault_of
returns-else-results-eq-NOTHING c = simp (ne_eqb _ _ c.if-results-eq-NOTHING.false)
