-- `leaf_body`, by the node's case; the numbers are the constant table's.
-- Assumes nothing.
use borrow.Author.Tests.{ne_eqb}
use Rattle.node.specs.Kinds.{rows, look, rule_of}
use Rattle.node.specs.Node.{leaf_body_of}
use Rattle.node.proofs.leaf_body.Goals as goal

pub returns-in-Constant-eq0-default : goal.returns-in-Constant-eq0-default
unfolding leaf_body_of rows look rule_of
returns-in-Constant-eq0-default c =
    let n = c.in-Constant-eq0-default in
    rw (n.is, ← n.field-0-is, n.field-0-test)

pub returns-in-Constant : goal.returns-in-Constant
unfolding leaf_body_of rows look rule_of
returns-in-Constant c =
    let n = c.in-Constant in
    rw (n.is, ← n.field-0-is, ne_eqb _ _ n.field-0-test.1)

pub returns-in-Now : goal.returns-in-Now
unfolding leaf_body_of rows look rule_of
returns-in-Now c = rw c.in-Now.is

pub returns-in-At : goal.returns-in-At
unfolding leaf_body_of rows look rule_of
returns-in-At c = rw c.in-At.is

pub returns-in-Operator : goal.returns-in-Operator
unfolding leaf_body_of
returns-in-Operator c = rw c.in-Operator.is
