-- `scan_expr`: a node without operands, or an operator.
-- Assumes nothing.
use mathlib.Core.Path.{sym, ◌∙◌}
use native.Mathlib.Omega.{arith}
use Rattle.expression.proofs.scan_expr.Goals as goal

pub scan_leaf-requires : goal.scan_leaf-requires
scan_leaf-requires c = (c.requires, sym c.leaf_stands.ensures ∙ c.if-leaf_stands.true)

pub scan_operator-requires : goal.scan_operator-requires
scan_operator-requires c = (c.requires, (sym c.leaf_stands.ensures ∙ c.if-leaf_stands.false, omega arith))

pub returns-then-leaf_stands : goal.returns-then-leaf_stands
returns-then-leaf_stands c = λ ts x. c.scan_leaf.ensures ts 15 x

pub returns-else-leaf_stands : goal.returns-else-leaf_stands
returns-else-leaf_stands c = c.scan_operator.ensures
