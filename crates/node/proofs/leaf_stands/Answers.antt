-- `leaf_stands`: by the node as far as the table goes.
-- Assumes nothing.
use Rattle.node.proofs.Nodes.{none_stands}
use Rattle.node.proofs.leaf_stands.Goals as goal

pub returns-then-table-at : goal.returns-then-table-at
returns-then-table-at c = none_stands _ _ c.if-table-at.true
