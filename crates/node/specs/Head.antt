-- What a scan finds at a place where a node is wanted: the number of a fault; a constant or reference; an operator, whose operands follow.
-- A node comes with the place behind its body. Assumes nothing.
use Rattle.std.specs.Prelude.{ℕ}
use Rattle.node.specs.declared.Node.{Node}

pub data Head : Type 0 where
  Refused : ℕ → Head
  Leaf : Node → ℕ → Head
  Operator : ℕ → ℕ → Head
