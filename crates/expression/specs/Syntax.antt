-- The syntax of expressions: "a constant, a reference to a stream, or an operator whose operands follow it in order" (document 01,
-- "The table"). Assumes nothing.
use Rattle.std.specs.Prelude.{ℕ}
use Rattle.node.specs.declared.Node.{Node}

-- a leaf is a constant or a reference; an operator has its kind and one, two or three operands
pub data Expr : Type 0 where
  leaf : Node → Expr
  unary : ℕ → Expr → Expr
  binary : ℕ → Expr → Expr → Expr
  ternary : ℕ → Expr → Expr → Expr → Expr
