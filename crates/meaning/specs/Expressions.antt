-- The expressions of a table as stream expressions of source 004 over the operators of document 01 ("The table").
-- Assumes nothing.
use Rattle.std.specs.Prelude.{ℕ, false, List, ◌≡◌, get_or}
use Rattle.value.specs.declared.Value.{Value}
use Rattle.value.specs.declared.Value.TheVariants.{Flag}
use Rattle.value.specs.Values.{image_of, reading_of, apply_of, choose_of}
use Rattle.node.specs.declared.Node.TheVariants.{Constant, Now, At, Operator}
use Rattle.expression.specs.Syntax.{Expr, leaf, unary, binary, ternary}
use Rattle.lola.specs.Expressions as lola
use Rattle.lola.specs.Expressions.{Ops, constant, reference, apply1, apply2, apply3, now, at}

-- a kind's function: `not` has one operand, "if: flag, then, else" is the one operator with three
abbrev pub ops : Ops Value ℕ
ops = record { op1 = λ k a. apply_of k a a; op2 = apply_of; op3 = λ k a b c. choose_of a b c }

-- over streams of the types ts: a constant and a default are read at their type. No operator is a leaf of a `WellFormed` one.
unfoldable pub meaning : List ℕ → Expr → lola.Expr Value ℕ
meaning ts (leaf (Constant t x)) = constant (reading_of t x)
meaning ts (leaf (Now v)) = reference (now v)
meaning ts (leaf (At v k d)) = reference (at v k (reading_of (get_or ts v 0) d))
meaning ts (leaf (Operator k)) = constant (Flag false)
meaning ts (unary k a) = apply1 k (meaning ts a)
meaning ts (binary k a b) = apply2 k (meaning ts a) (meaning ts b)
meaning ts (ternary k a b c) = apply3 k (meaning ts a) (meaning ts b) (meaning ts c)

-- x is a value of the type t: it is what its word is read as
abbrev pub OfType : ℕ → Value → Type 0
OfType t x = reading_of t (image_of x) ≡ x
