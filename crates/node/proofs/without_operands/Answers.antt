-- `without_operands`, by the node's case.
-- Assumes nothing.
use mathlib.Core.Path.{◌≡◌, refl}
use mathlib.Core.Bool.{true}
use Prim.Native.Nat.{ℕ}
use Rattle.node.specs.declared.Node.{Node}
use Rattle.node.specs.declared.Node.TheVariants.{Constant, Now, At, Operator}
use Rattle.node.specs.Node.{is_leaf_of}
use Rattle.node.proofs.without_operands.Goals as goal
use Rattle.node.proofs.without_operands.Goals.{in-Operator, in_default}

-- no operator
others : (n : Node) → ((k : ℕ) → n ≡ Operator k → ⊥) → true ≡ is_leaf_of n
unfolding is_leaf_of
others (Constant t x) f = refl
others (Now v) f = refl
others (At v k d) f = refl
others (Operator k) f = absurd (f k refl)

pub returns : goal.returns
unfolding is_leaf_of
returns c =
    elim c.match-matches.branch [ in-Operator w ↦ rw (w.matches-is, w.in-Operator.is) | in_default w ↦ rw w.matches-is (others c.args.node w.in_default.not-Operator) ]
