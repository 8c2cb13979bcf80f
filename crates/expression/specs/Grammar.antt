-- The grammar of expressions, as an executable parser: the expression that stands at a place of a table, or the number and the place
-- of its first fault (document 01, "The table" and "Refusal numbers"). Assumes nothing.
use Rattle.std.specs.Prelude.{ℕ, zero, suc, List, eqb}
use Rattle.limits.specs.Refusals.{too_deep}
use Rattle.basis.specs.Choices.{or_else}
use Rattle.node.specs.Kinds.{Rule, rule_of, meant}
use Rattle.node.specs.Head.{Head}
use Rattle.node.specs.Head as head
use Rattle.node.specs.Node.{head_at}
use Rattle.expression.specs.Syntax.{Expr, leaf, unary, binary, ternary}

-- an expression and the place behind it, or the number and the place of a fault
pub data Parsed : Type 0 where
  good : Expr → ℕ → Parsed
  bad : ℕ → ℕ → Parsed

abbrev pub and_then : Parsed → (Expr → ℕ → Parsed) → Parsed
and_then (good e n) f = f e n
and_then (bad why place) f = bad why place

-- the operands of an operator of the kind k, whose rule is r, parsed by p in order from the place `at` on
unfoldable pub operands : (ℕ → ℕ → Parsed) → ℕ → ℕ → Rule → ℕ → Parsed
operands p w k r at =
    and_then (p (meant r.first w) at) λ a n.
    or_else (eqb r.operands 1) (good (unary k a) n) λ _.
    and_then (p (meant r.rest w) n) λ b m.
    or_else (eqb r.operands 2) (good (binary k a b) m) λ _.
    and_then (p (meant r.rest w) m) λ c e.
    good (ternary k a b c) e

-- what follows from the node at the place `at`, its operands parsed by p
unfoldable pub step : (ℕ → ℕ → Parsed) → ℕ → ℕ → Head → Parsed
step p w at (head.Refused why) = bad why at
step p w at (head.Leaf node next) = good (leaf node) next
step p w at (head.Operator k next) = operands p w k (rule_of k) next

-- the expression of the type w at the place `at` of the table s over streams of the types ts, with `levels` levels left: "nodes nest at
-- most 16 levels deep". At no level left `head_at` refuses each node.
unfoldable pub parse : ℕ → List ℕ → List ℕ → ℕ → ℕ → Parsed
parse zero ts s w at = step (λ v n. bad too_deep n) w at (head_at zero ts s w at)
parse (suc levels) ts s w at = step (λ v n. parse levels ts s v n) w at (head_at (suc levels) ts s w at)
