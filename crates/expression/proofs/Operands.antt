-- The grammar node by node: what `parse` is where the head at a place is a fault, a leaf, or an operator with its operands.
-- Assumes nothing.
use mathlib.Core.Path.{◌≡◌}
use mathlib.Core.List.{List}
use Prim.Native.Nat.{ℕ, zero, suc, ◌≤◌, ◌-◌}
use native.Mathlib.Omega.{arith}
use native.Mathlib.Numerals.{sub-one}
use borrow.Author.Tests.{eq-eqb, ne_eqb}
use Rattle.node.specs.Kinds.{Rule, rule_of, meant}
use Rattle.node.specs.declared.Node.{Node}
use Rattle.node.specs.Node.{NodeRead, Fault, Got, node_at, fault_at, head_by_of, head_at}
use Rattle.node.specs.Head as head
use Rattle.expression.specs.Syntax.{Expr, leaf, unary, binary, ternary}
use Rattle.expression.specs.Grammar.{good, bad, operands, step, parse}

-- an operator has a level left
pub has_level : (l : ℕ) (ts s : List ℕ) (w at : ℕ) {k next : ℕ} → head_at l ts s w at ≡ head.Operator k next → 1 ≤ l
unfolding head_at head_by_of fault_at
has_level zero ts s w at {k} {next} e = absurd (go (node_at s at) e)
  where
    go : (n : NodeRead) → head_by_of zero ts w n ≡ head.Operator k next → ⊥
    go (Fault why) e = let z : ◌≡◌ {A = ℕ} 0 1 = cc in omega arith
    go (Got n m) e = let z : ◌≡◌ {A = ℕ} 0 1 = cc in omega arith
has_level (suc l) ts s w at e = omega arith

pub parse_refused : (l : ℕ) (ts s : List ℕ) (w at : ℕ) {why : ℕ} → head_at l ts s w at ≡ head.Refused why → parse l ts s w at ≡ bad why at
unfolding parse step
parse_refused zero ts s w at e = rw e
parse_refused (suc l) ts s w at e = rw e

pub parse_leaf : (l : ℕ) (ts s : List ℕ) (w at : ℕ) {n : Node} {next : ℕ} → head_at l ts s w at ≡ head.Leaf n next → parse l ts s w at ≡ good (leaf n) next
unfolding parse step
parse_leaf zero ts s w at e = rw e
parse_leaf (suc l) ts s w at e = rw e

pub parse_operator : (l : ℕ) (ts s : List ℕ) (w at : ℕ) {k next : ℕ} → head_at l ts s w at ≡ head.Operator k next → parse l ts s w at ≡ operands (λ v n. parse (l - 1) ts s v n) w k (rule_of k) next
unfolding parse step
parse_operator zero ts s w at e = absurd (omega (arith, has_level zero ts s w at e))
parse_operator (suc l) ts s w at e = rw (e, sub-one (suc l))

-- an operator of the kind k, whose rule is r, and the types f and q of its operands
module _ (l : ℕ) (ts s : List ℕ) (w at : ℕ) {k next : ℕ} {r : Rule} {f q : ℕ} (e : head_at l ts s w at ≡ head.Operator k next) (er : r ≡ rule_of k) (ef : f ≡ meant r.first w) (eq : q ≡ meant r.rest w) where
  whole : parse l ts s w at ≡ operands (λ v n. parse (l - 1) ts s v n) w k r next
  whole = rw er (parse_operator l ts s w at e)

  pub first_bad_lem : {why place : ℕ} → parse (l - 1) ts s f next ≡ bad why place → parse l ts s w at ≡ bad why place
  unfolding operands
  first_bad_lem p1 = rw (whole, ← ef, p1)

  module _ {a : Expr} {n : ℕ} (p1 : parse (l - 1) ts s f next ≡ good a n) where
    pub one_operand : r.operands ≡ 1 → parse l ts s w at ≡ good (unary k a) n
    unfolding operands
    one_operand o = rw (whole, ← ef, p1, eq-eqb _ _ o)

    module _ (o1 : r.operands ≡ 1 → ⊥) where
      pub second_bad : {why place : ℕ} → parse (l - 1) ts s q n ≡ bad why place → parse l ts s w at ≡ bad why place
      unfolding operands
      second_bad p2 = rw (whole, ← ef, p1, ne_eqb _ _ o1, ← eq, p2)

      module _ {b : Expr} {m : ℕ} (p2 : parse (l - 1) ts s q n ≡ good b m) where
        pub two_operands : r.operands ≡ 2 → parse l ts s w at ≡ good (binary k a b) m
        unfolding operands
        two_operands o = rw (whole, ← ef, p1, ne_eqb _ _ o1, ← eq, p2, eq-eqb _ _ o)

        module _ (o2 : r.operands ≡ 2 → ⊥) where
          pub third_bad : {why place : ℕ} → parse (l - 1) ts s q m ≡ bad why place → parse l ts s w at ≡ bad why place
          unfolding operands
          third_bad p3 = rw (whole, ← ef, p1, ne_eqb _ _ o1, ← eq, p2, ne_eqb _ _ o2, p3)

          pub three_operands : {c : Expr} {h : ℕ} → parse (l - 1) ts s q m ≡ good c h → parse l ts s w at ≡ good (ternary k a b c) h
          unfolding operands
          three_operands p3 = rw (whole, ← ef, p1, ne_eqb _ _ o1, ← eq, p2, ne_eqb _ _ o2, p3)
