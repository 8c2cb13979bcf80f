-- What the grammar's reading says of the node at a place.
-- Assumes nothing.
use mathlib.Core.Path.{◌≡◌, refl, sym, ◌∙◌}
use mathlib.Core.Bool.{Bool, true, false}
use mathlib.Core.List.{List}
use Prim.Native.Nat.{ℕ, ◌+◌, ◌≤◌, ◌<◌}
use native.Mathlib.Omega.{arith}
use borrow.Author.Tests.{ltb-true, leb-true, eqb-true, eqb-false}
use lib.Dec.{ltb, leb, eqb}
use lib.ListN.{length, get_or, take}
use Rattle.expression.proofs.Operands.{parse_refused}
use Rattle.node.specs.Kinds.{rule_of, many_kinds}
use Rattle.node.specs.Node.{node_of, is_leaf_of, standing, node_by, node_at, fault_at, head_of, head_by_of, head_at}
use Rattle.node.proofs.Heads.{faultless}
use Rattle.node.proofs.Rules.{kind_low}
use Rattle.node.proofs.Standing.{is_operator, no_body}
use Rattle.expression.specs.Syntax.{Expr}
use Rattle.expression.specs.Grammar.{good, bad, parse}
use Rattle.node.specs.declared.Node.{Node}
use Rattle.node.specs.Head as head
use Rattle.store.specs.declared.Frame.{Frame}
use Rattle.evaluate.specs.Evaluation.{Readable}

-- the node at a place where the grammar reads an expression
pub record Standing (l : ℕ) (ts s : List ℕ) (w place : ℕ) : Type 0 where
  pub inside : place < length s
  pub form : (rule_of (get_or s place 0)).form ≡ 0 → ⊥
  pub body : place + 1 + (rule_of (get_or s place 0)).body ≤ length s
  pub level : 1 ≤ l
  pub is : head_at l ts s w place ≡ head_of (standing s place) (place + 1 + (rule_of (get_or s place 0)).body)

module _ (l : ℕ) (ts s : List ℕ) (w place : ℕ) (not_refused : (why : ℕ) → head_at l ts s w place ≡ head.Refused why → ⊥) where
  standing_by : (a b c f : Bool) → ltb place (length s) ≡ a → eqb (rule_of (get_or s place 0)).form 0 ≡ b → leb (place + 1 + (rule_of (get_or s place 0)).body) (length s) ≡ c
      → eqb (fault_at l ts w (node_of s (get_or s place 0) (place + 1))) 0 ≡ f → Standing l ts s w place
  unfolding head_at head_by_of node_at node_by
  standing_by true false true true p1 p2 p3 p4 =
      record { inside = ltb-true _ _ p1; form = eqb-false _ _ p2; body = leb-true _ _ p3; level = (faultless l ts w _ (eqb-true _ _ p4)).0; is = rw (p1, p2, p3, p4) }
  standing_by true false true false p1 p2 p3 p4 = absurd (not_refused (fault_at l ts w (node_of s (get_or s place 0) (place + 1))) (rw (p1, p2, p3, p4)))
  standing_by true false false f p1 p2 p3 p4 = absurd (not_refused 2 (rw (p1, p2, p3)))
  standing_by true true c f p1 p2 p3 p4 = absurd (not_refused 3 (rw (p1, p2)))
  standing_by false b c f p1 p2 p3 p4 = absurd (not_refused 2 (rw p1))

-- where the grammar reads an expression no node is refused
none_refused : (l : ℕ) (ts s : List ℕ) (w place : ℕ) {e : Expr} {m : ℕ} → parse l ts s w place ≡ good e m → (why : ℕ) → head_at l ts s w place ≡ head.Refused why → ⊥
none_refused l ts s w place {e} {m} p why h =
    let a : bad why place ≡ good e m = sym (parse_refused l ts s w place h) ∙ p in
    let z : ◌≡◌ {A = ℕ} 0 1 = cc in omega arith

module _ {l : ℕ} {frame : Frame} {m : ℕ} {s : List ℕ} {place : ℕ} (x : Readable l frame m s place) where
  abbrev pub types_in : List ℕ
  types_in = take x.turn.streams x.turn.types

  pub standing_at : Standing l types_in s x.wanted place
  standing_at = standing_by l types_in s x.wanted place (none_refused l types_in s x.wanted place x.parsed) _ _ _ _ refl refl refl refl

  pub low_kind : get_or s place 0 < many_kinds
  low_kind = kind_low (get_or s place 0) standing_at.form

  -- what the grammar finds at the place, by the node that the code decodes there: i is the place behind its body
  pub leaf_here : {node leaf : Node} {i : ℕ} → node ≡ standing s place → node ≡ leaf → head_of leaf i ≡ head.Leaf leaf i → i ≡ place + 1 + (rule_of (get_or s place 0)).body
      → head_at l types_in s x.wanted place ≡ head.Leaf leaf i
  leaf_here en e is ei = standing_at.is ∙ rw (← en, e, ← ei) is

  module _ (h : is_leaf_of (standing s place) ≡ false) where
    pub operator_here : head_at l types_in s x.wanted place ≡ head.Operator (get_or s place 0) (place + 1)
    unfolding head_of
    operator_here =
        let b : place + 1 + (rule_of (get_or s place 0)).body ≡ place + 1 = omega (arith, no_body s (get_or s place 0) (place + 1) standing_at.form h) in
        standing_at.is ∙ rw (is_operator s (get_or s place 0) (place + 1) h, b)
