-- What stands at a place, by the node that is read there and its fault. Assumes nothing.
use mathlib.Core.Path.{◌≡◌}
use mathlib.Core.List.{List}
use Prim.Native.Nat.{ℕ, ◌≤◌}
use native.Mathlib.Omega.{arith}
use borrow.Author.Tests.{eq-eqb, ne_eqb, eqb-false}
use lib.Dec.{eqb}
use Rattle.limits.specs.Refusals.{too_deep}
use Rattle.basis.proofs.Tests.{pick_case}
use Rattle.node.specs.Head as head
use Rattle.node.specs.Node.{node_at, fault_for, fault_at, head_of, head_by_of, head_at, Fault, Got}
use Rattle.node.specs.declared.Node.{Node}
use Rattle.node.specs.declared.Node.TheVariants.{Operator}

-- a node without a fault has a level left, and none of its own
pub faultless : (l : ℕ) (ts : List ℕ) (w : ℕ) (n : Node) → fault_at l ts w n ≡ 0 → (1 ≤ l) × (fault_for ts w n ≡ 0)
unfolding fault_at
faultless l ts w n =
    pick_case (λ (x : ℕ). x ≡ 0 → (1 ≤ l) × (fault_for ts w n ≡ 0)) (eqb l 0) too_deep (fault_for ts w n) (λ p h. absurd (omega arith)) (λ p h. (omega (arith, eqb-false l 0 p), h))

module _ (l : ℕ) (ts s : List ℕ) (w at : ℕ) where
  pub missing : {why : ℕ} → node_at s at ≡ Fault why → head_at l ts s w at ≡ head.Refused why
  unfolding head_at head_by_of
  missing e = rw e

  -- a node n, whose fault is a
  module _ {n : Node} {next a : ℕ} (e : node_at s at ≡ Got n next) (f : a ≡ fault_at l ts w n) where
    refused : (a ≡ 0 → ⊥) → head_at l ts s w at ≡ head.Refused a
    unfolding head_at head_by_of
    refused b = rw (e, ← f, ne_eqb _ _ b)

    whole : a ≡ 0 → head_at l ts s w at ≡ head_of n next
    unfolding head_at head_by_of
    whole b = rw (e, ← f, eq-eqb _ _ b)

  -- an operator, whose fault is a
  module _ {n : Node} {next k a : ℕ} (e : node_at s at ≡ Got n next) (q : n ≡ Operator k) (f : a ≡ fault_at l ts w (Operator k)) where
    pub operator_refused : (a ≡ 0 → ⊥) → head_at l ts s w at ≡ head.Refused a
    operator_refused = refused (rw q at e) f

    pub is_operator : a ≡ 0 → head_at l ts s w at ≡ head.Operator k next
    unfolding head_of
    is_operator = whole (rw q at e) f
