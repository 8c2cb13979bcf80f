-- A node without operands: that it stands in the table, its body, and what is read of it.
-- Assumes nothing.
use mathlib.Core.Path.{◌≡◌, refl, sym, ap, ◌∙◌}
use mathlib.Core.Bool.{true}
use mathlib.Core.List.{List}
use mathlib.Core.Logic.{⊎_elim}
use Prim.Native.Nat.{ℕ, ◌+◌, ◌-◌, ◌≤◌, ◌<◌}
use native.Mathlib.Omega.{arith}
use lib.ListN.{length, get_or}
use Rattle.limits.specs.Refusals.{missing}
use Rattle.basis.proofs.Tests.{true_false, lt_or_ge}
use Rattle.node.specs.declared.Node.{Node}
use Rattle.node.specs.declared.Node.TheVariants.{Constant, Operator}
use Rattle.node.specs.Node.{Got, is_leaf_of, standing, node_of, node_at, head_at}
use Rattle.node.specs.Head as head
use Rattle.node.specs.Kinds.{rule_of, many_kinds}
use Rattle.node.proofs.Nodes.{none_stands}
use Rattle.node.proofs.Rules.{leaf_rule}
use Rattle.node.proofs.Standing.{leaf_kind, part_read, whole_read}
use Rattle.node.proofs.Heads as heads
use Rattle.expression.specs.References.{node_noted}
use Rattle.expression.specs.Seen.{Seen}
use Rattle.expression.specs.Scanning.{answered, LeafNoted}

module _ (s : List ℕ) (at : ℕ) (lf : is_leaf_of (standing s at) ≡ true) where
  pub leaf_within : at < length s
  leaf_within = ⊎_elim (λ h. h) (λ h. true_false lf (sym (none_stands s at h))) (lt_or_ge at (length s))

  pub leaf_named : (get_or s at 0 < many_kinds) × ((rule_of (get_or s at 0)).form ≡ 0 → ⊥)
  leaf_named = leaf_rule (get_or s at 0) (leaf_kind s (get_or s at 0) (at + 1) lf)

  module _ {b : ℕ} (eb : b ≡ (rule_of (get_or s at 0)).body) where
    pub leaf_room : b ≤ length s - (at + 1) → at + 1 + (rule_of (get_or s at 0)).body ≤ length s
    leaf_room h = omega (arith, eb, leaf_within)

    pub leaf_missing : (l : ℕ) (ts : List ℕ) (w : ℕ) → length s - (at + 1) < b → head_at l ts s w at ≡ head.Refused missing
    leaf_missing l ts w h = heads.missing l ts s w at (part_read s at leaf_within refl leaf_named.1 (omega (arith, leaf_within)))

    module _ (room : at + 1 + (rule_of (get_or s at 0)).body ≤ length s) where
      pub leaf_whole : at + 1 + b ≤ length s
      leaf_whole = omega (arith, eb, room)

      pub leaf_read : {node : Node} → node_of s (get_or s at 0) (at + 1) ≡ node → node_at s at ≡ Got node (at + 1 + b)
      leaf_read e = whole_read s at leaf_within refl leaf_named.1 room ∙ (λ i. Got (e i) (ap (λ (n : ℕ). at + 1 + n) (sym eb) i))

  pub leaf_is : {node : Node} → node_of s (get_or s at 0) (at + 1) ≡ node → is_leaf_of node ≡ true
  leaf_is e = ap is_leaf_of (sym e) ∙ lf

pub constant_leaf : {ts : List ℕ} {t x w at next r : ℕ} {seen : List (List ℕ)} → r ≡ answered ts w (Constant t x) at next → Seen ts seen → LeafNoted (Constant t x) w at next ts seen seen r
unfolding node_noted
constant_leaf e s = record { answer = e; rises = λ _. refl; falls = λ _. refl; others = λ j h g. refl; left = s }

-- an operator is none
pub operator_leaf : {X : Type 0} (k : ℕ) → is_leaf_of (Operator k) ≡ true → X
unfolding is_leaf_of
operator_leaf k h = true_false h refl
