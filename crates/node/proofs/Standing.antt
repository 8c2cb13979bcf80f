-- What stands at a place: a node with or without operands by its kind, and the head there, by the constant table's entries.
-- Assumes nothing.
use mathlib.Core.Path.{◌≡◌, refl, ap, sym, ◌∙◌}
use mathlib.Core.Bool.{Bool, true, false}
use mathlib.Core.List.{List}
use mathlib.Core.Logic.{⊎_elim}
use Prim.Native.Nat.{ℕ, suc, ◌+◌, ◌/◌, ◌%◌, ◌^◌, ◌≤◌, ◌<◌}
use native.Mathlib.Omega.{arith}
use borrow.Author.Tests.{eq-eqb, ne_eqb, eqb-true, eqb-false, lt-ltb, le-ltb, le-leb, lt-leb}
use lib.Dec.{eqb}
use lib.ListN.{length, get_or}
use Rattle.basis.proofs.Tests.{true_false, lt_or_eq}
use Rattle.limits.specs.Refusals.{missing, wrong_kind, wrong_type}
use Rattle.node.specs.declared.Node.{Node}
use Rattle.node.specs.declared.Node.TheVariants.{Operator}
use Rattle.node.specs.Node.{Fault, Got, node_of, is_leaf_of, leaf_body_of, standing, node_by, node_at, type_fault_of, fault_for, fault_at, head_at, result_fault_of}
use Rattle.node.specs.Kinds.{rows, look, rule_of, results_for, many_kinds}
use Rattle.node.specs.Head as head
use Rattle.node.proofs.Nodes.{is_other}
use Rattle.node.proofs.Rules.{leaf_kind_of, leaf_kinds, kinds_leaf, kind_low, is_given, not_given, nothing, something, Operates, operator_rule}
use Rattle.node.proofs.Heads as heads

-- ---- with or without operands, by the kind

module _ (s : List ℕ) (k at : ℕ) where
  none_of : (k ≡ 16 → ⊥) → (k ≡ 17 → ⊥) → (k ≡ 18 → ⊥) → (k ≡ 19 → ⊥) → (k ≡ 20 → ⊥) → is_leaf_of (node_of s k at) ≡ false
  unfolding is_leaf_of
  none_of a b c d e = ap is_leaf_of (sym (is_other s k at a b c d e))

  leaf_16 : k ≡ 16 → is_leaf_of (node_of s k at) ≡ true
  unfolding is_leaf_of node_of
  leaf_16 e = rw e

  leaf_17 : k ≡ 17 → is_leaf_of (node_of s k at) ≡ true
  unfolding is_leaf_of node_of
  leaf_17 e = rw e

  leaf_18 : k ≡ 18 → is_leaf_of (node_of s k at) ≡ true
  unfolding is_leaf_of node_of
  leaf_18 e = rw e

  leaf_19 : k ≡ 19 → is_leaf_of (node_of s k at) ≡ true
  unfolding is_leaf_of node_of
  leaf_19 e = rw e

  leaf_20 : k ≡ 20 → is_leaf_of (node_of s k at) ≡ true
  unfolding is_leaf_of node_of
  leaf_20 e = rw e

  pub is_operator : is_leaf_of (node_of s k at) ≡ false → node_of s k at ≡ Operator k
  is_operator h = sym (is_other s k at (λ e. true_false (leaf_16 e) h) (λ e. true_false (leaf_17 e) h) (λ e. true_false (leaf_18 e) h) (λ e. true_false (leaf_19 e) h) (λ e. true_false (leaf_20 e) h))

  not_leaf_kind : is_leaf_of (node_of s k at) ≡ false → 15 < k → k < 21 → ⊥
  not_leaf_kind h a b =
      let p : 20 < k = more 19 (more 18 (more 17 (more 16 (more 15 a (λ e. true_false (leaf_16 e) h)) (λ e. true_false (leaf_17 e) h)) (λ e. true_false (leaf_18 e) h)) (λ e. true_false (leaf_19 e) h)) (λ e. true_false (leaf_20 e) h) in
      omega (arith, p, b)
    where
      more : (m : ℕ) → m < k → (k ≡ suc m → ⊥) → suc m < k
      more m g f = omega (arith, f)

  pub operator_kind : is_leaf_of (node_of s k at) ≡ false → leaf_kind_of k ≡ false
  operator_kind h = go (leaf_kind_of k) refl
    where
      go : (b : Bool) → leaf_kind_of k ≡ b → leaf_kind_of k ≡ false
      go true e = absurd (not_leaf_kind h (kinds e).0 (kinds e).1)
        where
          kinds : leaf_kind_of k ≡ true → (15 < k) × (k < 21)
          kinds = leaf_kinds k
      go false e = e

  pub leaf_kind : is_leaf_of (node_of s k at) ≡ true → leaf_kind_of k ≡ true
  leaf_kind h = go (leaf_kind_of k) refl
    where
      go : (b : Bool) → leaf_kind_of k ≡ b → leaf_kind_of k ≡ true
      go true e = e
      go false e = true_false h (none_of (λ p. out e (omega arith) (omega arith)) (λ p. out e (omega arith) (omega arith)) (λ p. out e (omega arith) (omega arith)) (λ p. out e (omega arith) (omega arith)) (λ p. out e (omega arith) (omega arith)))
        where
          out : leaf_kind_of k ≡ false → 15 < k → k < 21 → ⊥
          out q a b = true_false (kinds_leaf k a b) q

-- ---- the body of a node without operands

module _ (s : List ℕ) (k at : ℕ) where
  body_16 : k ≡ 16 → leaf_body_of (node_of s k at) ≡ (rule_of k).body
  unfolding leaf_body_of node_of
  body_16 e = rw e

  body_17 : k ≡ 17 → leaf_body_of (node_of s k at) ≡ (rule_of k).body
  unfolding leaf_body_of node_of
  body_17 e = rw e

  body_18 : k ≡ 18 → leaf_body_of (node_of s k at) ≡ (rule_of k).body
  unfolding leaf_body_of node_of rows look rule_of
  body_18 e = rw e

  body_19 : k ≡ 19 → leaf_body_of (node_of s k at) ≡ (rule_of k).body
  unfolding leaf_body_of node_of
  body_19 e = rw e

  body_20 : k ≡ 20 → leaf_body_of (node_of s k at) ≡ (rule_of k).body
  unfolding leaf_body_of node_of
  body_20 e = rw e

  -- it is the kind's
  pub leaf_body_lem : is_leaf_of (node_of s k at) ≡ true → leaf_body_of (node_of s k at) ≡ (rule_of k).body
  leaf_body_lem h =
      let r = leaf_kinds k (leaf_kind s k at h) in
      let t : k ≤ 20 = omega (arith, r.1) in
      ⊎_elim (λ a. let t : k ≤ 19 = omega (arith, a) in
      ⊎_elim (λ b. let t : k ≤ 18 = omega (arith, b) in
      ⊎_elim (λ c. let t : k ≤ 17 = omega (arith, c) in
      ⊎_elim (λ d. body_16 (omega (arith, d, r.0))) body_17 (lt_or_eq t)) body_18 (lt_or_eq t)) body_19 (lt_or_eq t)) body_20 (lt_or_eq t)

  -- and so is the length that is found with the node
  pub body_found : {node : Node} {b n : ℕ} → n ≡ b → b ≡ leaf_body_of node → node ≡ node_of s k at → is_leaf_of (node_of s k at) ≡ true → n ≡ (rule_of k).body
  body_found e f g h = e ∙ f ∙ ap leaf_body_of g ∙ leaf_body_lem h

-- an operator's rule
module _ (s : List ℕ) (k at : ℕ) (form : (rule_of k).form ≡ 0 → ⊥) (h : is_leaf_of (node_of s k at) ≡ false) where
  rules : Operates k
  rules = operator_rule k (kind_low k form) form (operator_kind s k at h)

  pub no_body : (rule_of k).body ≡ 0
  no_body = rules.body

  pub two_operands : ((rule_of k).operands ≡ 1 → ⊥) → ((rule_of k).operands ≡ 3 → ⊥) → (rule_of k).operands ≡ 2
  two_operands one three = omega (arith, rules.some, rules.three, one, three)

-- ---- the node that is read at a place

module _ (s : List ℕ) (at : ℕ) where
  pub none_read : length s ≤ at → node_at s at ≡ Fault missing
  unfolding node_at
  none_read h = rw (le-ltb _ _ h)

  module _ {k : ℕ} (h : at < length s) (e : k ≡ get_or s at 0) where
    pub strange_read : (rule_of k).form ≡ 0 → node_at s at ≡ Fault wrong_kind
    unfolding node_at node_by
    strange_read f = rw (lt-ltb _ _ h, ← e, eq-eqb _ _ f)

    pub part_read : ((rule_of k).form ≡ 0 → ⊥) → length s < at + 1 + (rule_of k).body → node_at s at ≡ Fault missing
    unfolding node_at node_by
    part_read f g = rw (lt-ltb _ _ h, ← e, ne_eqb _ _ f, lt-leb _ _ g)

    pub whole_read : ((rule_of k).form ≡ 0 → ⊥) → at + 1 + (rule_of k).body ≤ length s → node_at s at ≡ Got (node_of s k (at + 1)) (at + 1 + (rule_of k).body)
    unfolding node_at node_by
    whole_read f g = rw (lt-ltb _ _ h, ← e, ne_eqb _ _ f, le-leb _ _ g)

    -- an operator, whose results have the bit of the wanted type or not
    module _ (o : is_leaf_of (standing s at) ≡ false) where
      here : is_leaf_of (node_of s k (at + 1)) ≡ false
      here = rw e o

      pub operates : k < many_kinds → ((rule_of k).form ≡ 0 → ⊥) → Operates k
      operates g f = operator_rule k g f (operator_kind s k (at + 1) here)

      operator_read : k < many_kinds → ((rule_of k).form ≡ 0 → ⊥) → node_at s at ≡ Got (Operator k) (at + 1)
      operator_read g f =
          let b = (operates g f).body in
          whole_read f (omega (arith, b)) ∙ (λ i. Got (is_operator s k (at + 1) here i) (let q : at + 1 + (rule_of k).body ≡ at + 1 = omega (arith, b) in q i))

      module _ (l : ℕ) (ts : List ℕ) (w : ℕ) (lev : 1 ≤ l) (g : k < many_kinds) (lw : w < 3) where
        level : (a : ℕ) → a ≡ fault_for ts w (Operator k) → a ≡ fault_at l ts w (Operator k)
        unfolding fault_at
        level a q = q ∙ rw (ne_eqb l 0 (λ z. omega arith))

        pub operator_head : results_for (rule_of k) / 2 ^ w % 2 ≡ 1 → head_at l ts s w at ≡ head.Operator k (at + 1)
        unfolding fault_for type_fault_of
        operator_head b =
            let r = is_given k w g lw b in
            heads.is_operator l ts s w at (operator_read g r.0) refl (level 0 (rw (eq-eqb _ _ r.1))) refl

        other_head : (results_for (rule_of k) / 2 ^ w % 2 ≡ 1 → ⊥) → ((rule_of k).form ≡ 0 → ⊥) → head_at l ts s w at ≡ head.Refused wrong_type
        unfolding fault_for type_fault_of
        other_head b f = heads.operator_refused l ts s w at (operator_read g f) refl (level wrong_type (rw (ne_eqb _ _ (not_given k w g lw b f)))) (λ z. omega arith)

        -- the fault where the bit is not there: no expression has the kind, or it is of another type
        pub result_head : {r : ℕ} → r ≡ results_for (rule_of k) → (r / 2 ^ w % 2 ≡ 1 → ⊥) → head_at l ts s w at ≡ head.Refused (result_fault_of r)
        unfolding result_fault_of
        result_head {r} er b = go (eqb (rule_of k).form 0) refl
          where
            go : (z : Bool) → eqb (rule_of k).form 0 ≡ z → head_at l ts s w at ≡ head.Refused (result_fault_of r)
            go true z = heads.missing l ts s w at (strange_read (eqb-true _ _ z)) ∙ ap head.Refused (rw (eq-eqb r 0 (er ∙ nothing (rule_of k) (eqb-true _ _ z))))
            go false z = other_head (λ q. b (rw er q)) (eqb-false _ _ z) ∙ ap head.Refused (rw (ne_eqb r 0 (λ q. something (rule_of k) (eqb-false _ _ z) (sym er ∙ q))))
