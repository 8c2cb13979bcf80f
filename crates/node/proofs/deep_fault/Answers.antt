-- `deep_fault`: what is read at the place, one level too deep.
-- Assumes nothing.
use mathlib.Core.Path.{◌≡◌, refl, sym, ap, ◌∙◌}
use mathlib.Core.List.{List}
use Prim.Native.Nat.{ℕ, zero, suc, ◌-◌, ◌≤◌, ◌<◌}
use native.Mathlib.Omega.{arith}
use lib.ListN.{length, get_or}
use Rattle.limits.specs.Refusals.{missing, wrong_kind, too_deep}
use Rattle.node.specs.Kinds.{rule_of, results_for, many_kinds}
use Rattle.node.specs.Node.{deep_of, deep_fault_of}
use Rattle.node.proofs.Rules.{past_form, nothing, something}
use Rattle.node.proofs.Standing.{none_read, strange_read, part_read, whole_read}
use Rattle.node.proofs.deep_fault.Goals as goal

module _ (s : List ℕ) (at : ℕ) where
  no_kind : length s ≤ at → missing ≡ deep_fault_of s at
  unfolding deep_of
  no_kind h = sym (ap deep_of (none_read s at h))

  module _ {k : ℕ} (h : at < length s) (e : k ≡ get_or s at 0) where
    strange : many_kinds ≤ k → wrong_kind ≡ deep_fault_of s at
    unfolding deep_of
    strange g = sym (ap deep_of (strange_read s at h e (past_form k g)))

    module _ {r : ℕ} (er : r ≡ results_for (rule_of k)) where
      formless : r ≡ 0 → (rule_of k).form ≡ 0
      formless z = by (rule_of k).form refl
        where
          by : (f : ℕ) → (rule_of k).form ≡ f → (rule_of k).form ≡ 0
          by zero q = q
          by (suc f) q = absurd (something (rule_of k) (λ p. omega (arith, q, p)) (sym er ∙ z))

      no_node : r ≡ 0 → wrong_kind ≡ deep_fault_of s at
      unfolding deep_of
      no_node z = sym (ap deep_of (strange_read s at h e (formless z)))

      formed : (r ≡ 0 → ⊥) → (rule_of k).form ≡ 0 → ⊥
      formed z f = z (er ∙ nothing (rule_of k) f)

      module _ {b : ℕ} (eb : b ≡ (rule_of k).body) (z : r ≡ 0 → ⊥) where
        no_body : length s - at ≤ b → missing ≡ deep_fault_of s at
        unfolding deep_of
        no_body g = sym (ap deep_of (part_read s at h e (formed z) (omega arith)))

        whole : b < length s - at → too_deep ≡ deep_fault_of s at
        unfolding deep_of
        whole g = sym (ap deep_of (whole_read s at h e (formed z) (omega arith)))

pub returns-then-table-at : goal.returns-then-table-at
returns-then-table-at c = no_kind c.args.table.now c.args.at c.if-table-at.true

pub returns-then-kind-ge-KINDS_MOST : goal.returns-then-kind-ge-KINDS_MOST
returns-then-kind-ge-KINDS_MOST c = strange c.args.table.now c.args.at c.if-table-at.false c.from-kind.ensures c.if-kind-ge-KINDS_MOST.true

pub returns-then-results_of-eq-NOTHING : goal.returns-then-results_of-eq-NOTHING
returns-then-results_of-eq-NOTHING c = no_node c.args.table.now c.args.at c.if-table-at.false c.from-kind.ensures c.results_of.ensures c.if-results_of-eq-NOTHING.true

pub returns-then-table-at-2 : goal.returns-then-table-at-2
returns-then-table-at-2 c = no_body c.args.table.now c.args.at c.if-table-at.false c.from-kind.ensures c.results_of.ensures c.body_of.ensures.0 c.if-results_of-eq-NOTHING.false c.if-table-at-2.true

pub returns : goal.returns
returns c = whole c.args.table.now c.args.at c.if-table-at.false c.from-kind.ensures c.results_of.ensures c.body_of.ensures.0 c.if-results_of-eq-NOTHING.false c.if-table-at-2.false
