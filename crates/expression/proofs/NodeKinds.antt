-- The kinds of nodes: each that a rule allows is one of the generation's, and each operator of the generation has the rule that it says.
-- Assumes nothing.
use Prim.Native.Nat.{ℕ, ◌≤◌, ◌<◌}
use native.Mathlib.Omega.{arith}
use mathlib.Core.Path.{◌≡◌, refl, sym, subst}
use mathlib.Core.List.{List, [], ◌∷◌}
use lib.Dec.{eqb}
use borrow.Author.Tests.{eqb-true}
use Rattle.basis.proofs.Tests.{pick_case}
use Rattle.node.specs.Kinds.{Rule, Row, rows, look, rule_of, operator, meant, many_kinds}
use Rattle.node.specs.Node.{node_of}
use Rattle.node.specs.declared.Node.TheVariants.{Operator}
use Rattle.node.proofs.Nodes.{is_other}
use Rattle.node.proofs.Rules.{first_meant}
use Rattle.expression.specs.Generation.{OperatorKind}
use Rattle.expression.specs.Generation as g

pub data Kind : ℕ → Type 0 where
  flag : Kind 0x10
  word : Kind 0x11
  level : Kind 0x12
  now : Kind 0x13
  at : Kind 0x14
  operates : {k n a t : ℕ} → OperatorKind k n a t → Kind k
  choice : Kind 0x23

-- what holds of the kind of each row that is a node's
abbrev Each : (ℕ → Type 0) → List Row → Type 0
Each P [] = Unit {0}
Each P (x ∷ xs) = ((x.rule.form ≡ 0 → ⊥) → P x.kind) × Each P xs

look_each : (P : ℕ → Type 0) (xs : List Row) (k : ℕ) → Each P xs → ((look xs k).form ≡ 0 → ⊥) → P k
unfolding look
look_each P [] k h = λ f. absurd (f refl)
look_each P (x ∷ xs) k h =
    pick_case (λ (r : Rule). (r.form ≡ 0 → ⊥) → P k) (eqb k x.kind) x.rule (look xs k)
    (λ p f. subst P (sym (eqb-true _ _ p)) (h.0 f))
    (λ p f. look_each P xs k h.1 f)

pub kind_of_lem : (k : ℕ) → ((rule_of k).form ≡ 0 → ⊥) → Kind k
unfolding rule_of rows
kind_of_lem k =
    look_each Kind rows k
    (heading, (heading, (heading, (heading, (λ _. flag, (λ _. word, (λ _. level, (λ _. now, (λ _. at, (is g.not, (is g.and, (is g.or, (λ _. choice, (is g.add_words, (is g.sub_words, (is g.ahead, (is g.less_words, (is g.equal_words, (is g.equal_flags, (is g.equal_levels, (is g.add_levels, (is g.sub_levels, (is g.mul_levels, (is g.div_levels, (is g.less_levels, tt)))))))))))))))))))))))))
  where
    heading : {k : ℕ} → (◌≡◌ {A = ℕ} 0 0 → ⊥) → Kind k
    heading f = absurd (f refl)

    is : {k n a t : ℕ} → OperatorKind k n a t → (◌≡◌ {A = ℕ} 4 0 → ⊥) → Kind k
    is o f = operates o

-- an operator of n operands of the type a with a result of the type t, by the rule of its kind
pub record Ruled (k n a t : ℕ) : Type 0 where
  pub rule : rule_of k ≡ operator n a t
  pub kinds : (0x20 ≤ k) × (k < many_kinds)
  pub one_or_two : (1 ≤ n) × (n ≤ 2)
  pub types : (a < 3) × (t < 3)

by_row : {k n a t : ℕ} → rule_of k ≡ operator n a t → ((0x20 ≤ k) × (k < many_kinds)) × (((1 ≤ n) × (n ≤ 2)) × ((a < 3) × (t < 3))) → Ruled k n a t
by_row e h = record { rule = e; kinds = h.0; one_or_two = h.1.0; types = h.1.1 }

pub rule_is : {k n a t : ℕ} → OperatorKind k n a t → Ruled k n a t
unfolding rule_of rows look
rule_is g.not = by_row refl (omega arith)
rule_is g.and = by_row refl (omega arith)
rule_is g.or = by_row refl (omega arith)
rule_is g.add_words = by_row refl (omega arith)
rule_is g.sub_words = by_row refl (omega arith)
rule_is g.ahead = by_row refl (omega arith)
rule_is g.less_words = by_row refl (omega arith)
rule_is g.equal_words = by_row refl (omega arith)
rule_is g.equal_flags = by_row refl (omega arith)
rule_is g.equal_levels = by_row refl (omega arith)
rule_is g.add_levels = by_row refl (omega arith)
rule_is g.sub_levels = by_row refl (omega arith)
rule_is g.mul_levels = by_row refl (omega arith)
rule_is g.div_levels = by_row refl (omega arith)
rule_is g.less_levels = by_row refl (omega arith)

module _ {k n a t : ℕ} (o : Ruled k n a t) where
  pub operator_node : (s : List ℕ) (place : ℕ) → node_of s k place ≡ Operator k
  operator_node s place = sym (is_other s k place (λ e. omega (arith, o.kinds)) (λ e. omega (arith, o.kinds)) (λ e. omega (arith, o.kinds)) (λ e. omega (arith, o.kinds)) (λ e. omega (arith, o.kinds)))

  pub of_type : (w : ℕ) → meant a w ≡ a
  of_type w = first_meant a w o.types.0

  pub gives_type : (w : ℕ) → meant (rule_of k).result w ≡ t
  gives_type w = rw o.rule (first_meant t w o.types.1)
