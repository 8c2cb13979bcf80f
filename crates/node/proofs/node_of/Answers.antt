-- `node::node_of` meets its contract.
-- Assumes nothing.
use mathlib.Core.Path.{◌≡◌, refl, ap, ◌∙◌}
use Prim.Native.Nat.{ℕ}
use native.Mathlib.Omega.{arith}
use borrow.Author.Rules.{sfits_of}
use mir.Syntax.{w8}
use mir.Facts.{to_z-of_z}
use Rattle.node.specs.Kinds.{rule_of, rows, look}
use Rattle.node.specs.declared.Node.TheVariants.{Constant}
use Rattle.node.proofs.Nodes.{is_16, is_17, is_18, is_19, is_20, is_other}
use Rattle.node.proofs.node_of.Goals as goal

-- the body's length at a kind that is known
body_at : (k j : ℕ) → k ≡ j → (rule_of k).body ≡ (rule_of j).body
body_at k j e = ap (λ (k : ℕ). (rule_of k).body) e

pub bounds-table-at : goal.bounds-table-at
unfolding rule_of rows look
bounds-table-at c = omega (arith, body_at _ 16 c.if-kind-eq-FLAG_KIND.true)

pub word_at-requires : goal.word_at-requires
unfolding rule_of rows look
word_at-requires c = omega (arith, body_at _ 17 c.if-kind-eq-WORD_KIND.true)

pub word_at-requires-then-kind-eq-LEVEL_KIND : goal.word_at-requires-then-kind-eq-LEVEL_KIND
unfolding rule_of rows look
word_at-requires-then-kind-eq-LEVEL_KIND c = omega (arith, body_at _ 18 c.if-kind-eq-LEVEL_KIND.true)

pub bounds-table-at-then-kind-eq-NOW_KIND : goal.bounds-table-at-then-kind-eq-NOW_KIND
unfolding rule_of rows look
bounds-table-at-then-kind-eq-NOW_KIND c = omega (arith, body_at _ 19 c.if-kind-eq-NOW_KIND.true)

pub bounds-table-at-then-kind-eq-AT_KIND : goal.bounds-table-at-then-kind-eq-AT_KIND
unfolding rule_of rows look
bounds-table-at-then-kind-eq-AT_KIND c = omega (arith, body_at _ 20 c.if-kind-eq-AT_KIND.true)

pub bounds-table-at-then-kind-eq-AT_KIND-2 : goal.bounds-table-at-then-kind-eq-AT_KIND-2
unfolding rule_of rows look
bounds-table-at-then-kind-eq-AT_KIND-2 c = omega (arith, body_at _ 20 c.if-kind-eq-AT_KIND.true)

pub word_at-requires-then-kind-eq-AT_KIND : goal.word_at-requires-then-kind-eq-AT_KIND
unfolding rule_of rows look
word_at-requires-then-kind-eq-AT_KIND c = omega (arith, body_at _ 20 c.if-kind-eq-AT_KIND.true)

pub returns-then-kind-eq-FLAG_KIND : goal.returns-then-kind-eq-FLAG_KIND
returns-then-kind-eq-FLAG_KIND c = ap (Constant 0) c.from.ensures ∙ is_16 _ _ _ c.if-kind-eq-FLAG_KIND.true

pub returns-then-kind-eq-WORD_KIND : goal.returns-then-kind-eq-WORD_KIND
returns-then-kind-eq-WORD_KIND c = ap (Constant 1) c.word_at.ensures ∙ is_17 _ _ _ c.if-kind-eq-WORD_KIND.true

pub returns-then-kind-eq-LEVEL_KIND : goal.returns-then-kind-eq-LEVEL_KIND
returns-then-kind-eq-LEVEL_KIND c = ap (Constant 2) c.word_at-then-kind-eq-LEVEL_KIND.ensures ∙ is_18 _ _ _ c.if-kind-eq-LEVEL_KIND.true

pub returns-then-kind-eq-NOW_KIND : goal.returns-then-kind-eq-NOW_KIND
returns-then-kind-eq-NOW_KIND c = is_19 _ _ _ c.if-kind-eq-NOW_KIND.true

pub returns-then-kind-eq-AT_KIND : goal.returns-then-kind-eq-AT_KIND
returns-then-kind-eq-AT_KIND c = is_20 _ _ _ c.if-kind-eq-AT_KIND.true refl (to_z-of_z {w = w8} (sfits_of c.signed_of.type_inv) ∙ c.signed_of.ensures) c.word_at-then-kind-eq-AT_KIND.ensures

pub returns-else-kind-eq-AT_KIND : goal.returns-else-kind-eq-AT_KIND
returns-else-kind-eq-AT_KIND c = is_other _ _ _ c.if-kind-eq-FLAG_KIND.false c.if-kind-eq-WORD_KIND.false c.if-kind-eq-LEVEL_KIND.false c.if-kind-eq-NOW_KIND.false c.if-kind-eq-AT_KIND.false
