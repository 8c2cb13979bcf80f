-- `node_near`, kind by kind.
-- Assumes nothing.
use mathlib.Core.Path.{ap, ◌∙◌}
use borrow.Author.Rules.{sfits_of}
use mir.Syntax.{w8}
use mir.Facts.{to_z-of_z}
use Rattle.node.specs.Node.{signed_of}
use Rattle.node.specs.declared.Node.TheVariants.{Constant, Now}
use Rattle.node.proofs.Nodes.{is_16, is_17, is_18, is_19, is_20, is_other}
use Rattle.node.proofs.node_near.Goals as goal

pub returns-then-kind-eq-FLAG_KIND : goal.returns-then-kind-eq-FLAG_KIND
returns-then-kind-eq-FLAG_KIND c = ap (Constant 0) (c.from.ensures ∙ c.byte_near.ensures) ∙ is_16 _ _ _ c.if-kind-eq-FLAG_KIND.true

pub returns-then-kind-eq-WORD_KIND : goal.returns-then-kind-eq-WORD_KIND
returns-then-kind-eq-WORD_KIND c = ap (Constant 1) c.word_near.ensures ∙ is_17 _ _ _ c.if-kind-eq-WORD_KIND.true

pub returns-then-kind-eq-LEVEL_KIND : goal.returns-then-kind-eq-LEVEL_KIND
returns-then-kind-eq-LEVEL_KIND c = ap (Constant 2) c.word_near-then-kind-eq-LEVEL_KIND.ensures ∙ is_18 _ _ _ c.if-kind-eq-LEVEL_KIND.true

pub returns-then-kind-eq-NOW_KIND : goal.returns-then-kind-eq-NOW_KIND
returns-then-kind-eq-NOW_KIND c = ap Now c.byte_near-then-kind-eq-NOW_KIND.ensures ∙ is_19 _ _ _ c.if-kind-eq-NOW_KIND.true

pub returns-then-kind-eq-AT_KIND : goal.returns-then-kind-eq-AT_KIND
returns-then-kind-eq-AT_KIND c = is_20 _ _ _ c.if-kind-eq-AT_KIND.true c.byte_near-then-kind-eq-AT_KIND.ensures (to_z-of_z {w = w8} (sfits_of c.signed_of.type_inv) ∙ c.signed_of.ensures ∙ ap signed_of c.byte_near-then-kind-eq-AT_KIND-2.ensures) c.word_near-then-kind-eq-AT_KIND.ensures

pub returns-else-kind-eq-AT_KIND : goal.returns-else-kind-eq-AT_KIND
returns-else-kind-eq-AT_KIND c = is_other _ _ _ c.if-kind-eq-FLAG_KIND.false c.if-kind-eq-WORD_KIND.false c.if-kind-eq-LEVEL_KIND.false c.if-kind-eq-NOW_KIND.false c.if-kind-eq-AT_KIND.false
