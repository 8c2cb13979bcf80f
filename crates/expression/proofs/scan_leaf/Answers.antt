-- `scan_leaf`: its body is missing, or the node as it is read.
-- Assumes nothing.
use mathlib.Core.List.{List}
use mathlib.Core.Path.{◌≡◌, refl, ap, sym, ◌∙◌}
use Prim.Native.Nat.{ℕ, ◌+◌, ◌≤◌}
use lib.ListN.{length}
use mir.Syntax.{w8}
use mir.Val.{SFits}
use mir.Facts.{to_z-of_z}
use native.Mathlib.Omega.{arith}
use borrow.Author.Rules.{rules}
use Rattle.node.specs.declared.Node.{Node}
use Rattle.node.specs.Kinds.{rule_of}
use Rattle.node.proofs.Standing.{body_found}
use Rattle.expression.specs.Grammar.{parse}
use Rattle.expression.specs.Scanning.{LeafNoted, Scanning}
use Rattle.expression.proofs.Leaves.{leaf_within, leaf_named, leaf_whole, leaf_room, leaf_missing, leaf_read, leaf_is, constant_leaf, operator_leaf}
use Rattle.expression.proofs.Scan.{refused_here, leaf_scans}
use Rattle.expression.proofs.scan_leaf.Goals as goal
use Rattle.expression.proofs.scan_leaf.Goals.{After-from-2}

-- ---- once the node is read

whole : (c : After-from-2) → c.args.at + 1 + c.from-2.result ≤ length c.args.table.now
whole c = leaf_whole c.args.table.now c.args.at c.requires.1 (body_found _ _ _ c.from-2.ensures c.leaf_body.ensures c.node_of-node.ensures c.requires.1)
    (leaf_room c.args.table.now c.args.at c.requires.1 (c.body_of-body.ensures.0 ∙ ap (λ (n : ℕ). (rule_of n).body) c.from.ensures) c.if-table-start.false)

-- what is answered and noted of the node is what the grammar says of the place
scans : (c : After-from-2) (l : ℕ) (ts : List ℕ) {node : Node} {seen : List (List ℕ)} {r : ℕ} → c.node_of-node.result ≡ node → LeafNoted node c.args.wanted c.args.at (c.args.at + 1 + c.from-2.result) ts c.args.seen.now seen r
    → Scanning (parse (l + 1) ts c.args.table.now c.args.wanted c.args.at) c.args.table.now ts c.args.seen.now seen r
scans c l ts is x =
    let b = body_found _ _ _ c.from-2.ensures c.leaf_body.ensures c.node_of-node.ensures c.requires.1 in
    let e = c.body_of-body.ensures.0 ∙ ap (λ (n : ℕ). (rule_of n).body) c.from.ensures in
    let n = sym c.node_of-node.ensures ∙ is in
    leaf_scans l ts _ _ _ (leaf_read c.args.table.now c.args.at c.requires.1 b (leaf_room c.args.table.now c.args.at c.requires.1 e c.if-table-start.false) n)
    (leaf_is c.args.table.now c.args.at c.requires.1 n) (omega (arith, leaf_within c.args.table.now c.args.at c.requires.1)) (whole c) x

pub bounds-table-at : goal.bounds-table-at
bounds-table-at c = leaf_within c.args.table.now c.args.at c.requires.1

pub overflow_add-start : goal.overflow_add-start
overflow_add-start c = omega (arith, leaf_within c.args.table.now c.args.at c.requires.1)

pub body_of-body-requires : goal.body_of-body-requires
body_of-body-requires c = (rw c.from.ensures (leaf_named c.args.table.now c.args.at c.requires.1).0, c.requires.0.tabulated)

pub overflow_sub-table : goal.overflow_sub-table
overflow_sub-table c = omega (arith, leaf_within c.args.table.now c.args.at c.requires.1)

pub refused-requires : goal.refused-requires
refused-requires c = omega (arith, leaf_within c.args.table.now c.args.at c.requires.1, c.requires.0.few)

pub returns-then-table-start : goal.returns-then-table-start
returns-then-table-start c = λ ts l x.
    let e = c.body_of-body.ensures.0 ∙ ap (λ (n : ℕ). (rule_of n).body) c.from.ensures in
    rw c.refused.ensures
    (refused_here (l + 1) ts _ _ _ (λ j h g. refl) x (omega (arith, leaf_within c.args.table.now c.args.at c.requires.1))
    (leaf_missing c.args.table.now c.args.at c.requires.1 e (l + 1) ts _ c.if-table-start.true) (omega arith) (omega arith))

pub node_of-node-requires : goal.node_of-node-requires
node_of-node-requires c = leaf_room c.args.table.now c.args.at c.requires.1 (c.body_of-body.ensures.0 ∙ ap (λ (n : ℕ). (rule_of n).body) c.from.ensures) c.if-table-start.false

pub overflow_add-next : goal.overflow_add-next
overflow_add-next c = omega (arith, whole c)

pub scan_constant-requires : goal.scan_constant-requires
scan_constant-requires c = let n = whole (goal.at.scan_constant-requires c).After-from-2 in (omega (arith, n, c.requires.0.few), omega (arith, n, c.requires.0.few))

pub scan_now-requires : goal.scan_now-requires
scan_now-requires c = let n = whole (goal.at.scan_now-requires c).After-from-2 in (c.requires.0.wants, omega (arith, n, c.requires.0.few), omega (arith, n, c.requires.0.few))

pub scan_at-requires : goal.scan_at-requires
scan_at-requires c = let n = whole (goal.at.scan_at-requires c).After-from-2 in (c.requires.0.wants, omega (arith, n, c.requires.0.few), omega (arith, n, c.requires.0.few))

pub refused-requires-in-Operator : goal.refused-requires-in-Operator
refused-requires-in-Operator c = omega (arith, leaf_within c.args.table.now c.args.at c.requires.1, c.requires.0.few)

pub returns-in-Constant : goal.returns-in-Constant
returns-in-Constant c = λ ts l x. scans (goal.at.returns-in-Constant c).After-from-2 l ts c.in-Constant.is (constant_leaf (c.scan_constant.ensures ts) x)

pub returns-in-Now : goal.returns-in-Now
returns-in-Now c = λ ts l x. scans (goal.at.returns-in-Now c).After-from-2 l ts c.in-Now.is (c.scan_now.ensures ts x)

pub returns-in-At : goal.returns-in-At
returns-in-At c = λ ts l x. scans (goal.at.returns-in-At c).After-from-2 l ts c.in-At.is (let fits : SFits w8 c.in-At.k = search rules in rw (to_z-of_z fits) at (c.scan_at.ensures ts x))

pub returns-in-Operator : goal.returns-in-Operator
returns-in-Operator c = operator_leaf _ (leaf_is c.args.table.now c.args.at c.requires.1 (sym c.node_of-node.ensures ∙ c.in-Operator.is))
