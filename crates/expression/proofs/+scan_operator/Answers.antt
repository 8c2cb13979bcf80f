-- `scan_operator` meets its contract. The levels left fall with each call of itself.
-- Assumes nothing.
use Rattle.std.proofs.Common.{◌≡◌, List, ℕ, ◌+◌, ◌-◌, ◌<◌, refl, sym, ◌∙◌, arith}
use borrow.Author.Tests.{leb-true, leb-false}
use Rattle.node.specs.Kinds.{rest_of}
use Rattle.expression.specs.Grammar.{Parsed, parse}
use Rattle.expression.specs.Seen.{Seen}
use Rattle.expression.specs.Scanning.{places, CanScan, Scanning}
use Rattle.expression.proofs.Scan.{scan_ended}
use Rattle.expression.proofs.Operators.{none_here, strange_here, other_here, Here, here, can_first, can_rest, one_gives, first_gives, two_give, second_gives, three_give, deep_gives, at_level}
use Rattle.expression.proofs.+scan_operator.Goals as goal
use Rattle.expression.proofs.+scan_operator.Goals.{After-operand_of-first, Joined-leaf_stands, Else-refuses, Joined-leaf_stands-2, Else-refuses-2}
use Rattle.expression.proofs.+scan_operator.Goals.{then-leaf_stands, else-leaf_stands, then-operands-eq1-via-then-operands-eq1, then-operands-eq1-via-else-operands-eq1+then-refuses}
use Rattle.expression.proofs.+scan_operator.Goals.{then-leaf_stands-2, else-leaf_stands-2, then-operands-eq2-via-then-operands-eq2, then-operands-eq2-via-else-operands-eq2+then-refuses-2}

-- the next operand can be scanned where the scan of the one before ended
can_next : {kinds seen before after : List (List ℕ)} {s : List ℕ} {l w at op operands first rest next behind : ℕ} {p : Parsed} (c : CanScan kinds seen s w at) → Here l c.types s w at op operands first → Scanning p s c.types before after next → next < places → rest ≡ rest_of operands first w → behind ≡ next → CanScan kinds after s rest behind
can_next c h x small e b = rw b (can_rest h c.wants c x.left e (scan_ended c.few x small).behind)

-- ---- what is known once the operator is read

is_here : (t : ℕ) (c : After-operand_of-first t) → (ts : List ℕ) → Here c.args.levels ts c.args.table.now c.args.wanted c.args.at c.from-op.result c.operands_of-operands.result c.operand_of-first.result
is_here t c = λ ts. here _ ts _ _ _ c.requires.1.0 c.requires.1.1 c.requires.0.wants c.if-table-at.false c.from-op.ensures c.if-op-ge-KINDS_MOST.false c.results_of-results.ensures c.if-results-wanted-eq0.false c.operands_of-operands.ensures c.operand_of-first.ensures

-- ---- once its first operand is read

first_scan : (t : ℕ) (c : Joined-leaf_stands t) → (ts : List ℕ) → Seen ts c.args.seen.now → Scanning (parse (c.args.levels - 1) ts c.args.table.now c.operand_of-first.result (c.args.at + 1)) c.args.table.now ts c.args.seen.now c.if-leaf_stands.seen c.if-leaf_stands.second.code
first_scan t c = λ ts x. elim c.if-leaf_stands.branch [
  | then-leaf_stands w ↦ rw (w.seen-is, w.second-is) (at_level _ _ _ (omega arith) (λ m. w.scan_leaf-second.ensures ts m x))
  | else-leaf_stands w ↦ rw (w.seen-is, w.second-is) (w.scan_operator-second.ensures ts x)
]

second_small : (t : ℕ) (c : Else-refuses t) → c.if-leaf_stands.second.code < places
second_small t c = leb-false _ _ (sym c.refuses.ensures ∙ c.if-refuses.false)

-- ---- once its second operand is read

second_scan : (t : ℕ) (c : Joined-leaf_stands-2 t) → (ts : List ℕ) → Seen ts c.if-leaf_stands.seen → Scanning (parse (c.args.levels - 1) ts c.args.table.now c.rest_type-rest.result c.if-leaf_stands.second.code) c.args.table.now ts c.if-leaf_stands.seen c.if-leaf_stands-2.seen c.if-leaf_stands-2.third.code
second_scan t c = λ ts x. elim c.if-leaf_stands-2.branch [
  | then-leaf_stands-2 w ↦ rw (w.seen-is, w.third-is, ← w.place-then-leaf_stands-2.ensures) (at_level _ _ _ (omega arith) (λ m. w.scan_leaf-third.ensures ts m x))
  | else-leaf_stands-2 w ↦ rw (w.seen-is, w.third-is, ← w.place-else-leaf_stands-2.ensures) (w.scan_operator-third.ensures ts x)
]

third_small : (t : ℕ) (c : Else-refuses-2 t) → c.if-leaf_stands-2.third.code < places
third_small t c = leb-false _ _ (sym c.refuses-else-operands-eq2.ensures ∙ c.if-refuses-2.false)

pub refused-requires : goal.refused-requires
refused-requires t c = omega (arith, c.requires.0.place, c.requires.0.few)

pub returns-then-table-at : goal.returns-then-table-at
returns-then-table-at t c = λ ts x. rw c.refused.ensures (none_here _ ts _ _ _ x c.requires.0.place c.if-table-at.true)

pub refused-requires-then-op-ge-KINDS_MOST : goal.refused-requires-then-op-ge-KINDS_MOST
refused-requires-then-op-ge-KINDS_MOST t c = omega (arith, c.requires.0.place, c.requires.0.few)

pub returns-then-op-ge-KINDS_MOST : goal.returns-then-op-ge-KINDS_MOST
returns-then-op-ge-KINDS_MOST t c = λ ts x. rw c.refused-then-op-ge-KINDS_MOST.ensures (strange_here _ ts _ _ _ x c.requires.0.place c.if-table-at.false c.from-op.ensures c.if-op-ge-KINDS_MOST.true)

pub results_of-results-requires : goal.results_of-results-requires
results_of-results-requires t c = (c.if-op-ge-KINDS_MOST.false, c.requires.0.tabulated)

pub overflow_shr-results : goal.overflow_shr-results
overflow_shr-results t c = omega (arith, c.requires.0.wants)

pub refused-requires-then-results-wanted-eq0 : goal.refused-requires-then-results-wanted-eq0
refused-requires-then-results-wanted-eq0 t c = omega (arith, c.requires.0.place, c.requires.0.few)

pub returns-then-results-wanted-eq0 : goal.returns-then-results-wanted-eq0
returns-then-results-wanted-eq0 t c = λ ts x. rw (c.refused-then-results-wanted-eq0.ensures, c.result_fault.ensures) (other_here _ ts _ _ _ x c.requires.0.place c.if-table-at.false c.from-op.ensures c.requires.1.0 c.requires.1.1 c.requires.0.wants c.if-op-ge-KINDS_MOST.false c.results_of-results.ensures c.if-results-wanted-eq0.true)

pub deep_fault-requires : goal.deep_fault-requires
deep_fault-requires t c = c.requires.0.tabulated

pub refused-requires-then-levels-eq1 : goal.refused-requires-then-levels-eq1
refused-requires-then-levels-eq1 t c = omega (arith, c.if-table-at.false, c.requires.0.few)

pub returns-then-levels-eq1 : goal.returns-then-levels-eq1
returns-then-levels-eq1 t c = λ ts x. rw c.refused-then-levels-eq1.ensures (deep_gives (here _ ts _ _ _ c.requires.1.0 c.requires.1.1 c.requires.0.wants c.if-table-at.false c.from-op.ensures c.if-op-ge-KINDS_MOST.false c.results_of-results.ensures c.if-results-wanted-eq0.false refl refl) c.requires.0.wants c.if-levels-eq1.true c.deep_fault.ensures x)

pub operands_of-operands-requires : goal.operands_of-operands-requires
operands_of-operands-requires t c = (c.if-op-ge-KINDS_MOST.false, c.requires.0.tabulated)

pub operand_of-first-requires : goal.operand_of-first-requires
operand_of-first-requires t c = (c.if-op-ge-KINDS_MOST.false, c.requires.0.tabulated)

pub scan_leaf-second-requires : goal.scan_leaf-second-requires
scan_leaf-second-requires t c = (can_first (is_here t (goal.at.scan_leaf-second-requires t c).After-operand_of-first c.requires.0.types) c.requires.0.wants c.requires.0 c.requires.0.rows, sym c.leaf_stands.ensures ∙ c.if-leaf_stands.true)

pub scan_operator-second-requires : goal.scan_operator-second-requires
scan_operator-second-requires t c = (omega (arith, c.decreases, c.requires.1.1), (can_first (is_here t (goal.at.scan_operator-second-requires t c).After-operand_of-first c.requires.0.types) c.requires.0.wants c.requires.0 c.requires.0.rows, (sym c.leaf_stands.ensures ∙ c.if-leaf_stands.false, omega arith)))

pub returns-then-operands-eq1 : goal.returns-then-operands-eq1
returns-then-operands-eq1 t c = λ ts x.
    let h = is_here t (goal.at.returns-then-operands-eq1 t c).After-operand_of-first ts in
    let one = first_scan t (goal.at.returns-then-operands-eq1 t c).Joined-leaf_stands ts x in
    elim c.then-operands-eq1.branch [
      | then-operands-eq1-via-then-operands-eq1 w ↦ one_gives h c.requires.0.wants c.requires.0.few one w.if-operands-eq1.true
      | then-operands-eq1-via-else-operands-eq1+then-refuses w ↦ first_gives h c.requires.0.wants c.requires.0.few one (leb-true _ _ (sym w.refuses.ensures ∙ w.if-refuses.true))
    ]

pub scan_leaf-third-requires : goal.scan_leaf-third-requires
scan_leaf-third-requires t c =
    let one = first_scan t (goal.at.scan_leaf-third-requires t c).Joined-leaf_stands c.requires.0.types c.requires.0.rows in
    let can = can_next c.requires.0 (is_here t (goal.at.scan_leaf-third-requires t c).After-operand_of-first c.requires.0.types) one (second_small t (goal.at.scan_leaf-third-requires t c).Else-refuses) c.rest_type-rest.ensures c.place-then-leaf_stands-2.ensures in
    (can, rw (c.place-then-leaf_stands-2.ensures ∙ sym c.place.ensures) (sym c.leaf_stands-2.ensures ∙ c.if-leaf_stands-2.true))

pub scan_operator-third-requires : goal.scan_operator-third-requires
scan_operator-third-requires t c =
    let one = first_scan t (goal.at.scan_operator-third-requires t c).Joined-leaf_stands c.requires.0.types c.requires.0.rows in
    let can = can_next c.requires.0 (is_here t (goal.at.scan_operator-third-requires t c).After-operand_of-first c.requires.0.types) one (second_small t (goal.at.scan_operator-third-requires t c).Else-refuses) c.rest_type-rest.ensures c.place-else-leaf_stands-2.ensures in
    (omega (arith, c.decreases, c.requires.1.1), (can, (rw (c.place-else-leaf_stands-2.ensures ∙ sym c.place.ensures) (sym c.leaf_stands-2.ensures ∙ c.if-leaf_stands-2.false), omega arith)))

pub returns-then-operands-eq2 : goal.returns-then-operands-eq2
returns-then-operands-eq2 t c = λ ts x.
    let h = is_here t (goal.at.returns-then-operands-eq2 t c).After-operand_of-first ts in
    let one = first_scan t (goal.at.returns-then-operands-eq2 t c).Joined-leaf_stands ts x in
    let two = second_scan t (goal.at.returns-then-operands-eq2 t c).Joined-leaf_stands-2 ts one.left in
    let small = second_small t (goal.at.returns-then-operands-eq2 t c).Else-refuses in
    elim c.then-operands-eq2.branch [
      | then-operands-eq2-via-then-operands-eq2 w ↦ two_give h c.requires.0.wants c.requires.0.few one c.rest_type-rest.ensures small c.if-operands-eq1.false two w.if-operands-eq2.true
      | then-operands-eq2-via-else-operands-eq2+then-refuses-2 w ↦ second_gives h c.requires.0.wants c.requires.0.few one c.rest_type-rest.ensures small c.if-operands-eq1.false two (leb-true _ _ (sym w.refuses-else-operands-eq2.ensures ∙ w.if-refuses-2.true))
    ]

pub scan_leaf-requires : goal.scan_leaf-requires
scan_leaf-requires t c =
    let one = first_scan t (goal.at.scan_leaf-requires t c).Joined-leaf_stands c.requires.0.types c.requires.0.rows in
    let two = second_scan t (goal.at.scan_leaf-requires t c).Joined-leaf_stands-2 c.requires.0.types one.left in
    let can = can_next c.requires.0 (is_here t (goal.at.scan_leaf-requires t c).After-operand_of-first c.requires.0.types) two (third_small t (goal.at.scan_leaf-requires t c).Else-refuses-2) c.rest_type-rest.ensures c.place-then-leaf_stands-3.ensures in
    (can, rw (c.place-then-leaf_stands-3.ensures ∙ sym c.place-2.ensures) (sym c.leaf_stands-3.ensures ∙ c.if-leaf_stands-3.true))

pub scan_operator-requires : goal.scan_operator-requires
scan_operator-requires t c =
    let one = first_scan t (goal.at.scan_operator-requires t c).Joined-leaf_stands c.requires.0.types c.requires.0.rows in
    let two = second_scan t (goal.at.scan_operator-requires t c).Joined-leaf_stands-2 c.requires.0.types one.left in
    let can = can_next c.requires.0 (is_here t (goal.at.scan_operator-requires t c).After-operand_of-first c.requires.0.types) two (third_small t (goal.at.scan_operator-requires t c).Else-refuses-2) c.rest_type-rest.ensures c.place-else-leaf_stands-3.ensures in
    (omega (arith, c.decreases, c.requires.1.1), (can, (rw (c.place-else-leaf_stands-3.ensures ∙ sym c.place-2.ensures) (sym c.leaf_stands-3.ensures ∙ c.if-leaf_stands-3.false), omega arith)))

pub returns-then-leaf_stands-3 : goal.returns-then-leaf_stands-3
returns-then-leaf_stands-3 t c = λ ts x.
    let h = is_here t (goal.at.returns-then-leaf_stands-3 t c).After-operand_of-first ts in
    let one = first_scan t (goal.at.returns-then-leaf_stands-3 t c).Joined-leaf_stands ts x in
    let two = second_scan t (goal.at.returns-then-leaf_stands-3 t c).Joined-leaf_stands-2 ts one.left in
    three_give h c.requires.0.wants c.requires.0.few one c.rest_type-rest.ensures (second_small t (goal.at.returns-then-leaf_stands-3 t c).Else-refuses) c.if-operands-eq1.false two (third_small t (goal.at.returns-then-leaf_stands-3 t c).Else-refuses-2) c.if-operands-eq2.false
    (at_level _ _ _ (omega arith) (λ m. rw (← c.place-then-leaf_stands-3.ensures) (c.scan_leaf.ensures ts m two.left)))

pub returns-else-leaf_stands-3 : goal.returns-else-leaf_stands-3
returns-else-leaf_stands-3 t c = λ ts x.
    let h = is_here t (goal.at.returns-else-leaf_stands-3 t c).After-operand_of-first ts in
    let one = first_scan t (goal.at.returns-else-leaf_stands-3 t c).Joined-leaf_stands ts x in
    let two = second_scan t (goal.at.returns-else-leaf_stands-3 t c).Joined-leaf_stands-2 ts one.left in
    three_give h c.requires.0.wants c.requires.0.few one c.rest_type-rest.ensures (second_small t (goal.at.returns-else-leaf_stands-3 t c).Else-refuses) c.if-operands-eq1.false two (third_small t (goal.at.returns-else-leaf_stands-3 t c).Else-refuses-2) c.if-operands-eq2.false
    (rw (← c.place-else-leaf_stands-3.ensures) (c.scan_operator.ensures ts two.left))
