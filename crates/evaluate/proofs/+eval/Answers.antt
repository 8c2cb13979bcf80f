-- `evaluate::eval` meets its contract, by the levels left: one operand after the other as the grammar reads them, each with operands of its
-- own or without. Assumes nothing.
use mathlib.Core.Path.{◌≡◌, sym, ap, ◌∙◌}
use mathlib.Core.Bool.{Bool, true, false}
use mathlib.Core.List.{List}
use native.Mathlib.Omega.{arith}
use Prim.Native.Nat.{ℕ, ◌+◌, ◌-◌}
use lib.ListN.{length, get_or}
use Rattle.store.specs.declared.Frame.{Frame}
use Rattle.store.proofs.Places.{all_lent}
use Rattle.node.specs.Kinds.{rule_of}
use Rattle.node.specs.Node.{is_leaf_of, standing}
use Rattle.evaluate.specs.Evaluation.{Readable, Evaluates, LeafStands, OperatorStands}
use Rattle.evaluate.proofs.Heads.{standing_at, low_kind}
use Rattle.evaluate.proofs.Operands.{evaluates_on, readable_on, first_readable, second_readable, third_readable, one_gives, two_give, three_give}
use Rattle.evaluate.proofs.+eval.Goals as goal
use Rattle.evaluate.proofs.+eval.Goals.{then-is_leaf, else-is_leaf, then-is_leaf-2, else-is_leaf-2, then-is_leaf-3, else-is_leaf-3, then-operands-ne1+else-operands-eq3, else-operands-ne1}

-- an operand without operands of its own, and one with: the part of the store that is handed on is all of it
leaf_stands : {l : ℕ} {frame : Frame} {st held s : List ℕ} {place : ℕ} {b : Bool} → held ≡ st → Readable l frame (length st) s place → b ≡ is_leaf_of (standing s place) → b ≡ true → LeafStands frame (length held) s place
leaf_stands {l} e x is h = record { levels = l; readable = readable_on e x; leaf = sym is ∙ h }

operator_stands : {l : ℕ} {frame : Frame} {st held s : List ℕ} {place : ℕ} {b : Bool} → held ≡ st → Readable l frame (length st) s place → b ≡ is_leaf_of (standing s place) → b ≡ false → OperatorStands l frame (length held) s place
operator_stands e x is h = record { readable = readable_on e x; operator = sym is ∙ h }

pub slice_bounds-held-end : goal.slice_bounds-held-end
slice_bounds-held-end t c = omega (arith, c.requires.1.readable.turn.lent, ap length (all_lent c.args.store.now c.requires.1.readable.turn.lent))

pub bounds-bytes-at : goal.bounds-bytes-at
bounds-bytes-at t c = (standing_at c.requires.1.readable).inside

pub operands_of-operands-requires : goal.operands_of-operands-requires
operands_of-operands-requires t c = (rw c.from.ensures (low_kind c.requires.1.readable), c.requires.0)

pub overflow_sub-left : goal.overflow_sub-left
overflow_sub-left t c = omega (arith, (standing_at c.requires.1.readable).level)

pub overflow_add-at : goal.overflow_add-at
overflow_add-at t c = omega (arith, (standing_at c.requires.1.readable).inside, c.well_formed)

pub overflow_add-at-then-is_leaf : goal.overflow_add-at-then-is_leaf
overflow_add-at-then-is_leaf t c = omega (arith, (standing_at c.requires.1.readable).inside, c.well_formed)

pub overflow_add-at-else-is_leaf : goal.overflow_add-at-else-is_leaf
overflow_add-at-else-is_leaf t c = omega (arith, (standing_at c.requires.1.readable).inside, c.well_formed)

pub is_leaf-requires : goal.is_leaf-requires
is_leaf-requires t c =
    let here = first_readable c.args.store.now c.requires.1.readable c.requires.1.operator in
    (standing_at here).body

pub leaf-one-requires : goal.leaf-one-requires
leaf-one-requires t c =
    let held = all_lent c.args.store.now c.requires.1.readable.turn.lent in
    let here = first_readable c.args.store.now c.requires.1.readable c.requires.1.operator in
    leaf_stands held here c.is_leaf.ensures c.if-is_leaf.true

pub eval-one-requires : goal.eval-one-requires
eval-one-requires t c =
    let held = all_lent c.args.store.now c.requires.1.readable.turn.lent in
    let here = first_readable c.args.store.now c.requires.1.readable c.requires.1.operator in
    (omega (arith, (standing_at c.requires.1.readable).level, c.decreases), (c.requires.0, operator_stands held here c.is_leaf.ensures c.if-is_leaf.false))

pub is_leaf-requires-then-operands-ne1 : goal.is_leaf-requires-then-operands-ne1
is_leaf-requires-then-operands-ne1 t c =
    let held = all_lent c.args.store.now c.requires.1.readable.turn.lent in
    let operands : c.operands_of-operands.result ≡ (rule_of (get_or c.args.bytes.now c.args.at 0)).operands = rw c.from.ensures at c.operands_of-operands.ensures in
    let first : Evaluates (c.args.levels - 1) c.args.frame.now c.args.store.now c.args.bytes.now (c.args.at + 1) c.if-is_leaf.one = elim c.if-is_leaf.branch [
      | then-is_leaf y ↦ evaluates_on (c.args.levels - 1) c.args.frame.now c.args.store.now c.args.bytes.now (c.args.at + 1) held y.one-is (y.leaf-one.ensures (c.args.levels - 1))
      | else-is_leaf y ↦ evaluates_on (c.args.levels - 1) c.args.frame.now c.args.store.now c.args.bytes.now (c.args.at + 1) held y.one-is y.eval-one.ensures
    ] in
    let many = λ (e : (rule_of (get_or c.args.bytes.now c.args.at 0)).operands ≡ 1). c.if-operands-ne1.true (operands ∙ e) in
    let here = second_readable c.args.store.now c.requires.1.readable c.requires.1.operator first many in
    (standing_at here).body

pub leaf-two-requires : goal.leaf-two-requires
leaf-two-requires t c =
    let held = all_lent c.args.store.now c.requires.1.readable.turn.lent in
    let operands : c.operands_of-operands.result ≡ (rule_of (get_or c.args.bytes.now c.args.at 0)).operands = rw c.from.ensures at c.operands_of-operands.ensures in
    let first : Evaluates (c.args.levels - 1) c.args.frame.now c.args.store.now c.args.bytes.now (c.args.at + 1) c.if-is_leaf.one = elim c.if-is_leaf.branch [
      | then-is_leaf y ↦ evaluates_on (c.args.levels - 1) c.args.frame.now c.args.store.now c.args.bytes.now (c.args.at + 1) held y.one-is (y.leaf-one.ensures (c.args.levels - 1))
      | else-is_leaf y ↦ evaluates_on (c.args.levels - 1) c.args.frame.now c.args.store.now c.args.bytes.now (c.args.at + 1) held y.one-is y.eval-one.ensures
    ] in
    let many = λ (e : (rule_of (get_or c.args.bytes.now c.args.at 0)).operands ≡ 1). c.if-operands-ne1.true (operands ∙ e) in
    let here = second_readable c.args.store.now c.requires.1.readable c.requires.1.operator first many in
    leaf_stands held here c.is_leaf-then-operands-ne1.ensures c.if-is_leaf-2.true

pub eval-two-requires : goal.eval-two-requires
eval-two-requires t c =
    let held = all_lent c.args.store.now c.requires.1.readable.turn.lent in
    let operands : c.operands_of-operands.result ≡ (rule_of (get_or c.args.bytes.now c.args.at 0)).operands = rw c.from.ensures at c.operands_of-operands.ensures in
    let first : Evaluates (c.args.levels - 1) c.args.frame.now c.args.store.now c.args.bytes.now (c.args.at + 1) c.if-is_leaf.one = elim c.if-is_leaf.branch [
      | then-is_leaf y ↦ evaluates_on (c.args.levels - 1) c.args.frame.now c.args.store.now c.args.bytes.now (c.args.at + 1) held y.one-is (y.leaf-one.ensures (c.args.levels - 1))
      | else-is_leaf y ↦ evaluates_on (c.args.levels - 1) c.args.frame.now c.args.store.now c.args.bytes.now (c.args.at + 1) held y.one-is y.eval-one.ensures
    ] in
    let many = λ (e : (rule_of (get_or c.args.bytes.now c.args.at 0)).operands ≡ 1). c.if-operands-ne1.true (operands ∙ e) in
    let here = second_readable c.args.store.now c.requires.1.readable c.requires.1.operator first many in
    (omega (arith, (standing_at c.requires.1.readable).level, c.decreases), (c.requires.0, operator_stands held here c.is_leaf-then-operands-ne1.ensures c.if-is_leaf-2.false))

pub is_leaf-requires-then-operands-eq3 : goal.is_leaf-requires-then-operands-eq3
is_leaf-requires-then-operands-eq3 t c =
    let held = all_lent c.args.store.now c.requires.1.readable.turn.lent in
    let operands : c.operands_of-operands.result ≡ (rule_of (get_or c.args.bytes.now c.args.at 0)).operands = rw c.from.ensures at c.operands_of-operands.ensures in
    let first : Evaluates (c.args.levels - 1) c.args.frame.now c.args.store.now c.args.bytes.now (c.args.at + 1) c.if-is_leaf.one = elim c.if-is_leaf.branch [
      | then-is_leaf y ↦ evaluates_on (c.args.levels - 1) c.args.frame.now c.args.store.now c.args.bytes.now (c.args.at + 1) held y.one-is (y.leaf-one.ensures (c.args.levels - 1))
      | else-is_leaf y ↦ evaluates_on (c.args.levels - 1) c.args.frame.now c.args.store.now c.args.bytes.now (c.args.at + 1) held y.one-is y.eval-one.ensures
    ] in
    let many = λ (e : (rule_of (get_or c.args.bytes.now c.args.at 0)).operands ≡ 1). c.if-operands-ne1.true (operands ∙ e) in
    let second : Evaluates (c.args.levels - 1) c.args.frame.now c.args.store.now c.args.bytes.now c.if-is_leaf.one.next c.if-is_leaf-2.two = elim c.if-is_leaf-2.branch [
      | then-is_leaf-2 y ↦ evaluates_on (c.args.levels - 1) c.args.frame.now c.args.store.now c.args.bytes.now c.if-is_leaf.one.next held y.two-is (y.leaf-two.ensures (c.args.levels - 1))
      | else-is_leaf-2 y ↦ evaluates_on (c.args.levels - 1) c.args.frame.now c.args.store.now c.args.bytes.now c.if-is_leaf.one.next held y.two-is y.eval-two.ensures
    ] in
    let three = sym operands ∙ c.if-operands-eq3.true in
    let here = third_readable c.args.store.now c.requires.1.readable c.requires.1.operator first many second three in
    (standing_at here).body

pub leaf-three-requires : goal.leaf-three-requires
leaf-three-requires t c =
    let held = all_lent c.args.store.now c.requires.1.readable.turn.lent in
    let operands : c.operands_of-operands.result ≡ (rule_of (get_or c.args.bytes.now c.args.at 0)).operands = rw c.from.ensures at c.operands_of-operands.ensures in
    let first : Evaluates (c.args.levels - 1) c.args.frame.now c.args.store.now c.args.bytes.now (c.args.at + 1) c.if-is_leaf.one = elim c.if-is_leaf.branch [
      | then-is_leaf y ↦ evaluates_on (c.args.levels - 1) c.args.frame.now c.args.store.now c.args.bytes.now (c.args.at + 1) held y.one-is (y.leaf-one.ensures (c.args.levels - 1))
      | else-is_leaf y ↦ evaluates_on (c.args.levels - 1) c.args.frame.now c.args.store.now c.args.bytes.now (c.args.at + 1) held y.one-is y.eval-one.ensures
    ] in
    let many = λ (e : (rule_of (get_or c.args.bytes.now c.args.at 0)).operands ≡ 1). c.if-operands-ne1.true (operands ∙ e) in
    let second : Evaluates (c.args.levels - 1) c.args.frame.now c.args.store.now c.args.bytes.now c.if-is_leaf.one.next c.if-is_leaf-2.two = elim c.if-is_leaf-2.branch [
      | then-is_leaf-2 y ↦ evaluates_on (c.args.levels - 1) c.args.frame.now c.args.store.now c.args.bytes.now c.if-is_leaf.one.next held y.two-is (y.leaf-two.ensures (c.args.levels - 1))
      | else-is_leaf-2 y ↦ evaluates_on (c.args.levels - 1) c.args.frame.now c.args.store.now c.args.bytes.now c.if-is_leaf.one.next held y.two-is y.eval-two.ensures
    ] in
    let three = sym operands ∙ c.if-operands-eq3.true in
    let here = third_readable c.args.store.now c.requires.1.readable c.requires.1.operator first many second three in
    leaf_stands held here c.is_leaf-then-operands-eq3.ensures c.if-is_leaf-3.true

pub eval-three-requires : goal.eval-three-requires
eval-three-requires t c =
    let held = all_lent c.args.store.now c.requires.1.readable.turn.lent in
    let operands : c.operands_of-operands.result ≡ (rule_of (get_or c.args.bytes.now c.args.at 0)).operands = rw c.from.ensures at c.operands_of-operands.ensures in
    let first : Evaluates (c.args.levels - 1) c.args.frame.now c.args.store.now c.args.bytes.now (c.args.at + 1) c.if-is_leaf.one = elim c.if-is_leaf.branch [
      | then-is_leaf y ↦ evaluates_on (c.args.levels - 1) c.args.frame.now c.args.store.now c.args.bytes.now (c.args.at + 1) held y.one-is (y.leaf-one.ensures (c.args.levels - 1))
      | else-is_leaf y ↦ evaluates_on (c.args.levels - 1) c.args.frame.now c.args.store.now c.args.bytes.now (c.args.at + 1) held y.one-is y.eval-one.ensures
    ] in
    let many = λ (e : (rule_of (get_or c.args.bytes.now c.args.at 0)).operands ≡ 1). c.if-operands-ne1.true (operands ∙ e) in
    let second : Evaluates (c.args.levels - 1) c.args.frame.now c.args.store.now c.args.bytes.now c.if-is_leaf.one.next c.if-is_leaf-2.two = elim c.if-is_leaf-2.branch [
      | then-is_leaf-2 y ↦ evaluates_on (c.args.levels - 1) c.args.frame.now c.args.store.now c.args.bytes.now c.if-is_leaf.one.next held y.two-is (y.leaf-two.ensures (c.args.levels - 1))
      | else-is_leaf-2 y ↦ evaluates_on (c.args.levels - 1) c.args.frame.now c.args.store.now c.args.bytes.now c.if-is_leaf.one.next held y.two-is y.eval-two.ensures
    ] in
    let three = sym operands ∙ c.if-operands-eq3.true in
    let here = third_readable c.args.store.now c.requires.1.readable c.requires.1.operator first many second three in
    (omega (arith, (standing_at c.requires.1.readable).level, c.decreases), (c.requires.0, operator_stands held here c.is_leaf-then-operands-eq3.ensures c.if-is_leaf-3.false))

pub returns-then-operands-eq3 : goal.returns-then-operands-eq3
returns-then-operands-eq3 t c =
    let held = all_lent c.args.store.now c.requires.1.readable.turn.lent in
    let operands : c.operands_of-operands.result ≡ (rule_of (get_or c.args.bytes.now c.args.at 0)).operands = rw c.from.ensures at c.operands_of-operands.ensures in
    let first : Evaluates (c.args.levels - 1) c.args.frame.now c.args.store.now c.args.bytes.now (c.args.at + 1) c.if-is_leaf.one = elim c.if-is_leaf.branch [
      | then-is_leaf y ↦ evaluates_on (c.args.levels - 1) c.args.frame.now c.args.store.now c.args.bytes.now (c.args.at + 1) held y.one-is (y.leaf-one.ensures (c.args.levels - 1))
      | else-is_leaf y ↦ evaluates_on (c.args.levels - 1) c.args.frame.now c.args.store.now c.args.bytes.now (c.args.at + 1) held y.one-is y.eval-one.ensures
    ] in
    let many = λ (e : (rule_of (get_or c.args.bytes.now c.args.at 0)).operands ≡ 1). c.if-operands-ne1.true (operands ∙ e) in
    let second : Evaluates (c.args.levels - 1) c.args.frame.now c.args.store.now c.args.bytes.now c.if-is_leaf.one.next c.if-is_leaf-2.two = elim c.if-is_leaf-2.branch [
      | then-is_leaf-2 y ↦ evaluates_on (c.args.levels - 1) c.args.frame.now c.args.store.now c.args.bytes.now c.if-is_leaf.one.next held y.two-is (y.leaf-two.ensures (c.args.levels - 1))
      | else-is_leaf-2 y ↦ evaluates_on (c.args.levels - 1) c.args.frame.now c.args.store.now c.args.bytes.now c.if-is_leaf.one.next held y.two-is y.eval-two.ensures
    ] in
    let three = sym operands ∙ c.if-operands-eq3.true in
    let third : Evaluates (c.args.levels - 1) c.args.frame.now c.args.store.now c.args.bytes.now c.if-is_leaf-2.two.next c.if-is_leaf-3.three = elim c.if-is_leaf-3.branch [
      | then-is_leaf-3 y ↦ evaluates_on (c.args.levels - 1) c.args.frame.now c.args.store.now c.args.bytes.now c.if-is_leaf-2.two.next held y.three-is (y.leaf-three.ensures (c.args.levels - 1))
      | else-is_leaf-3 y ↦ evaluates_on (c.args.levels - 1) c.args.frame.now c.args.store.now c.args.bytes.now c.if-is_leaf-2.two.next held y.three-is y.eval-three.ensures
    ] in
    λ x. three_give c.args.store.now x c.requires.1.operator first many second three third c.choose.ensures

pub returns : goal.returns
returns t c =
    let held = all_lent c.args.store.now c.requires.1.readable.turn.lent in
    let operands : c.operands_of-operands.result ≡ (rule_of (get_or c.args.bytes.now c.args.at 0)).operands = rw c.from.ensures at c.operands_of-operands.ensures in
    let first : Evaluates (c.args.levels - 1) c.args.frame.now c.args.store.now c.args.bytes.now (c.args.at + 1) c.if-is_leaf.one = elim c.if-is_leaf.branch [
      | then-is_leaf y ↦ evaluates_on (c.args.levels - 1) c.args.frame.now c.args.store.now c.args.bytes.now (c.args.at + 1) held y.one-is (y.leaf-one.ensures (c.args.levels - 1))
      | else-is_leaf y ↦ evaluates_on (c.args.levels - 1) c.args.frame.now c.args.store.now c.args.bytes.now (c.args.at + 1) held y.one-is y.eval-one.ensures
    ] in
    λ x. elim c.if-operands-ne1.branch [
      | then-operands-ne1+else-operands-eq3 w ↦
          (let second : Evaluates (c.args.levels - 1) c.args.frame.now c.args.store.now c.args.bytes.now c.if-is_leaf.one.next w.if-is_leaf-2.two = elim w.if-is_leaf-2.branch [
            | then-is_leaf-2 y ↦ evaluates_on (c.args.levels - 1) c.args.frame.now c.args.store.now c.args.bytes.now c.if-is_leaf.one.next held y.two-is (y.leaf-two.ensures (c.args.levels - 1))
            | else-is_leaf-2 y ↦ evaluates_on (c.args.levels - 1) c.args.frame.now c.args.store.now c.args.bytes.now c.if-is_leaf.one.next held y.two-is y.eval-two.ensures
          ] in
          two_give c.args.store.now x c.requires.1.operator first (λ e. w.if-operands-ne1.true (operands ∙ e)) second (λ e. w.if-operands-eq3.false (operands ∙ e)) w.b-is w.next-is c.apply.ensures)
      | else-operands-ne1 w ↦ one_gives c.args.store.now x c.requires.1.operator first (sym operands ∙ w.if-operands-ne1.false) w.b-is w.next-is c.apply.ensures
    ]
