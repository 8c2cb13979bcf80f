-- `evaluate::turn` meets its contract: its loop goes through the streams by rank, over the frame that it lays.
-- Assumes nothing.
use mathlib.Core.Path.{◌≡◌, refl, sym, ap, ◌∙◌}
use Prim.Native.Nat.{◌-◌, ◌<◌}
use native.Mathlib.Omega.{arith}
use lib.ListN.{length}
use Rattle.limits.specs.Limits.{most_levels}
use Rattle.store.specs.declared.Frame.{Frame}
use Rattle.store.specs.Store.{Framed}
use Rattle.evaluate.specs.Evaluation.{Evaluates}
use Rattle.store.proofs.Frames.{framed_at}
use Rattle.evaluate.proofs.Heads.{standing_at}
use Rattle.evaluate.proofs.Operands.{evaluates_as}
use Rattle.evaluate.proofs.Steps.{Stepped, can_lay, row_long, due_findable, equation_readable, input_written, output_written, late_leaves, early_leaves, step_long, framed_as}
use Rattle.evaluate.proofs.Turns.{moved, named_by, upto_none, upto_more, upto_all}
use Rattle.evaluate.proofs.turn.Goals as goal
use Rattle.evaluate.proofs.turn.Goals.{then-ahead-t+then-t-known+then-y-inputs, then-ahead-t+then-t-known+else-y-inputs, then-is_leaf, else-is_leaf, else-ahead-t, else-ahead-t-via-then-ahead-t+else-t-known, else-ahead-t-via-else-ahead-t}

pub lay-requires : goal.lay-requires
lay-requires c = can_lay c.requires.turnable c.requires.row c.requires.rows

pub loop-stream-init : goal.loop-stream-init
loop-stream-init c = record {
  long = refl;
  framed = c.lay.ensures.0;
  upto = upto_none c.args.bytes.now c.args.types.now c.args.look.now c.args.kept.now c.args.starts.now c.args.order.now c.args.inputs c.args.streams c.args.row.now c.args.store.now c.args.known c.args.t;
  lent = c.lay.ensures.1;
}

pub bounds-look-y : goal.bounds-look-y
bounds-look-y c = omega (arith, named_by c.requires.turnable _ c.loop-stream-test.true c.from-y.ensures, c.requires.turnable.few)

pub overflow_cast-position : goal.overflow_cast-position
overflow_cast-position c = record { fits = omega (arith, c.if-t-known.true, c.requires.rows) }

pub bounds-types-y : goal.bounds-types-y
bounds-types-y c = omega (arith, named_by c.requires.turnable _ c.loop-stream-test.true c.from-y.ensures, c.requires.turnable.few)

pub bounds-row-y : goal.bounds-row-y
bounds-row-y c = row_long c.requires.turnable _ c.args.known c.args.t _ c.requires.words c.from-ahead.ensures c.if-t-known.true c.if-y-inputs.true

pub write-requires : goal.write-requires
write-requires c = due_findable (moved c.requires.turnable c.loop-stream.invariant.long) c.args.known c.args.t _ (named_by c.requires.turnable _ c.loop-stream-test.true c.from-y.ensures) c.from-ahead.ensures c.if-ahead-t.true c.if-t-known.true c.loop-stream.invariant.framed

pub bounds-starts-y : goal.bounds-starts-y
bounds-starts-y c = omega (arith, named_by c.requires.turnable _ c.loop-stream-test.true c.from-y.ensures, c.requires.turnable.few)

pub is_leaf-requires : goal.is_leaf-requires
is_leaf-requires c =
    let framed = c.loop-stream.invariant.framed in
    let position = c.args.t - c.from-ahead.result in
    let named = named_by c.requires.turnable _ c.loop-stream-test.true c.from-y.ensures in
    let lent = c.loop-stream.invariant.lent ∙ sym c.loop-stream.invariant.long in
    let readable = equation_readable (moved c.requires.turnable c.loop-stream.invariant.long) c.args.known c.args.t _ named c.from-ahead.ensures c.if-ahead-t.true c.if-t-known.true (framed_at position framed) c.if-y-inputs.false refl lent c.from-at.ensures in
    (standing_at readable).body

pub leaf-e-requires : goal.leaf-e-requires
leaf-e-requires c =
    let framed = c.loop-stream.invariant.framed in
    let position = c.args.t - c.from-ahead.result in
    let named = named_by c.requires.turnable _ c.loop-stream-test.true c.from-y.ensures in
    let lent = c.loop-stream.invariant.lent ∙ sym c.loop-stream.invariant.long in
    let readable = equation_readable (moved c.requires.turnable c.loop-stream.invariant.long) c.args.known c.args.t _ named c.from-ahead.ensures c.if-ahead-t.true c.if-t-known.true (framed_at position framed) c.if-y-inputs.false refl lent c.from-at.ensures in
    record { levels = _; readable = readable; leaf = sym c.is_leaf.ensures ∙ c.if-is_leaf.true }

pub eval-e-requires : goal.eval-e-requires
eval-e-requires c =
    let framed = c.loop-stream.invariant.framed in
    let position = c.args.t - c.from-ahead.result in
    let named = named_by c.requires.turnable _ c.loop-stream-test.true c.from-y.ensures in
    let lent = c.loop-stream.invariant.lent ∙ sym c.loop-stream.invariant.long in
    let readable = equation_readable (moved c.requires.turnable c.loop-stream.invariant.long) c.args.known c.args.t _ named c.from-ahead.ensures c.if-ahead-t.true c.if-t-known.true (framed_at position framed) c.if-y-inputs.false refl lent c.from-at.ensures in
    (c.requires.kinds_are, record { readable = readable; operator = sym c.is_leaf.ensures ∙ c.if-is_leaf.false })

pub write-requires-else-y-inputs : goal.write-requires-else-y-inputs
write-requires-else-y-inputs c = due_findable (moved c.requires.turnable c.loop-stream.invariant.long) c.args.known c.args.t _ (named_by c.requires.turnable _ c.loop-stream-test.true c.from-y.ensures) c.from-ahead.ensures c.if-ahead-t.true c.if-t-known.true (framed_at (c.args.t - c.from-ahead.result) c.loop-stream.invariant.framed)

pub loop-stream-preserved : goal.loop-stream-preserved
loop-stream-preserved c =
    let before = c.loop-stream.invariant.long in
    let framed = c.loop-stream.invariant.framed in
    let now_turnable = moved c.requires.turnable before in
    let named : c.from-y.result < c.args.streams = named_by c.requires.turnable _ c.loop-stream-test.true c.from-y.ensures in
    let ahead = c.from-ahead.ensures in
    let position = c.args.t - c.from-ahead.result in
    let placed = framed_at position framed in
    let lent = c.loop-stream.invariant.lent in
    let step : Stepped c.args.bytes.now c.args.types.now c.args.look.now c.args.kept.now c.args.starts.now c.args.order.now c.args.inputs c.args.streams c.args.row.now c.loop-stream.store c.args.known c.args.t c.from-y.result c.if-ahead-t.store = elim c.if-ahead-t.branch [
      | then-ahead-t+then-t-known+then-y-inputs w ↦
          input_written c.args.bytes.now c.args.types.now c.args.look.now c.args.kept.now c.args.starts.now c.args.order.now c.args.inputs c.args.streams c.args.row.now c.loop-stream.store c.args.known c.args.t _ ahead _ named now_turnable w.if-ahead-t.true w.if-t-known.true c.loop-stream.frame framed w.if-y-inputs.true w.reading.ensures (w.store-is ∙ w.write.ensures)
      | then-ahead-t+then-t-known+else-y-inputs w ↦
          (let gave : Evaluates most_levels (record c.loop-stream.frame { position = position }) c.loop-stream.store c.args.bytes.now w.from-at.result w.if-is_leaf.e = elim w.if-is_leaf.branch [
            | then-is_leaf y ↦ evaluates_as _ _ c.loop-stream.store _ _ y.e-is (y.leaf-e.ensures _)
            | else-is_leaf y ↦ evaluates_as _ _ c.loop-stream.store _ _ y.e-is y.eval-e.ensures
          ] in
          output_written c.args.bytes.now c.args.types.now c.args.look.now c.args.kept.now c.args.starts.now c.args.order.now c.args.inputs c.args.streams c.args.row.now c.loop-stream.store c.args.known c.args.t _ ahead _ named now_turnable w.if-ahead-t.true w.if-t-known.true _ placed w.if-y-inputs.false refl (lent ∙ sym before) w.from-at.ensures gave (w.store-is ∙ w.write-else-y-inputs.ensures))
      | else-ahead-t w ↦ elim w.else-ahead-t.branch [
        | else-ahead-t-via-then-ahead-t+else-t-known y ↦ late_leaves c.args.bytes.now c.args.types.now c.args.look.now c.args.kept.now c.args.starts.now c.args.order.now c.args.inputs c.args.streams c.args.row.now c.loop-stream.store c.args.known c.args.t _ ahead y.if-t-known.false w.store-is
        | else-ahead-t-via-else-ahead-t y ↦ early_leaves c.args.bytes.now c.args.types.now c.args.look.now c.args.kept.now c.args.starts.now c.args.order.now c.args.inputs c.args.streams c.args.row.now c.loop-stream.store c.args.known c.args.t _ ahead y.if-ahead-t.false w.store-is
      ]
    ] in
    let framed_on : Framed c.args.types.now c.args.look.now c.args.kept.now c.args.streams c.args.known c.args.t c.if-ahead-t.frame = elim c.if-ahead-t.branch [
      | then-ahead-t+then-t-known+then-y-inputs w ↦ framed_as w.frame-is framed
      | then-ahead-t+then-t-known+else-y-inputs w ↦ framed_as w.frame-is placed
      | else-ahead-t w ↦ framed_as w.frame-is framed
    ] in
    let lent_on : c.if-ahead-t.frame.lent ≡ length c.args.store.now = elim c.if-ahead-t.branch [
      | then-ahead-t+then-t-known+then-y-inputs w ↦ ap (λ (f : Frame). f.lent) w.frame-is ∙ c.loop-stream.invariant.lent
      | then-ahead-t+then-t-known+else-y-inputs w ↦ ap (λ (f : Frame). f.lent) w.frame-is ∙ lent
      | else-ahead-t w ↦ ap (λ (f : Frame). f.lent) w.frame-is ∙ c.loop-stream.invariant.lent
    ] in
    record { long = step_long step ∙ before; framed = framed_on; lent = lent_on; upto = upto_more c.args.bytes.now c.args.types.now c.args.look.now c.args.kept.now c.args.starts.now c.args.order.now c.args.inputs c.args.streams c.args.row.now c.args.store.now c.args.known c.args.t _ _ before c.loop-stream-test.true c.from-y.ensures step c.loop-stream.invariant.upto }

pub shape_of-store : goal.shape_of-store
shape_of-store c = c.loop-stream.invariant.long

pub returns : goal.returns
returns c = (upto_all c.args.bytes.now c.args.types.now c.args.look.now c.args.kept.now c.args.starts.now c.args.order.now c.args.inputs c.args.streams c.args.row.now c.args.store.now c.args.known c.args.t _ c.told-order c.loop-stream-test.false c.loop-stream.invariant.upto, c.loop-stream.invariant.framed)
