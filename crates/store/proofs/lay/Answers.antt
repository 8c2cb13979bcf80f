-- `store::lay` meets its contract: the parts before v's are laid, and `start` is where the next part starts.
-- Assumes nothing.
use mathlib.Core.Path.{◌≡◌, ap, ◌∙◌}
use Prim.Native.Nat.{◌+◌, ◌≤◌, ◌<◌, ◌^◌}
use native.Mathlib.Omega.{arith}
use lib.ListN.{length}
use Rattle.basis.specs.Firsts.{of}
use Rattle.basis.proofs.Sums.{sum_on}
use Rattle.limits.specs.Limits.{most_streams}
use Rattle.store.specs.declared.Part.{Part}
use Rattle.store.specs.Store.{newest_of, lap_for}
use Rattle.store.proofs.Frames.{newest_due, newest_last, none_before, laid_none, laid_more}
use Rattle.store.proofs.lay.Goals as goal
use Rattle.store.proofs.lay.Goals.{then-t-known, else-t-known, then-ahead-t, else-ahead-t}

pub loop-v-init : goal.loop-v-init
loop-v-init c = record { small = omega arith; start = none_before _; laid = laid_none _ _ _ _ _ _ }

pub loop-v-preserved : goal.loop-v-preserved
loop-v-preserved c =
    let look = c.args.look.now in
    let kept = c.args.kept.now in
    let n = c.args.known in
    let t = c.args.t in
    let v = c.loop-v.v in
    let below : v < most_streams = omega (arith, c.loop-v-test.true, c.requires.few) in
    let long : length c.loop-v.frame.parts ≡ most_streams = omega arith in
    let lap : of look v ≤ t → c.if-ahead-t.part.lap ≡ lap_for (newest_of look n t v) (of kept v) = elim c.if-ahead-t.branch [
      | then-ahead-t w ↦
          (let newest : w.if-t-known.p ≡ newest_of look n t v = elim w.if-t-known.branch [
            | then-t-known y ↦ newest_due look n t v c.from-ahead.ensures y.if-t-known.true y.p-is
            | else-t-known y ↦ newest_last look n t v c.from-ahead.ensures y.if-t-known.false y.p-is
          ] in
          λ early. ap (λ (p : Part). p.lap) w.part-is ∙ w.lap_before-part.ensures ∙ (λ i. lap_for (newest i) (c.from-n.ensures i)))
      | else-ahead-t w ↦ λ early. absurd (omega (arith, c.from-ahead.ensures, w.if-ahead-t.false))
    ] in
    let keep = c.from-n.ensures in
    let start = c.loop-v.invariant.start in
    let narrow : c.loop-v.start + c.from-n.result < 2 ^ 32 = omega (arith, c.loop-v.invariant.small, keep, c.fits-kept v, below) in
    record {
      small = omega (arith, c.loop-v.invariant.small, keep, c.fits-kept v);
      start = sum_on _ start keep;
      laid = laid_more long below c.loop-v.invariant.laid _ lap start keep (λ i. of c.args.types.now v) narrow;
    }
