-- `weights_of`: the weights of the equations below y are there.
-- Assumes nothing.
use Rattle.std.proofs.Common.{refl, arith, rules}
use Rattle.announce.proofs.Weighing.{all_seen, can_scan, weights_more, weights_all, arrays_of, scan_bounds, types_length, scanning_start}
use Rattle.announce.proofs.weights_of.Goals as goal

pub loop-y-init : goal.loop-y-init
loop-y-init c = record { few = (scan_bounds c.requires).1; rise_long = refl; fall_long = refl; weighs = scanning_start c.requires }

pub see-requires : goal.see-requires
see-requires c = (c.loop-y.invariant.few, types_length c.requires, refl)

pub scan_expr-requires : goal.scan_expr-requires
scan_expr-requires c =
    let a = arrays_of c.requires in
    can_scan a (c.loop-y.invariant.weighs c.requires.table a).0 c.loop-y-test.true c.kind_table-kinds.ensures (all_seen a c.see.ensures).0 refl c.from-start.ensures

pub loop-y-preserved : goal.loop-y-preserved
loop-y-preserved c =
    let i = c.loop-y.invariant in
    record {
      few = i.few;
      rise_long = search rules;
      fall_long = search rules;
      weighs = λ t a.
          let w = i.weighs t a in
          let z = all_seen a c.see.ensures in
          (omega (arith, w.0), weights_more a w.0 c.loop-y-test.true z.0 z.1 i.rise_long i.fall_long w.1 refl c.from-start.ensures (c.scan_expr.ensures _ z.0) c.noted.ensures c.noted-in-loop-y.ensures);
    }

pub returns : goal.returns
returns c = λ x. weights_all (arrays_of x) (omega (arith, (arrays_of x).streams_are, (scan_bounds x).0)) (c.loop-y.invariant.weighs x.table (arrays_of x)).1
