-- `scan_equations`: one equation after the other; the first wrong one refuses them all.
-- Assumes nothing.
use Rattle.std.proofs.lemmas.Result.{err_from_is_err_and}
use borrow.Author.Rules.{rules}
use native.Mathlib.Omega.{arith}
use lib.ListN.{length-set}
use Rattle.expression.proofs.Seeing.{fresh_seen}
use Rattle.table.proofs.Arrays.{zeros_at_first, zeros_left, padded_front}
use Rattle.table.proofs.Equations.{equations_first, equations_end, equations_wrong, equations_more, read_behind}
use Rattle.table.proofs.scan_equations.Goals as goal

pub loop-y-init : goal.loop-y-init
loop-y-init c = record {
  array = search rules;
  solves = λ r. equations_first c.args.from _ r (omega (arith, c.requires.outputs, c.requires.few_streams));
  rest = zeros_at_first _;
  within = c.requires.place;
  rows = (fresh_seen c.args.types.now c.args.streams c.requires.few_streams c.see.ensures (λ v _. omega (arith, c.requires.typed v))).0;
}

pub returns-in_err-end : goal.returns-in_err-end
returns-in_err-end c =
    let w = err_from_is_err_and c.from_residual.result c.from_residual.ensures.1 in
    rw (w.1, w.2)
    (c.loop-y.invariant.solves _ (equations_wrong _ _ _ _ _ c.requires.few c.loop-y-test.true (c.scan_equation.ensures _ c.loop-y.invariant.rows) _ _ c.in_err-end.ensures))

pub loop-y-preserved : goal.loop-y-preserved
loop-y-preserved c =
    let x = c.scan_equation.ensures _ c.loop-y.invariant.rows in
    record {
      array = rw length-set c.loop-y.invariant.array;
      solves = λ r p. c.loop-y.invariant.solves r
          (equations_more _ _ _ _ _ c.requires.few c.loop-y-test.true x c.in_ok-end.ensures _ (omega (arith, c.loop-y-test.true, c.requires.few_streams, c.loop-y.invariant.array)) r p);
      rest = zeros_left _ c.loop-y.invariant.rest;
      within = read_behind _ _ _ _ _ c.requires.few c.loop-y-test.true x c.in_ok-end.ensures;
      rows = x.left;
    }

pub returns : goal.returns
returns c =
    let e = padded_front c.loop-y.starts c.loop-y.y c.loop-y.invariant.array (omega (arith, c.loop-y.auto.y-end c.requires.outputs, c.requires.few_streams)) c.loop-y.invariant.rest in
    c.loop-y.invariant.solves _ (equations_end _ _ _ _ _ _ c.loop-y-test.false e)
