-- `scan_table`: the heading, the equations, the table's end.
-- Assumes nothing.
use Rattle.std.proofs.lemmas.Result.{err_from_is_err_and}
use native.Mathlib.Omega.{arith}
use Rattle.table.proofs.Decoding.{opens, opened_few, opened_array, opened_typed, opened_within, decode_unheaded, scan_refused, scan_unfit, scan_more, scan_accepted}
use Rattle.table.proofs.scan_table.Goals as goal

pub returns-in_err-heading : goal.returns-in_err-heading
returns-in_err-heading c =
    let w = err_from_is_err_and c.from_residual.result c.from_residual.ensures.1 in
    rw (w.1, w.2) (scan_refused _ _ (decode_unheaded _ c.in_err-heading.ensures))

pub scan_equations-requires : goal.scan_equations-requires
scan_equations-requires c = let o = opens _ c.in_ok-heading.ensures in record {
  tabulated = c.kind_table-kinds.ensures;
  few = o.fits.bytes.1;
  place = opened_within o;
  outputs = omega (arith, opened_few o);
  few_streams = (opened_few o).1.1;
  array = opened_array o;
  typed = opened_typed o;
}

pub returns-in_err-solved : goal.returns-in_err-solved
returns-in_err-solved c =
    let w = err_from_is_err_and c.from_residual-in_err-solved.result c.from_residual-in_err-solved.ensures.1 in
    rw (w.1, w.2) (scan_unfit (opens _ c.in_ok-heading.ensures) _ c.in_err-solved.ensures)

pub returns-then-solved-table : goal.returns-then-solved-table
returns-then-solved-table c = rw c.at.ensures (scan_more (opens _ c.in_ok-heading.ensures) _ c.in_ok-solved.ensures c.if-solved-table.true)

pub returns : goal.returns
returns c = scan_accepted (opens _ c.in_ok-heading.ensures) _ c.in_ok-solved.ensures c.if-solved-table.false
