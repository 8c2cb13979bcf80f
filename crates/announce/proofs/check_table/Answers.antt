-- `check_table`: what the scan refuses is refused so, and document 01 allows the answer.
-- Assumes nothing.
use Rattle.std.proofs.lemmas.Result.{err_from_is_err_and}
use Rattle.announce.proofs.Acceptance.{slice_answers}
use Rattle.announce.proofs.Scans.{scan_refused}
use Rattle.announce.proofs.check_table.Goals as goal

pub returns-in_err-scan : goal.returns-in_err-scan
returns-in_err-scan c =
    let w = err_from_is_err_and c.from_residual.result c.from_residual.ensures.1 in
    slice_answers c.type_inv.table (rw (w.1, w.2) (scan_refused _ _ c.in_err-scan.ensures))

pub returns : goal.returns
returns c = slice_answers c.type_inv.table c.weigh_scan.ensures
