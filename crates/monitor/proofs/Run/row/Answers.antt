-- `row`: a row's turn, where no test refuses it.
-- Assumes nothing.
use mathlib.Core.Path.{refl}
use native.Mathlib.Omega.{arith}
use Rattle.monitor.proofs.Refusals.{row_left}
use Rattle.monitor.proofs.Leaving.{row_taken, row_refused}
use Rattle.monitor.proofs.Run.row.Goals as goal

pub overflow_add-run : goal.overflow_add-run
overflow_add-run c = omega (arith, row_left c.args.table.now c.args.self _ _ _ c.in-Ok.ensures.passes refl)

pub returns-in-Err : goal.returns-in-Err
returns-in-Err c = row_refused c.args.table.now c.args.self c.in-Err.ensures

pub returns-in-Ok : goal.returns-in-Ok
returns-in-Ok c = row_taken c.args.table.now c.args.self c.in-Ok.ensures
