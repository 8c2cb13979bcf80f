-- `drain`: a closing turn, where no test refuses it.
-- Assumes nothing.
use native.Mathlib.Omega.{arith}
use Rattle.monitor.proofs.Taking.{one_left}
use Rattle.monitor.proofs.Leaving.{drain_taken, drain_refused}
use Rattle.monitor.proofs.Run.drain.Goals as goal

pub overflow_add-done : goal.overflow_add-done
overflow_add-done c = omega (arith, one_left c.args.table.now c.args.self c.in-Ok.ensures)

pub returns-in-Err : goal.returns-in-Err
returns-in-Err c = drain_refused c.args.table.now c.args.self c.in-Err.ensures

pub returns-in-Ok : goal.returns-in-Ok
returns-in-Ok c = drain_taken c.args.table.now c.args.self c.in-Ok.ensures c.drained_phase.ensures
