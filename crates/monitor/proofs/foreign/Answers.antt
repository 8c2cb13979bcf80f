-- `foreign`: the table's own refusal, or 10.
-- Assumes nothing.
use mathlib.Core.Path.{refl}
use Rattle.limits.proofs.Faults.{number_some}
use Rattle.monitor.proofs.Refusals.{foreign_10, foreign_table}
use Rattle.monitor.proofs.foreign.Goals as goal

pub returns-in-Ok : goal.returns-in-Ok
returns-in-Ok c = rw c.at.ensures (foreign_10 _ c.in-Ok.ensures.0 refl)

pub returns-in-Err : goal.returns-in-Err
returns-in-Err c = foreign_table _ c.in-Err.ensures.0 (number_some c.in-Err.refusal.fault)
