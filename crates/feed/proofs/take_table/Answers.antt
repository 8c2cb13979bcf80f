-- Bytes of the table, or the whole of it: refused or opened. Assumes nothing.
use native.Mathlib.Omega.{arith}
use mathlib.Core.Path.{refl}
use Rattle.limits.proofs.Faults.{number_some}
use Rattle.feed.proofs.Advancing.{table_refused, table_taken}
use Rattle.feed.proofs.take_table.Goals as goal

pub returns-in-Err : goal.returns-in-Err
returns-in-Err c = table_refused c.hold.ensures (omega (arith, c.min-n.ensures, c.requires)) (omega (arith, c.min-n.ensures, c.requires, c.if-have-n.false)) c.args.store.now c.requires.3 (rw c.in-Err.is at c.open-opened.ensures) (number_some _) c.put_refusal.ensures

pub returns-in-Ok : goal.returns-in-Ok
returns-in-Ok c = table_taken c.hold.ensures (omega (arith, c.min-n.ensures, c.requires)) (omega (arith, c.min-n.ensures, c.requires, c.if-have-n.false)) c.args.store.now c.requires.3 (rw c.in-Ok.is at c.open-opened.ensures) refl
