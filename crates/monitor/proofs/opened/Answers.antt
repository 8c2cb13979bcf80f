-- `opened`: refused by the table, refused for a short store, or opened.
-- Assumes nothing.
use mathlib.Core.Path.{refl}
use Rattle.std.proofs.lemmas.Result.{err_from_is_err_and}
use Rattle.limits.proofs.Faults.{number_some}
use Rattle.monitor.proofs.Leaving.{opening_table, opening_short, opening_taken}
use Rattle.monitor.proofs.opened.Goals as goal

pub returns-in_err-announced : goal.returns-in_err-announced
returns-in_err-announced c = let p = err_from_is_err_and c.from_residual.result c.from_residual.ensures.1 in
    rw (p.1, p.2) (opening_table c.args.table.now c.args.store.now c.in_err-announced.ensures.0 (number_some _))

pub returns-then-store-announced : goal.returns-then-store-announced
returns-then-store-announced c = rw c.at.ensures (opening_short c.args.table.now c.args.store.now c.in_ok-announced.ensures.0 refl c.if-store-announced.true)

pub returns : goal.returns
returns c = rw c.unopened.ensures (opening_taken c.args.table.now c.args.store.now c.in_ok-announced.ensures.0 refl c.if-store-announced.false c.clear.ensures)
