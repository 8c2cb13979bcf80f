-- `closed`: by what is prepared, or the record is not of the table.
-- Assumes nothing.
use mathlib.Core.Path.{sym, ap, ◌∙◌}
use Rattle.std.proofs.lemmas.Result.{err_from_is_err_and}
use Rattle.monitor.specs.Calls.{closed_phase_of}
use Rattle.monitor.proofs.Refusals.{close_prepared}
use Rattle.monitor.proofs.Leaving.{close_taken, close_refused, close_foreign}
use Rattle.monitor.proofs.Run.closed.Goals as goal

pub returns-in_default : goal.returns-in_default
returns-in_default c = close_foreign c.args.table.now c.args.self.now c.in_default.ensures.preparing _ c.foreign.ensures

pub returns-in_err-test_close : goal.returns-in_err-test_close
returns-in_err-test_close c = let p = err_from_is_err_and c.from_residual.result c.from_residual.ensures.1 in
    rw (p.1, p.2) (close_refused c.args.table.now c.args.self.now _ (c.in_err-test_close.ensures ∙ sym (close_prepared c.args.self.now c.in-Some.prepared c.in-Some.ensures.preparing)))

pub returns : goal.returns
returns c = let x = c.in-Some.ensures.preparing in
    close_taken c.args.table.now c.args.self.now (c.in_ok-test_close.ensures ∙ sym (close_prepared c.args.self.now c.in-Some.prepared x)) (c.closed_phase.ensures ∙ ap (closed_phase_of c.args.self.now.rows) x.closing_is)
