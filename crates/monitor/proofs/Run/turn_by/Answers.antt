-- `turn_by`: refused by a test, or the turn done.
-- Assumes nothing.
use mathlib.Core.Path.{sym, ◌∙◌}
use native.Mathlib.Omega.{arith}
use Rattle.std.proofs.lemmas.Result.{err_from_is_err_and}
use Rattle.monitor.proofs.Refusals.{turn_prepared}
use Rattle.monitor.proofs.Taking.{turn_fits, took_refused, took_turned}
use Rattle.monitor.proofs.Run.turn_by.Goals as goal

pub returns-in_err-test_turn : goal.returns-in_err-test_turn
returns-in_err-test_turn c = let p = err_from_is_err_and c.from_residual.result c.from_residual.ensures.1 in
    rw (p.1, p.2) (took_refused c.args.turn c.args.table.now c.args.self.now c.args.row.now c.args.store.now c.args.out.now
    (c.in_err-test_turn.ensures ∙ sym (turn_prepared c.args.self.now c.args.prepared c.requires.prepares c.args.turn _ _ _)))

pub turn_out-count-requires : goal.turn_out-count-requires
turn_out-count-requires c =
    turn_fits c.args.self.now c.args.prepared c.requires.tabulated c.requires.prepares _ c.args.row.now _ c.args.turn c.in_ok-test_turn.ensures c.known_rows-known.ensures c.from.ensures (omega arith) (omega arith)

pub returns : goal.returns
returns c = took_turned c.args.turn c.args.table.now c.args.self.now c.args.row.now c.args.store.now c.args.out.now
    (c.in_ok-test_turn.ensures ∙ sym (turn_prepared c.args.self.now c.args.prepared c.requires.prepares c.args.turn _ _ _)) c.known_rows-known.ensures c.from.ensures c.from-2.ensures c.turn_out-count.ensures c.requires.prepares.closing_is
