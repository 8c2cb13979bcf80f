-- `take_turn`: the record is not of the table.
-- Assumes nothing.
use mathlib.Core.Path.{◌∙◌}
use Rattle.monitor.proofs.Refusals.{foreign_turn}
use Rattle.monitor.proofs.Taking.{took_refused}
use Rattle.monitor.proofs.Run.take_turn.Goals as goal

pub returns-in_default : goal.returns-in_default
returns-in_default c = took_refused c.args.turn c.args.table.now c.args.self.now c.args.row.now c.args.store.now c.args.out.now
    (c.foreign.ensures ∙ foreign_turn c.args.table.now c.args.self.now c.in_default.ensures c.args.turn _ _ _)
