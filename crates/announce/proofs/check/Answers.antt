-- `check`: the numbers of the same answer; document 01 allows it.
-- Assumes nothing.
use mathlib.Core.Path.{◌∙◌}
use Rattle.announce.proofs.Acceptance.{slice_answers}
use Rattle.announce.proofs.check.Goals as goal

pub returns : goal.returns
returns c = slice_answers c.type_inv.table (c.from.ensures ∙ c.check_table.ensures.0)
