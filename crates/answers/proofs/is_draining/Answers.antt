-- The code's test is that of the definitions. Assumes nothing.
use mathlib.Core.Path.{◌∙◌}
use Rattle.answers.proofs.Phases.{draining_test}
use Rattle.answers.proofs.is_draining.Goals as goal

pub returns : goal.returns
returns c = c.eq.ensures ∙ draining_test _
