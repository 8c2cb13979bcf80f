-- Shut, or not. Assumes nothing.
use mathlib.Core.Path.{sym, ap, ◌∙◌}
use mathlib.Core.Bool.{not}
use Rattle.feed.proofs.Stepping.{reads_none, reads_some}
use Rattle.feed.proofs.reads_on.Goals.{in-Shut, in_default}
use Rattle.feed.proofs.reads_on.Goals as goal

pub returns : goal.returns
returns c = elim c.match-matches.branch [ in-Shut w ↦ ap not w.matches-is ∙ sym (reads_none w.in-Shut.is) | in_default w ↦ ap not w.matches-is ∙ sym (reads_some _ w.in_default.not-Shut) ]
