-- A part row has its line, a whole one none. Assumes nothing.
use mathlib.Core.Path.{ap, ◌∙◌}
use Rattle.monitor.specs.Calls.{Answer}
use Rattle.answers.proofs.Answers.{run_kept}
use Rattle.feed.proofs.Stepping.{closes_whole, closes_part}
use Rattle.feed.proofs.close.Goals as goal

pub returns-then-have-eq0 : goal.returns-then-have-eq0
returns-then-have-eq0 c = closes_whole (run_kept _ _ ∙ ap (λ (a : Answer). a.run) c.close-closed.ensures) c.if-have-eq0.true

pub returns-else-have-eq0 : goal.returns-else-have-eq0
returns-else-have-eq0 c = closes_part (run_kept _ _ ∙ ap (λ (a : Answer). a.run) c.close-closed.ensures) c.if-have-eq0.false c.put_stop_line-at.ensures
