-- Closing turns, or the last line. Assumes nothing.
use mathlib.Core.Path.{sym, ◌∙◌}
use Rattle.feed.proofs.Finishing.{finishes_turns, finishes_last}
use Rattle.feed.proofs.finish.Goals as goal

pub returns-then-is_draining : goal.returns-then-is_draining
returns-then-is_draining c = finishes_turns c.requires.0 (sym c.is_draining.ensures ∙ c.if-is_draining.true) c.drain_turns-drained.ensures.reached c.drain_turns-drained.ensures.drains

pub returns : goal.returns
returns c = finishes_last c.requires.0 (sym c.is_draining.ensures ∙ c.if-is_draining.false) c.put_end_line.ensures
