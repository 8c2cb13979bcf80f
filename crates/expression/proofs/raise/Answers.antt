-- `raise`, by the test.
-- Assumes nothing.
use Rattle.expression.proofs.Noting.{raised_put, raised_left}
use Rattle.expression.proofs.raise.Goals as goal

pub returns-then-seen-v : goal.returns-then-seen-v
returns-then-seen-v c = raised_put c.args.seen.now c.args.x c.requires.0 c.requires.1 c.if-seen-v.true

pub returns-else-seen-v : goal.returns-else-seen-v
returns-else-seen-v c = raised_left c.args.seen.now c.args.x c.requires.0 c.requires.1 c.if-seen-v.false
