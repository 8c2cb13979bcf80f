-- What the head says with one byte more. Assumes nothing.
use mathlib.Core.Path.{sym}
use Rattle.feed.proofs.Advancing.{head_stopped, head_refused, head_tabled}
use Rattle.feed.proofs.take_head.Goals as goal

pub returns-in-Ok-None : goal.returns-in-Ok-None
returns-in-Ok-None c = head_stopped c.hold.ensures (sym (rw c.in-Ok-None.field-0-is at c.in-Ok-None.ensures))

pub returns-in-Err : goal.returns-in-Err
returns-in-Err c = head_refused c.hold.ensures (sym c.in-Err.ensures) c.put_refusal.ensures

pub returns-in-Ok-Some : goal.returns-in-Ok-Some
returns-in-Ok-Some c = head_tabled c.hold.ensures (sym (rw c.in-Ok-Some.field-0-is at c.in-Ok-Some.ensures))
