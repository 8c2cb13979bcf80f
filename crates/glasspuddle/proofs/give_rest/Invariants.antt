-- What was printed behind the end of the input is written. The measure is how much can still come.
use Rattle.std.proofs.Common.{true}
use Rattle.feed.specs.Stands.{to_come}
use Rattle.glasspuddle.proofs.Ending.{Resting}
use Rattle.glasspuddle.proofs.give_rest.Given as goal

abbrev pub invariant-loop-left : goal.invariant-loop-left
invariant-loop-left g l =
    Resting true l.fn.state l.table l.fn.store l.left l.store (g.O.Write.contents l.fn.ends.output) (g.O.Write.contents l.ends.output)

abbrev pub decreases-loop-left : goal.decreases-loop-left
decreases-loop-left g l = to_come l.table l.left
