-- What was read was taken, and what it gave is written. The measure is the number of bytes that may still be read.
use Rattle.std.proofs.Common.{◌-◌, ◌^◌}
use Rattle.glasspuddle.proofs.Hearing.{Hearing}
use Rattle.glasspuddle.proofs.take_input.Given as goal

abbrev pub invariant-loop-ends : goal.invariant-loop-ends
invariant-loop-ends g l =
    Hearing l.latest l.table l.store l.part
    (g.I.Read.remaining l.initial.ends.input) (g.I.Read.remaining l.ends.input) (g.O.Write.contents l.initial.ends.output) (g.O.Write.contents l.ends.output)

abbrev pub decreases-loop-ends : goal.decreases-loop-ends
decreases-loop-ends g l = 2 ^ 64 - l.latest.read
