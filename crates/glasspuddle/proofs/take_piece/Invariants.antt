-- Some bytes of the piece have been taken, and what they gave is written. The measure is the number of bytes left.
use Rattle.std.proofs.Common.{◌≡◌, ℕ, ◌-◌, List, length}
use Rattle.std.specs.Io.KnownBytes.{Appends}
use Rattle.glasspuddle.proofs.Pieces.{Moved}
use Rattle.glasspuddle.proofs.take_piece.Given as goal

abbrev pub invariant-loop-used : goal.invariant-loop-used
invariant-loop-used g l =
    (text : List ℕ)
    × Moved l.fn.state l.initial.table l.initial.store l.initial.part l.piece l.latest l.table l.store l.part l.used text
    × Appends (g.O.Write.contents l.initial.ends.output) (g.O.Write.contents l.ends.output) text
    × (l.ends.input ≡ l.initial.ends.input)

abbrev pub decreases-loop-used : goal.decreases-loop-used
decreases-loop-used g l = length l.piece - l.used
