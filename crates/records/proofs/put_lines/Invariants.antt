-- The loop's invariant: the lines of the records in front of those left stand written. The measure is the number of bytes left.
-- Assumes nothing.
use lib.ListN.{length, take}
use Rattle.records.proofs.Lines.{Lined}
use Rattle.records.proofs.put_lines.Given as goal

abbrev pub invariant-loop-kind : goal.invariant-loop-kind
invariant-loop-kind l = Lined (take l.fn.count l.records) l.initial.out l.at l.left l.out l.end

abbrev pub decreases-loop-kind : goal.decreases-loop-kind
decreases-loop-kind l = length l.left
