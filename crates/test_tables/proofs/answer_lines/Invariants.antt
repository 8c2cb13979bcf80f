-- The measure is the number of bytes left.
use Rattle.std.proofs.Common.{length}
use Rattle.test_tables.proofs.answer_lines.Given as goal

abbrev pub decreases-loop-rest : goal.decreases-loop-rest
decreases-loop-rest g l = length l.rest
