-- The levels left fall with each call of itself.
use Rattle.expression.proofs.+scan_operator.Given as goal

abbrev pub decreases-scan_operator : goal.decreases-scan_operator
decreases-scan_operator l = l.levels
