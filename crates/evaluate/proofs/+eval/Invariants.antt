-- `evaluate::eval` ends, by the levels left.
-- Assumes nothing.
use Rattle.evaluate.proofs.+eval.Given as goal

abbrev pub decreases-eval : goal.decreases-eval
decreases-eval l = l.levels
