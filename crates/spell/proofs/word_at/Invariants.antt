-- The rows so far are tried. Assumes nothing.
use Rattle.spell.proofs.Rows.{Tried}
use Rattle.spell.proofs.word_at.Given as goal

abbrev pub invariant-loop-row : goal.invariant-loop-row
invariant-loop-row l = Tried l.from l.text l.at l.row l.far
