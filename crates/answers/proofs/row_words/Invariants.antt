-- The loop's invariant: the first i words of the row stand in the first i words lent.
-- Assumes nothing.
use mathlib.Core.Path.{◌≡◌}
use lib.ListN.{take}
use Rattle.answers.specs.Words.{words_at}
use Rattle.answers.proofs.row_words.Given as goal

abbrev pub invariant-loop-i : goal.invariant-loop-i
invariant-loop-i l = take l.i l.words ≡ words_at l.row 0 l.i
