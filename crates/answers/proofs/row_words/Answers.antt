-- The words before the first, one word more, and all of them. Assumes nothing.
use native.Mathlib.Omega.{arith}
use native.Mathlib.Nat.{zero-add}
use Rattle.answers.proofs.Words.{words_none, words_more, words_all}
use Rattle.answers.proofs.row_words.Goals as goal

pub loop-i-init : goal.loop-i-init
loop-i-init c = words_none _ _

pub loop-i-preserved : goal.loop-i-preserved
loop-i-preserved c = words_more _ _ _ _ c.loop-i.invariant (omega arith) (rw zero-add c.word_at.ensures)

pub returns : goal.returns
returns c = words_all _ _ c.loop-i.invariant c.loop-i-test.false c.loop-i.auto.i-end c.loop-i.auto.words
