-- The row's words, the call and its lines. Assumes nothing.
use borrow.Author.Rules.{rules}
use native.Mathlib.Omega.{arith}
use mathlib.Core.Path.{◌≡◌}
use lib.ListN.{length}
use Rattle.records.specs.Kinds.{most_room}
use Rattle.answers.specs.Words.{words_at}
use Rattle.answers.proofs.Words.{words_long}
use Rattle.answers.proofs.Answers.{room_for, row_count, reached_by}
use Rattle.answers.proofs.answer_row.Goals as goal

pub put_answer-end-requires : goal.put_answer-end-requires
put_answer-end-requires c = let e : length c.row-answer.new.out ≡ most_room = search rules in
    room_for c.row-answer.result.run _ _ _ _ e (row_count _ _ _ _ _ e c.row-answer.ensures) (omega arith)

pub returns : goal.returns
returns c = let w : c.row_words.new.words ≡ words_at c.args.row.now 0 c.args.inputs = words_long _ _ c.row_words.ensures (search rules) in
    reached_by c.row-answer.result.run _ (rw w at c.row-answer.ensures) c.put_answer-end.ensures
