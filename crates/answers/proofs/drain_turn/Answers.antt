-- The call and its lines. Assumes nothing.
use borrow.Author.Rules.{rules}
use native.Mathlib.Omega.{arith}
use mathlib.Core.Path.{◌≡◌}
use lib.ListN.{length}
use Rattle.records.specs.Kinds.{most_room}
use Rattle.answers.proofs.Answers.{room_for, drain_count, reached_by}
use Rattle.answers.proofs.drain_turn.Goals as goal

pub put_answer-end-requires : goal.put_answer-end-requires
put_answer-end-requires c = let e : length c.drain-answer.new.out ≡ most_room = search rules in
    room_for c.drain-answer.result.run _ _ _ _ e (drain_count _ _ _ _ e c.drain-answer.ensures) (omega arith)

pub returns : goal.returns
returns c = reached_by c.drain-answer.result.run _ c.drain-answer.ensures c.put_answer-end.ensures
