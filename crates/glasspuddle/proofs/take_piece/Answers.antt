use Rattle.std.proofs.Common.{ℕ, List, true, false, ◌++◌, take, refl, arith}
use Rattle.std.proofs.lemmas.Result.{err_from_is_err_and}
use Rattle.glasspuddle.proofs.Putting.{written_more, written_all, written_whole}
use Rattle.glasspuddle.proofs.Pieces.{moved_more, moved_taken}
use Rattle.std.proofs.KnownBytes.{Appends-trans}
use Rattle.glasspuddle.proofs.take_piece.Goals as goal

pub returns-in_err-put-clause-taken : goal.returns-in_err-put-clause-taken
returns-in_err-put-clause-taken g c =
    let (text, moved, put, same) = c.loop-used.invariant in
    let p = err_from_is_err_and c.from_residual.result c.from_residual.ensures.1 in
    rw p.1 (
      c.step-advance.result.state,
      moved_taken (moved_more moved c.step-advance.result c.step-advance.new.table c.step-advance.new.store c.step-advance.new.part c.step-advance.new.text c.step-advance.ensures) false _ _
          (written_more false _ _ _ text _ put c.in_err-put.ensures) (λ e. cc),
    )

pub loop-used-preserved : goal.loop-used-preserved
loop-used-preserved g c =
    let (text, moved, put, same) = c.loop-used.invariant in
    let more : List ℕ = take c.step-advance.result.at c.step-advance.new.text in (
      text ++ more,
      moved_more moved c.step-advance.result c.step-advance.new.table c.step-advance.new.store c.step-advance.new.part c.step-advance.new.text c.step-advance.ensures,
      Appends-trans _ _ _ text more put (written_all true _ _ more c.in_ok-put.ensures refl),
      same,
    )

pub returns-else-reads_on-clause-taken : goal.returns-else-reads_on-clause-taken
returns-else-reads_on-clause-taken g c =
    let (text, moved, put, same) = c.loop-used.invariant in
    moved_taken moved true _ _ (written_whole true _ _ text put) (λ _ e. cc)

pub returns-after-loop-used-clause-taken : goal.returns-after-loop-used-clause-taken
returns-after-loop-used-clause-taken g c =
    let (text, moved, put, same) = c.loop-used.invariant in
    moved_taken moved true _ _ (written_whole true _ _ text put) (λ _ e. omega (arith, moved.within))
