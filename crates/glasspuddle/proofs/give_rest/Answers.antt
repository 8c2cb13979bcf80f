use Rattle.std.proofs.Common.{true, false, refl, sym, length-take-le}
use Rattle.std.proofs.lemmas.Result.{err_from_is_err_and}
use Rattle.std.proofs.Common.{rules}
use Rattle.feed.proofs.Stepping.{unfinished}
use Rattle.glasspuddle.proofs.Ending.{resting_first, resting_closes, resting_more, rested}
use Rattle.glasspuddle.proofs.give_rest.Goals as goal

pub slice_bounds-put-end : goal.slice_bounds-put-end
slice_bounds-put-end g c = (c.end-ended.ensures.prints c.args.store.now c.requires.0.0).fits

pub slice_bounds-put-end-2 : goal.slice_bounds-put-end-2
slice_bounds-put-end-2 g c = sym (length-take-le _ _ (c.end-ended.ensures.prints c.args.store.now c.requires.0.0).fits)

pub loop-left-init : goal.loop-left-init
loop-left-init g c = resting_first true _ _ _ _ _ _ _ c.end-ended.ensures c.in_ok-put.ensures

pub finish-more-requires : goal.finish-more-requires
finish-more-requires g c = (unfinished (resting_closes c.loop-left.invariant _ c.requires.0.1) c.in-Some.is, search rules)

pub loop-left-preserved : goal.loop-left-preserved
loop-left-preserved g c = resting_more c.loop-left.invariant c.in-Some.is true _ _ _ _ refl c.finish-more.ensures c.in_ok-put-2.ensures

pub returns-in_err-put-2 : goal.returns-in_err-put-2
returns-in_err-put-2 g c =
    let p = err_from_is_err_and c.from_residual-in_err-put-2.result c.from_residual-in_err-put-2.ensures.1 in
    rw p.1 (rested (resting_more c.loop-left.invariant c.in-Some.is false _ _ _ _ refl c.finish-more.ensures c.in_err-put-2.ensures) (λ e. cc))
