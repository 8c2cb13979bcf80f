use Rattle.std.proofs.KnownBytes.{Appends-kept}
use Rattle.glasspuddle.proofs.Putting.{put_more}
use Rattle.glasspuddle.proofs.put.Goals as goal
use Rattle.glasspuddle.proofs.put.Goals.{in-Ok, in-Err+else-not-again}

pub loop-preserved : goal.loop-preserved
loop-preserved g c =
    let (within, put) = c.loop.invariant in
    elim c.match-write.branch [
      | in-Ok w ↦ rw w.done-is (put_more _ _ _ c.args.text.now c.loop.done w.in-Ok.n within put w.in-Ok.ensures.bound w.in-Ok.ensures.bytes)
      | in-Err+else-not-again w ↦ rw w.done-is (within, Appends-kept _ _ _ _ put w.in-Err.ensures.bytes)
    ]
