use Rattle.std.proofs.Common.{true, false, refl, sym, arith}
use Rattle.std.proofs.KnownBytes.{Keeps-refl}
use Rattle.std.proofs.lemmas.Result.{err_from_is_err_and}
use Rattle.glasspuddle.proofs.Hearing.{hearing_none, kept_none, heard_end, heard_more, hearing_more}
use Rattle.glasspuddle.proofs.take_input.Goals as goal

pub loop-ends-init : goal.loop-ends-init
loop-ends-init g c = hearing_none _ _ _ _ _ _ c.begin-latest.ensures c.requires.0

pub returns-in_err-n-clause-heard : goal.returns-in_err-n-clause-heard
returns-in_err-n-clause-heard g c =
    let p = err_from_is_err_and c.from_residual.result c.from_residual.ensures.1 in
    rw (p.1, c.read_some.ensures.output) (c.loop-ends.latest, heard_end c.loop-ends.invariant false _ c.in_err-n.ensures.read (λ e. cc))

pub returns-then-n-eq0-clause-heard : goal.returns-then-n-eq0-clause-heard
returns-then-n-eq0-clause-heard g c =
    let (fits, read, end) = c.in_ok-n.ensures.read in
    rw c.in_ok-n.ensures.output (heard_end c.loop-ends.invariant true _ (kept_none _ _ _ _ c.if-n-eq0.true read) (λ _ _ _. end c.if-n-eq0.true (omega arith)))

pub returns-in_err-latest-clause-heard : goal.returns-in_err-latest-clause-heard
returns-in_err-latest-clause-heard g c =
    let p = err_from_is_err_and c.from_residual-in_err-latest.result c.from_residual-in_err-latest.ensures.1 in
    let taken = rw c.in_ok-n.ensures.output at c.in_err-latest.ensures.taken in
    rw (p.1, c.in_err-latest.ensures.input) (taken.0, heard_more c.loop-ends.invariant (sym c.loop-ends-test.ensures) _ _ c.in_ok-n.ensures.read.1 taken.1)

pub loop-ends-preserved : goal.loop-ends-preserved
loop-ends-preserved g c =
    let taken = rw c.in_ok-n.ensures.output at c.in_ok-latest.ensures.taken in
    rw c.in_ok-latest.ensures.input (hearing_more c.loop-ends.invariant (sym c.loop-ends-test.ensures) _ _ c.in_ok-n.ensures.read.1 taken refl)

pub returns-else-latest-clause-heard : goal.returns-else-latest-clause-heard
returns-else-latest-clause-heard g c =
    heard_end c.loop-ends.invariant true _ (Keeps-refl _) (λ _ _ h. absurd (omega arith))

pub returns-after-loop-ends-clause-heard : goal.returns-after-loop-ends-clause-heard
returns-after-loop-ends-clause-heard g c =
    heard_end c.loop-ends.invariant true _ (Keeps-refl _) (λ _ e. cc)
