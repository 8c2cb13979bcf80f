-- Each return and each turn as one law. Assumes nothing.
use native.Mathlib.Omega.{arith}
use mathlib.Core.Path.{subst}
use Rattle.std.proofs.Common.{ℕ}
use Rattle.spell.specs.Answers.{NoDigit, DigitRead}
use Rattle.spell.proofs.Hex.{none_read, all_read, room, past_end, stuck, one_read}
use Rattle.spell.proofs.hex_at.Goals as goal

pub loop-n-init : goal.loop-n-init
loop-n-init c = none_read c.requires

pub overflow_mul-what : goal.overflow_mul-what
overflow_mul-what c = omega (arith, room c.loop-n.invariant c.loop-n-test.true)

pub returns-in_default : goal.returns-in_default
returns-in_default c = past_end c.loop-n.invariant c.loop-n-test.true c.in_default.ensures.lookup.3

pub returns-in_default-digit_of : goal.returns-in_default-digit_of
returns-in_default-digit_of c =
    stuck c.loop-n.invariant c.loop-n-test.true (subst NoDigit (c.in-Some.ensures.lookup.3.1 256) c.in_default-digit_of.ensures)

pub overflow_add-what : goal.overflow_add-what
overflow_add-what c = omega (arith, room c.loop-n.invariant c.loop-n-test.true, c.in-Some-digit_of.ensures.small)

pub loop-n-preserved : goal.loop-n-preserved
loop-n-preserved c =
    one_read c.loop-n.invariant c.loop-n-test.true c.in-Some.ensures.lookup.3.0
    (subst (λ (b : ℕ). DigitRead b c.in-Some-digit_of.d) (c.in-Some.ensures.lookup.3.1 256) c.in-Some-digit_of.ensures)

pub returns : goal.returns
returns c = all_read c.loop-n.invariant c.loop-n-test.false
