use Rattle.std.proofs.Common.{sym, ◌∙◌, arith}
use Rattle.test_vectors.proofs.Digits.{no_digit, one_digit, no_more, room, one_larger}
use Rattle.test_vectors.proofs.word.Goals as goal

pub overflow_mul-word : goal.overflow_mul-word
overflow_mul-word c = omega (arith, room c.loop-b.word c.loop-b.b-index c.loop-b.invariant.0 (omega arith))

pub overflow_add-word : goal.overflow_add-word
overflow_add-word c = omega (arith, room c.loop-b.word c.loop-b.b-index c.loop-b.invariant.0 (omega arith), c.in_ok-word.ensures.small)

pub returns-in_err-word : goal.returns-in_err-word
returns-in_err-word c =
    c.from_residual.ensures ∙ sym (no_digit c.loop-b.word c.args.digits.now c.loop-b.b-index c.loop-b-test.true (sym c.in_err-word.ensures.value)) ∙ c.loop-b.invariant.1

pub loop-b-preserved : goal.loop-b-preserved
loop-b-preserved c = (
  one_larger c.loop-b.word c.loop-b.b-index c.in_ok-word.field-0 c.loop-b.invariant.0 c.in_ok-word.ensures.small,
  sym (one_digit c.loop-b.word c.args.digits.now c.loop-b.b-index c.loop-b-test.true (sym c.in_ok-word.ensures.value)) ∙ c.loop-b.invariant.1,
)

pub returns : goal.returns
returns c = sym (no_more c.loop-b.word c.args.digits.now c.loop-b.b-index c.loop-b-test.false) ∙ c.loop-b.invariant.1
