-- Each return and each turn as one law. Assumes nothing.
use native.Mathlib.Omega.{arith}
use mathlib.Core.Path.{sym, ◌∙◌}
use Rattle.spell.proofs.Numbers.{byte_there, byte_past, first_digit, first_lost, then_digit, then_stop, then_past, then_lost}
use Rattle.spell.proofs.number_at.Goals as goal
use Rattle.spell.proofs.number_at.Goals.{then-not-is_ascii_digit-via-then-not-is_ascii_digit, then-not-is_ascii_digit-via-else-not-is_ascii_digit+then-what-eq0}

pub returns-in_default : goal.returns-in_default
returns-in_default c =
    let e = byte_past c.args.text.now c.args.at c.in_default.ensures.lookup.3 in
    first_lost (omega arith) (omega arith) (omega arith) (omega arith) (λ d f l m. omega arith)

pub returns-then-first-least : goal.returns-then-first-least
returns-then-first-least c =
    let e = c.in-Some.ensures.lookup.3.1 256 in
    first_lost (omega arith) (omega arith) (omega arith) (omega arith) (λ d f l m. omega (arith, c.then-first-least.either))

pub loop-i-init : goal.loop-i-init
loop-i-init c =
    let e = c.in-Some.ensures.lookup.3.1 256 in
    first_digit (omega arith) (omega arith) c.in-Some.ensures.lookup.3.0 (omega (arith, c.from-what.ensures)) (omega (arith, c.from-what.ensures)) (omega (arith, c.from-what.ensures))

pub returns-then-b-stop : goal.returns-then-b-stop
returns-then-b-stop c = then_stop c.loop-i.invariant (omega arith) (sym (byte_there c.args.text.now c.loop-i.i c.loop-i-test.true) ∙ c.if-b-stop.true)

pub returns-then-not-is_ascii_digit : goal.returns-then-not-is_ascii_digit
returns-then-not-is_ascii_digit c =
    let e = byte_there c.args.text.now c.loop-i.i c.loop-i-test.true in
    then_lost c.loop-i.invariant (omega arith) (λ f. c.if-b-stop.false (omega arith)) λ d f l m o.
    elim c.then-not-is_ascii_digit.branch [
      | then-not-is_ascii_digit-via-then-not-is_ascii_digit w ↦ omega (arith, w.if-not-is_ascii_digit.ensures.cases)
      | then-not-is_ascii_digit-via-else-not-is_ascii_digit+then-what-eq0 w ↦ omega (arith, w.if-what-eq0.true)
    ]

pub returns-then-more-from : goal.returns-then-more-from
returns-then-more-from c =
    let e = byte_there c.args.text.now c.loop-i.i c.loop-i-test.true in
    then_lost c.loop-i.invariant (omega arith) (λ f. c.if-b-stop.false (omega arith)) λ d f l m o.
    omega (arith, c.from.ensures, c.from-in-loop-i.ensures, c.from-in-loop-i-2.ensures)

pub loop-i-preserved : goal.loop-i-preserved
loop-i-preserved c =
    let e = byte_there c.args.text.now c.loop-i.i c.loop-i-test.true in
    then_digit c.loop-i.invariant {d = c.from-in-loop-i.result} c.loop-i-test.true
    (omega (arith, c.from-in-loop-i.ensures, c.if-not-is_ascii_digit.ensures.cases))
    (omega (arith, c.from-in-loop-i.ensures, c.if-not-is_ascii_digit.ensures.cases))
    c.if-what-eq0.false (omega (arith, c.from.ensures)) (omega (arith, c.from-in-loop-i-2.ensures))

pub returns : goal.returns
returns c = then_past c.loop-i.invariant (omega arith) (omega arith)
