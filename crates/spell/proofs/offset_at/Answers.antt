-- The first byte tells which number it is; what is read of it is that of the offset. Assumes nothing.
use native.Mathlib.Omega.{arith}
use mathlib.Core.Path.{refl, sym, ◌∙◌}
use Rattle.std.proofs.lemmas.Result.{MatchResult-weaker, err_from_is_err_and}
use Rattle.spell.proofs.Numbers.{sign_there, sign_not_there, plus_read, plus_lost, minus_read, minus_lost}
use Rattle.spell.proofs.offset_at.Goals as goal

pub returns-then-ne : goal.returns-then-ne
returns-then-ne c =
    let other = sign_not_there c.args.text.now c.args.at _ refl c.get.result c.get.ensures.lookup.3 (sym c.ne.ensures ∙ c.if-ne.true) in
    MatchResult-weaker c.number_at.result c.number_at.ensures (λ x. plus_read (omega arith) c.requires.0 other) (λ p. plus_lost (omega arith) c.requires.0 other)

pub returns-in_err-minus : goal.returns-in_err-minus
returns-in_err-minus c =
    let sign = sign_there c.args.text.now c.args.at _ refl c.get.result c.get.ensures.lookup.3 (sym c.ne.ensures ∙ c.if-ne.false) in
    let p = err_from_is_err_and c.from_residual.result c.from_residual.ensures.1 in
    rw (p.1, p.2) (minus_lost (omega arith) c.requires.0 sign c.in_err-minus.ensures)

pub returns : goal.returns
returns c =
    let sign = sign_there c.args.text.now c.args.at _ refl c.get.result c.get.ensures.lookup.3 (sym c.ne.ensures ∙ c.if-ne.false) in
    minus_read (omega arith) c.requires.0 sign c.in_ok-minus.ensures
