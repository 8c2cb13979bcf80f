-- The digits that the kit's `itoa` gives. Assumes nothing.
use Rattle.std.proofs.Common.{sym, ap, ◌∙◌, arith, length}
use Rattle.std.specs.Fmt.{decimal as std_decimal}
use Rattle.basis.proofs.Written.{wrote_as}
use Rattle.lines.proofs.Decimals.{decimal_as_std}
use Rattle.lines.proofs.put_decimal.Goals as goal

pub put_bytes-requires : goal.put_bytes-requires
put_bytes-requires c =
    let text = c.as_bytes.ensures.value ∙ c.format.ensures.text ∙ ap std_decimal (omega arith) ∙ decimal_as_std c.args.x c.ranges.x.fits in
    omega (arith, ap length text)

pub returns : goal.returns
returns c =
    let text = c.as_bytes.ensures.value ∙ c.format.ensures.text ∙ ap std_decimal (omega arith) ∙ decimal_as_std c.args.x c.ranges.x.fits in
    wrote_as (sym text) c.put_bytes.ensures
