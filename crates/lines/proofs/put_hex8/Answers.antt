-- The digits that the kit's `hex` gives. Assumes nothing.
use Rattle.std.proofs.Common.{sym, ap, ◌∙◌, arith, length}
use Rattle.std.proofs.lemmas.Result.{IfOk-at_ok}
use Rattle.basis.proofs.Written.{wrote_as}
use Rattle.wire.proofs.Words.{wrote_copied}
use Rattle.hex.specs.Hex.{encode_lower}
use Rattle.lines.proofs.Lengths.{hex8_length}
use Rattle.lines.proofs.Hex.{hex8_as_text}
use Rattle.lines.proofs.put_hex8.Goals as goal

pub returns : goal.returns
returns c =
    let written = IfOk-at_ok _ c.unwrap.ensures c.encode_to_slice.ensures.written in
    let text = written ∙ ap encode_lower c.to_be_bytes.ensures ∙ hex8_as_text c.args.w in
    wrote_as (sym text) (wrote_copied _ _ _ _ (omega (arith, ap length text, hex8_length c.args.w)) c.requires)
