-- `wire::put_word` meets its contract: std's four bytes, one after the other.
-- Assumes nothing.
use Rattle.std.proofs.Common.{ℕ, List, [], ◌∷◌, get_or, sym, ap, ◌∙◌}
use Rattle.basis.proofs.Written.{then, wrote_as}
use Rattle.wire.proofs.Words.{bytes_of_word}
use Rattle.wire.proofs.put_word.Goals as goal

four : List ℕ → List ℕ
four l = get_or l 0 0 ∷ get_or l 1 0 ∷ get_or l 2 0 ∷ get_or l 3 0 ∷ []

pub returns : goal.returns
unfolding four
returns c =
    wrote_as (sym (ap four c.to_le_bytes.ensures ∙ bytes_of_word c.args.w)) (then (then (then c.put_byte-one.ensures c.put_byte-two.ensures) c.put_byte-three.ensures) c.put_byte.ensures)
