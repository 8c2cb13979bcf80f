-- The blank, then the digits. Assumes nothing.
use Rattle.basis.proofs.Written.{then}
use Rattle.lines.proofs.put_spaced.Goals as goal

pub returns : goal.returns
returns c = then c.put_byte-next.ensures c.put_decimal.ensures
