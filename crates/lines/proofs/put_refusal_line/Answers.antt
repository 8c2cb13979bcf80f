-- The letter and the two numbers, then the line's end. Assumes nothing.
use Rattle.std.proofs.Common.{arith}
use Rattle.basis.proofs.Written.{then}
use Rattle.lines.specs.Lines.{refusal_line}
use Rattle.lines.proofs.Lengths.{byte_and_long}
use Rattle.lines.proofs.put_refusal_line.Goals as goal

pub put_pair-a-requires : goal.put_pair-a-requires
put_pair-a-requires c = omega (arith, byte_and_long _ _ c.ranges.number.fits c.ranges.place.fits)

pub put_byte-requires : goal.put_byte-requires
put_byte-requires c = omega (arith, byte_and_long _ _ c.ranges.number.fits c.ranges.place.fits, c.put_pair-a.ensures.ends, c.put_pair-a.ensures.size)

pub returns : goal.returns
unfolding refusal_line
returns c = then c.put_pair-a.ensures c.put_byte.ensures
