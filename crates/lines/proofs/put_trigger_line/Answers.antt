-- The letter and the two numbers, then the line's end. Assumes nothing.
use Rattle.std.proofs.Common.{arith}
use Rattle.basis.proofs.Written.{then}
use Rattle.lines.specs.Lines.{trigger_line}
use Rattle.lines.proofs.Lengths.{byte_and_word}
use Rattle.lines.proofs.put_trigger_line.Goals as goal

pub put_pair-a-requires : goal.put_pair-a-requires
put_pair-a-requires c = rw c.from.ensures (omega (arith, byte_and_word _ _ c.ranges.stream.fits c.ranges.position.fits))

pub put_byte-requires : goal.put_byte-requires
put_byte-requires c =
    let a = rw c.from.ensures at c.put_pair-a.ensures in
    omega (arith, byte_and_word _ _ c.ranges.stream.fits c.ranges.position.fits, a.ends, a.size)

pub returns : goal.returns
unfolding trigger_line
returns c =
    let a = rw c.from.ensures at c.put_pair-a.ensures in
    then a c.put_byte.ensures
