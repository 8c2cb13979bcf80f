-- The letter and the two numbers, the value, then the line's end. Assumes nothing.
use Rattle.std.proofs.Common.{arith}
use Rattle.basis.proofs.Written.{then}
use Rattle.lines.specs.Lines.{value_line}
use Rattle.lines.proofs.Lengths.{byte_and_word, hex8_length}
use Rattle.lines.proofs.put_value_line.Goals as goal

pub put_pair-a-requires : goal.put_pair-a-requires
put_pair-a-requires c = rw c.from.ensures (omega (arith, byte_and_word _ _ c.ranges.stream.fits c.ranges.position.fits))

pub put_byte-b-requires : goal.put_byte-b-requires
put_byte-b-requires c =
    let a = rw c.from.ensures at c.put_pair-a.ensures in
    omega (arith, byte_and_word _ _ c.ranges.stream.fits c.ranges.position.fits, a.ends, a.size)

pub put_hex8-c-requires : goal.put_hex8-c-requires
put_hex8-c-requires c =
    let a = rw c.from.ensures at c.put_pair-a.ensures in
    omega (arith, byte_and_word _ _ c.ranges.stream.fits c.ranges.position.fits, a.ends, a.size, c.put_byte-b.ensures.ends, c.put_byte-b.ensures.size)

pub put_byte-requires : goal.put_byte-requires
put_byte-requires c =
    let a = rw c.from.ensures at c.put_pair-a.ensures in
    omega (arith, byte_and_word _ _ c.ranges.stream.fits c.ranges.position.fits, a.ends, a.size, c.put_byte-b.ensures.ends, c.put_byte-b.ensures.size, c.put_hex8-c.ensures.ends, c.put_hex8-c.ensures.size, hex8_length c.args.value)

pub returns : goal.returns
unfolding value_line
returns c =
    let a = rw c.from.ensures at c.put_pair-a.ensures in
    then a (then c.put_byte-b.ensures (then c.put_hex8-c.ensures c.put_byte.ensures))
