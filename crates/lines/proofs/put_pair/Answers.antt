-- The letter, then the two numbers. Assumes nothing.
use Rattle.std.proofs.Common.{arith}
use Rattle.basis.proofs.Written.{then}
use Rattle.lines.proofs.put_pair.Goals as goal

pub put_spaced-b-requires : goal.put_spaced-b-requires
put_spaced-b-requires c = rw c.from.ensures (omega (arith, c.put_byte-a.ensures.ends, c.put_byte-a.ensures.size))

pub put_spaced-requires : goal.put_spaced-requires
put_spaced-requires c =
    let b = rw c.from.ensures at c.put_spaced-b.ensures in
    omega (arith, b.ends, b.size, c.put_byte-a.ensures.ends, c.put_byte-a.ensures.size)

pub returns : goal.returns
returns c =
    let b = rw c.from.ensures at c.put_spaced-b.ensures in
    then c.put_byte-a.ensures (then b c.put_spaced.ensures)
