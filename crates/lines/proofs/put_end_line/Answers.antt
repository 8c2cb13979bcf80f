-- The word `end` and the number, then the line's end. Assumes nothing.
use Rattle.std.proofs.Common.{arith}
use Rattle.basis.proofs.Written.{then}
use Rattle.lines.specs.Lines.{end_line}
use Rattle.lines.proofs.Lengths.{word_digits}
use Rattle.lines.proofs.put_end_line.Goals as goal

pub put_spaced-b-requires : goal.put_spaced-b-requires
put_spaced-b-requires c = rw c.from.ensures (omega (arith, word_digits _ c.ranges.rows.fits, c.put_bytes-a.ensures.ends, c.put_bytes-a.ensures.size))

pub put_byte-requires : goal.put_byte-requires
put_byte-requires c =
    let b = rw c.from.ensures at c.put_spaced-b.ensures in
    omega (arith, word_digits _ c.ranges.rows.fits, c.put_bytes-a.ensures.ends, c.put_bytes-a.ensures.size, b.ends, b.size)

pub returns : goal.returns
unfolding end_line
returns c =
    let b = rw c.from.ensures at c.put_spaced-b.ensures in
    then c.put_bytes-a.ensures (then b c.put_byte.ensures)
