-- The letter and the number, then the line's end. Assumes nothing.
use native.Mathlib.Omega.{arith}
use Rattle.basis.proofs.Written.{then}
use Rattle.lines.specs.Lines.{stop_line}
use Rattle.lines.proofs.Lengths.{long_digits}
use Rattle.lines.proofs.put_stop_line.Goals as goal

pub put_spaced-b-requires : goal.put_spaced-b-requires
put_spaced-b-requires c = omega (arith, long_digits c.args.n (omega arith), c.put_byte-a.ensures.ends, c.put_byte-a.ensures.size)

pub put_byte-requires : goal.put_byte-requires
put_byte-requires c = omega (arith, long_digits c.args.n (omega arith), c.put_byte-a.ensures.ends, c.put_byte-a.ensures.size, c.put_spaced-b.ensures.ends, c.put_spaced-b.ensures.size)

pub returns : goal.returns
unfolding stop_line
returns c = then c.put_byte-a.ensures (then c.put_spaced-b.ensures c.put_byte.ensures)
