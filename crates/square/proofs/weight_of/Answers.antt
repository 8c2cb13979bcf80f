-- `weight_of`: a number below 65536 less 129 fits, and is not NONE.
-- Assumes nothing.
use Rattle.std.proofs.Common.{arith, ap, ◌∙◌}
use mir.Syntax.{w64}
use mir.Facts.{to_z-of_z}
use mir.ValLaws.{to_z_pos}
use Rattle.square.specs.Square.{best}
use Rattle.square.proofs.Cells.{rise_none, rise_some, weight_fits}
use Rattle.square.proofs.weight_of.Goals as goal

pub returns-then-rise-eq0 : goal.returns-then-rise-eq0
returns-then-rise-eq0 c = rise_none c.if-rise-eq0.true

pub returns : goal.returns
returns c = rw (c.from.ensures, c.from-2.ensures, to_z_pos w64 c.args.rise (omega (arith, c.ranges.rise.fits))) (ap best (to_z-of_z (weight_fits c.args.rise c.ranges.rise.fits)) ∙ rise_some c.args.rise c.ranges.rise.fits c.if-rise-eq0.false)
