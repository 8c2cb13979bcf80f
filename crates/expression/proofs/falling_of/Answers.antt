-- `expression::falling_of` meets its contract: 128 less a signed byte makes a number from 1 to 256.
-- Assumes nothing.
use mir.Facts.{to_z-of_z}
use Rattle.expression.proofs.Measures.{wider, falling_counted}
use Rattle.expression.proofs.falling_of.Goals as goal

pub returns : goal.returns
returns c = let r = falling_counted _ c.ranges.k in
    rw (c.from.ensures, to_z-of_z c.ranges.k, to_z-of_z (wider _ c.ranges.k), to_z-of_z r.fits) r.is
