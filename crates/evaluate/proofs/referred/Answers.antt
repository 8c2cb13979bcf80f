-- `evaluate::referred` meets its contract: the three ways of a reference: inside, below 0, past the rows known.
-- Assumes nothing.
use mathlib.Core.Path.{◌∙◌}
use native.Mathlib.Omega.{arith}
use Rattle.evaluate.proofs.References.{refers_to, default_below, held_inside, default_past}
use Rattle.evaluate.proofs.referred.Goals as goal
use Rattle.evaluate.proofs.referred.Goals.{then-noted-ge-RISE_OF_ZERO+else-q-from, else-noted-ge-RISE_OF_ZERO}

pub read-requires : goal.read-requires
read-requires c = c.requires.found _ (refers_to c.ranges.k c.from.ensures (c.from-2.ensures ∙ c.rising_of.ensures) c.if-noted-ge-RISE_OF_ZERO.true) (omega (arith, c.if-q-from.true, c.from-then-noted-ge-RISE_OF_ZERO.ensures))

pub returns-then-q-from : goal.returns-then-q-from
returns-then-q-from c = held_inside c.ranges.k c.from.ensures (c.from-2.ensures ∙ c.rising_of.ensures) _ _ _ _ c.from-then-noted-ge-RISE_OF_ZERO.ensures c.if-noted-ge-RISE_OF_ZERO.true c.if-q-from.true c.read.ensures

pub returns : goal.returns
returns c = elim c.if-noted-ge-RISE_OF_ZERO.branch [
  | then-noted-ge-RISE_OF_ZERO+else-q-from w ↦
      default_past c.ranges.k c.from.ensures (c.from-2.ensures ∙ c.rising_of.ensures) _ _ _ _ w.from-then-noted-ge-RISE_OF_ZERO.ensures w.if-noted-ge-RISE_OF_ZERO.true w.if-q-from.false c.reading.ensures
  | else-noted-ge-RISE_OF_ZERO w ↦ default_below c.ranges.k c.from.ensures (c.from-2.ensures ∙ c.rising_of.ensures) _ _ _ _ w.if-noted-ge-RISE_OF_ZERO.false c.reading.ensures
]
