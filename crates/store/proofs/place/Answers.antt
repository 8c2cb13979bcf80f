-- `store::place` meets its contract: the slot is as far past the lap as the position, or a whole lap less.
-- Assumes nothing.
use mathlib.Core.Path.{refl}
use Rattle.store.proofs.Places.{place_in_lem, place_past}
use Rattle.store.proofs.place.Goals as goal
use Rattle.store.proofs.place.Goals.{then-far-n, else-far-n}

pub returns : goal.returns
returns c = elim c.if-far-n.branch [
  | then-far-n w ↦ place_in_lem _ _ _ refl w.slot-is w.if-far-n.true
  | else-far-n w ↦ place_past _ _ _ refl w.slot-is w.if-far-n.false
]
