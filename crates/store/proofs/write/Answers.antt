-- `store::write` meets its contract: the word written lies in the store.
-- Assumes nothing.
use native.Mathlib.Omega.{arith}
use Rattle.store.proofs.Places.{place_inside}
use Rattle.store.proofs.write.Goals as goal

pub offset_bounds-store-i : goal.offset_bounds-store-i
offset_bounds-store-i c = omega (arith, place_inside c.requires c.place-i.ensures, c.well_formed)

pub bounds-store-i : goal.bounds-store-i
bounds-store-i c = place_inside c.requires c.place-i.ensures
