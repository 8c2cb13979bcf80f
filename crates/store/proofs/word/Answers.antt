-- `store::word` meets its contract: the word read lies in the store.
-- Assumes nothing.
use native.Mathlib.Omega.{arith}
use Rattle.store.proofs.Places.{place_inside}
use Rattle.store.proofs.word.Goals as goal

pub offset_bounds-store-place : goal.offset_bounds-store-place
offset_bounds-store-place c = omega (arith, place_inside c.requires c.place.ensures, c.well_formed)

pub bounds-store-place : goal.bounds-store-place
bounds-store-place c = place_inside c.requires c.place.ensures
