-- `place_of_loop`: the closure answers whether a stream has a short loop.
-- Assumes nothing.
use Rattle.std.proofs.Common.{◌≡◌, ℕ, true, false, rules, tests}
use Rattle.std.proofs.lemmas.Iterator.{first_from_Range}
use Rattle.walks.specs.Longest.{short_loop_of}
use Rattle.square.specs.Square.{lent_cell}
use Rattle.square.proofs.Tested.{place_found}
use Rattle.square.proofs.place_of_loop.Goals as goal

pub returns : goal.returns
returns c =
    let loops = short_loop_of c.args.s (lent_cell c.args.a.now) in
    place_found (lent_cell c.args.a.now) c.args.s c.find.result
    (first_from_Range _ _ _ _ (λ (v : ℕ). loops v ≡ true) (λ (v : ℕ). loops v ≡ false) c.find.ensures.ran (λ x q k. search (rules, tests)) (λ x q k. search (rules, tests)))
