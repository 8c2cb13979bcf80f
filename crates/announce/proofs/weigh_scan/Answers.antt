-- `weigh_scan`: the square of the table's edges decides refusal 7, its numbers refusal 8.
-- Assumes nothing.
use mathlib.Core.Path.{ap}
use Rattle.std.specs.Prelude.{Err}
use Rattle.limits.specs.declared.Refusal.{Refusal}
use Rattle.announce.specs.Announced.{checked_as}
use Rattle.announce.proofs.Weighing.{scan_bounds}
use Rattle.announce.proofs.Numbers.{all_small, fitting, seven, weighed_numbers}
use Rattle.announce.proofs.weigh_scan.Goals as goal

pub weigh-requires : goal.weigh-requires
weigh-requires c = ((scan_bounds c.requires).1, all_small c.requires (c.weights_of-weights.ensures c.requires) c.square_of.result c.square_of.ensures)

pub numbers_of-requires : goal.numbers_of-requires
numbers_of-requires c = fitting c.requires (c.weights_of-weights.ensures c.requires) c.square_of.result c.square_of.ensures c.in-Ok.ensures

pub returns-in-Ok : goal.returns-in-Ok
returns-in-Ok c = weighed_numbers c.requires (c.weights_of-weights.ensures c.requires) c.square_of.result c.square_of.ensures c.in-Ok.ensures c.numbers_of.ensures

pub returns-in-Err : goal.returns-in-Err
returns-in-Err c = seven c.requires (c.weights_of-weights.ensures c.requires) c.square_of.result c.square_of.ensures c.in-Err.ensures (ap (λ (r : Refusal). checked_as (Err r)) c.at.ensures)
