-- `numbers_of`: refusal 8, or the numbers.
-- Assumes nothing.
use native.Mathlib.Omega.{arith}
use mathlib.Core.Path.{ap, ◌∙◌}
use Prim.Native.Nat.{◌-◌}
use lib.ListN.{get_or}
use Rattle.basis.proofs.Sums.{total_bound}
use Rattle.records.specs.Kinds.{room_for}
use Rattle.std.specs.Prelude.{Err}
use Rattle.limits.specs.declared.Refusal.{Refusal}
use Rattle.announce.specs.Announced.{checked_as}
use Rattle.announce.proofs.Numbers.{too_many, few_enough}
use Rattle.announce.proofs.numbers_of.Goals as goal

pub returns-then-totals-gt-STORE_MOST : goal.returns-then-totals-gt-STORE_MOST
returns-then-totals-gt-STORE_MOST c = too_many c.args.scan c.args.look _ c.kept_of-kept.ensures c.sums-totals.ensures.0 c.if-totals-gt-STORE_MOST.true (ap (λ (r : Refusal). checked_as (Err r)) c.at.ensures)

pub room_of-room-requires : goal.room_of-room-requires
room_of-room-requires c = omega (arith, c.requires.few, c.sums-totals.ensures.1, total_bound (λ v. get_or c.args.scan.roles v 0) c.args.scan.streams 1 (λ v h. c.requires.roles v (omega (arith, c.requires.few))))

pub returns : goal.returns
returns c = few_enough c.args.scan c.args.look _ c.kept_of-kept.ensures c.sums-totals.ensures.0 (omega (arith, c.if-totals-gt-STORE_MOST.false))
    (c.room_of-room.ensures ∙ ap (room_for (c.args.scan.streams - c.args.scan.inputs)) c.sums-totals.ensures.1)
    c.sums-totals.ensures.2
