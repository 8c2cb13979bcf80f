-- `prepare`: by numbers that are vouched for, or not prepared.
-- Assumes nothing.
use mathlib.Core.Path.{ap, ◌∙◌}
use Prim.Native.Nat.{◌-◌}
use native.Mathlib.Omega.{arith}
use Rattle.records.specs.Kinds.{room_for}
use Rattle.prepare.proofs.Announcing.{announced_certified}
use Rattle.prepare.proofs.Vouched.{vouched_few, vouched_some, vouched_triggers, prepared}
use Rattle.prepare.proofs.prepare.Goals as goal

pub returns-in_err-found : goal.returns-in_err-found
returns-in_err-found c = rw c.from_residual.ensures (announced_certified _ _ _ c.in_err-found.ensures)

pub overflow_sub-found : goal.overflow_sub-found
overflow_sub-found c = vouched_some c.in_ok-found.ensures.0

pub room_of-room-requires : goal.room_of-room-requires
room_of-room-requires c = let v = c.in_ok-found.ensures in omega (arith, vouched_some v.0, vouched_few v.0, vouched_triggers v.0, v.1.triggers_sum)

pub returns : goal.returns
returns c = let v = c.in_ok-found.ensures in
    prepared v.0 c.requires.look_long c.requires.kept_long v.1.words_sum (c.room_of-room.ensures ∙ ap (room_for (c.in_ok-found.found.streams - c.in_ok-found.found.inputs)) v.1.triggers_sum) v.1.closing_most
