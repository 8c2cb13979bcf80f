-- `output::give` meets its contract: not due, or a record 50 with or without a record 51 behind it.
-- Assumes nothing.
use native.Mathlib.Omega.{arith}
use Prim.Native.Nat.{◌-◌}
use Rattle.records.proofs.Sizes.{value_record_length}
use Rattle.output.proofs.Wrotes.{wrote_none}
use Rattle.output.proofs.Gives.{room_for_value, room_for_trigger, word_found, early_gives_none, late_gives_none, value_and_trigger, not_a_trigger, false_trigger}
use Rattle.output.proofs.give.Goals as goal
use Rattle.output.proofs.give.Goals.{else-roles-y-eq1-via-then-roles-y-eq1+else-word-ne0, else-roles-y-eq1-via-else-roles-y-eq1}

pub returns-then-t-ahead : goal.returns-then-t-ahead
returns-then-t-ahead c = λ types kept streams f l some. wrote_none _ _ (early_gives_none c.args.roles.now c.args.look.now kept c.args.store.now c.args.known c.args.t c.args.y c.from-ahead.ensures c.if-t-ahead.true)

pub returns-then-known-position : goal.returns-then-known-position
returns-then-known-position c = λ types kept streams f l some. wrote_none _ _ (late_gives_none c.args.roles.now c.args.look.now kept c.args.store.now c.args.known c.args.t c.args.y c.from-ahead.ensures c.if-t-ahead.false c.if-known-position.true)

pub word-word-requires : goal.word-word-requires
word-word-requires c = rw c.from-ahead.ensures (c.requires.found (omega (arith, c.from-ahead.ensures, c.if-t-ahead.false)) (omega (arith, c.from-ahead.ensures, c.if-known-position.false)))

pub put_value-next-requires : goal.put_value-next-requires
put_value-next-requires c = omega (arith, c.requires.fits, room_for_value c.args.roles.now c.args.y)

pub put_trigger-requires : goal.put_trigger-requires
put_trigger-requires c = omega (arith, c.requires.fits, room_for_trigger c.args.roles.now c.args.y c.if-roles-y-eq1.true, c.put_value-next.ensures.ends, c.put_value-next.ensures.size, value_record_length c.args.y (c.args.t - c.from-ahead.result) c.word-word.result)

pub returns-then-word-ne0 : goal.returns-then-word-ne0
returns-then-word-ne0 c = λ types kept streams f l some. value_and_trigger c.args.roles.now c.args.look.now kept c.args.store.now c.args.known c.args.t c.args.y c.from-ahead.ensures c.if-t-ahead.false c.if-known-position.false (word_found c.args.roles.now c.args.look.now kept c.args.store.now c.args.known c.args.t c.args.y f l some c.from-ahead.ensures c.if-t-ahead.false c.if-known-position.false c.word-word.ensures) c.put_value-next.ensures c.if-roles-y-eq1.true c.if-word-ne0.true c.put_trigger.ensures

pub returns : goal.returns
returns c = λ types kept streams f l some.
    let found = word_found c.args.roles.now c.args.look.now kept c.args.store.now c.args.known c.args.t c.args.y f l some c.from-ahead.ensures c.if-t-ahead.false c.if-known-position.false c.word-word.ensures in
    elim c.else-roles-y-eq1.branch [
      | else-roles-y-eq1-via-then-roles-y-eq1+else-word-ne0 w ↦
          false_trigger c.args.roles.now c.args.look.now kept c.args.store.now c.args.known c.args.t c.args.y c.from-ahead.ensures c.if-t-ahead.false c.if-known-position.false found c.put_value-next.ensures w.if-roles-y-eq1.true w.if-word-ne0.false
      | else-roles-y-eq1-via-else-roles-y-eq1 w ↦
          not_a_trigger c.args.roles.now c.args.look.now kept c.args.store.now c.args.known c.args.t c.args.y c.from-ahead.ensures c.if-t-ahead.false c.if-known-position.false found c.put_value-next.ensures w.if-roles-y-eq1.false
    ]
