-- `output::emit` meets its contract: its loop goes through the outputs in stream order.
-- Assumes nothing.
use Rattle.output.proofs.Gives.{given_none, given_more, given_all, room_here, keeps_some, can_give}
use Rattle.output.proofs.emit.Goals as goal

pub loop-y-init : goal.loop-y-init
loop-y-init c = λ types kept f. given_none c.args.roles.now c.args.look.now kept c.args.store.now c.args.known c.args.t c.args.inputs c.args.streams c.args.out.now c.requires.fits

pub give-count-requires : goal.give-count-requires
give-count-requires c = can_give c.requires c.loop-y-test.true (room_here c.args.roles.now c.args.look.now c.requires.kept c.args.store.now c.args.known c.args.t _ _ _ _ _ _ c.loop-y-test.true (c.loop-y.invariant c.requires.types c.requires.kept c.requires.framed))

pub loop-y-preserved : goal.loop-y-preserved
loop-y-preserved c = λ types kept f. given_more c.args.roles.now c.args.look.now kept c.args.store.now c.args.known c.args.t _ _ _ _ _ _ c.loop-y-test.true (c.loop-y.invariant types kept f) (c.give-count.ensures types kept _ f c.loop-y-test.true (keeps_some c.requires c.loop-y-test.true f))

pub shape_of-out : goal.shape_of-out
shape_of-out c = (c.loop-y.invariant c.requires.types c.requires.kept c.requires.framed).wrote.size

pub returns : goal.returns
returns c = λ types kept f. given_all c.args.roles.now c.args.look.now kept c.args.store.now c.args.known c.args.t _ _ _ _ _ _ c.loop-y-test.false (c.loop-y.invariant types kept f)
