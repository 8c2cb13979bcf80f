-- `weigh`: where the relaxed diagonal is below 0 the look-aheads fit, since a walk of rank r totals at most 127 r. It owns the square, so what
-- its parts say of one that is lent holds of it.
-- Assumes nothing.
use Rattle.std.proofs.Common.{Ok, Err, sym, ap, ◌∙◌, rules}
use Rattle.square.specs.Square.{lent_cell}
use Rattle.square.proofs.Rows.{lent_small, lent_weighed}
use Rattle.square.proofs.Weighed.{weighed_true, weighed_false, relaxed_fits}
use Rattle.square.proofs.weigh.Goals as goal

pub longest-d-requires : goal.longest-d-requires
longest-d-requires c = (search rules, lent_small c.args.a _ c.well_formed.0 c.requires.1)

pub look_aheads-requires : goal.look_aheads-requires
look_aheads-requires c = let d = c.longest-d in
    (search rules, relaxed_fits c.args.s (lent_cell c.args.a) (lent_cell d.result) c.requires.0 d.ensures (lent_small c.args.a _ c.well_formed.0 c.requires.1) (sym c.loops_below.ensures ∙ c.if-loops_below.true))

pub returns-then-loops_below : goal.returns-then-loops_below
returns-then-loops_below c = let d = c.longest-d in
    ap Ok c.look_aheads.ensures ∙ weighed_true c.args.s (lent_cell c.args.a) (lent_cell d.result) c.requires.0 d.ensures (sym c.loops_below.ensures ∙ c.if-loops_below.true) ∙ lent_weighed c.args.a _ c.well_formed.0 c.args.s c.requires.0

pub place_of_loop-place-requires : goal.place_of_loop-place-requires
place_of_loop-place-requires c = (search rules, lent_small c.args.a _ c.well_formed.0 c.requires.1)

pub returns : goal.returns
returns c = let d = c.longest-d in
    ap Err (c.unwrap_or.ensures ∙ c.place_of_loop-place.ensures) ∙ weighed_false c.args.s (lent_cell c.args.a) (lent_cell d.result) c.requires.0 d.ensures (sym c.loops_below.ensures ∙ c.if-loops_below.false) ∙ lent_weighed c.args.a _ c.well_formed.0 c.args.s c.requires.0
