-- `short_loop`: `line` holds the largest totals of n + 1 edges, and fewer edges than that lead back below 0.
-- Assumes nothing.
use Rattle.std.proofs.Common.{◌+◌, sym, ap, subst, ◌∙◌, arith, rules}
use borrow.Author.Count.{below_more}
use Rattle.walks.specs.Longest.{below, back}
use Rattle.square.specs.Square.{lent_at, lent_cell, Small}
use Rattle.square.proofs.Sizes.{small_more, small_back}
use Rattle.square.proofs.Cells.{test_below, test_up}
use Rattle.square.proofs.Tested.{short_up, short_below, back_next}
use Rattle.square.proofs.Rows.{lent_read}
use Rattle.square.proofs.short_loop.Goals as goal

pub loop-n-init : goal.loop-n-init
unfolding back
loop-n-init c = record { line = c.edges_into-line.ensures; passed = λ m h. absurd (omega arith) }

pub returns-then-line-v-ge0 : goal.returns-then-line-v-ge0
returns-then-line-v-ge0 c =
    let l = c.loop-n in
    let at_v = lent_read l.line c.args.v (search rules) ∙ l.invariant.line c.args.v (omega arith) in
    sym (short_up c.args.s (lent_cell c.args.a.now) c.args.v l.n (omega arith) (sym (ap below at_v) ∙ test_up _ c.if-line-v-ge0.true))

pub edge_more-line-requires : goal.edge_more-line-requires
edge_more-line-requires c = let l = c.loop-n in (
  c.requires.0,
  λ i j h g. small_more {n = 7} (omega arith) (c.requires.2 i j h g),
  λ j h. subst (Small 61) (sym (l.invariant.line j h)) (small_more {n = 7 + l.n} (omega arith) (small_back c.args.s 7 c.args.v (lent_cell c.args.a.now) c.requires.0 c.requires.1 c.requires.2 l.n j h)),
)

pub loop-n-preserved : goal.loop-n-preserved
loop-n-preserved c =
    let l = c.loop-n in
    let at_v = lent_read l.line c.args.v (search rules) ∙ l.invariant.line c.args.v (omega arith) in
    record {
      line = λ i h. c.edge_more-line.ensures i h ∙ back_next c.args.s c.args.v l.n i (lent_cell c.args.a.now) (lent_at l.line) (λ m p. l.invariant.line m (omega arith));
      passed = below_more _ _ l.invariant.passed (sym (ap below at_v) ∙ test_below _ c.if-line-v-ge0.false);
    }

pub returns : goal.returns
returns c = sym (short_below c.args.s (lent_cell c.args.a.now) c.args.v (λ n h. c.loop-n.invariant.passed n (omega arith)))
