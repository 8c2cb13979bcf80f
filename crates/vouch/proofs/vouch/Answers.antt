-- `vouch`: a refused heading, numbers out of bounds, or the verdict on the equations.
-- Assumes nothing.
use native.Mathlib.Omega.{arith}
use Rattle.table.proofs.Decoding.{opens, opened_few, opened_array, opened_typed, opened_within}
use Rattle.vouch.specs.Vouching.{Bounded}
use Rattle.vouch.proofs.Whole.{no_heading, out_of_bounds, judged, not_judged, first_types}
use Rattle.vouch.proofs.vouch.Goals as goal

pub returns-in_default : goal.returns-in_default
returns-in_default c = no_heading c.args.table.now c.in_default.ensures

pub returns-then-not-zero_past : goal.returns-then-not-zero_past
returns-then-not-zero_past c = out_of_bounds (opens _ c.in-Ok.ensures) (λ b. (rw c.if-not-zero_past.true at c.zero_past.ensures) (b.look_past, b.kept_past))

pub returns-then-sums-gt-STORE_MOST : goal.returns-then-sums-gt-STORE_MOST
returns-then-sums-gt-STORE_MOST c = out_of_bounds (opens _ c.in-Ok.ensures) (λ b. omega (arith, b.store, c.sums-sums.ensures.0, c.if-sums-gt-STORE_MOST.true))

pub judge-requires : goal.judge-requires
judge-requires c = let o = opens _ c.in-Ok.ensures in record { tabulated = c.requires.0; short = o.fits.bytes.1; some = omega (arith, opened_few o); sized = ((opened_few o).1.1, opened_array o); typed = first_types _ _ (opened_typed o); place = opened_within o; starts_blank = c.requires.1.no_starts; order_long = c.requires.1.order_long }

pub returns-then-not-judge : goal.returns-then-not-judge
returns-then-not-judge c = not_judged (opens _ c.in-Ok.ensures) (rw c.if-not-judge.true at c.judge.ensures)

pub returns : goal.returns
returns c =
    let z = rw c.if-not-zero_past.false at c.zero_past.ensures in
    let b : Bounded c.args.look.now c.args.kept.now c.in-Ok.heading.streams = record { look_past = z.0; kept_past = z.1; store = omega (arith, c.sums-sums.ensures.0, c.if-sums-gt-STORE_MOST.false) } in
    (judged (opens _ c.in-Ok.ensures) b (rw c.if-not-judge.false at c.judge.ensures), record { words_sum = c.sums-sums.ensures.0; triggers_sum = c.sums-sums.ensures.1; closing_most = c.sums-sums.ensures.2 })
