-- `kept_at`: `most` is the largest slack over the streams below y, and no slack is above the largest look-ahead and note together.
-- Assumes nothing.
use Rattle.std.proofs.Common.{refl, arith, rules}
use Rattle.basis.specs.Firsts.{of}
use Rattle.basis.specs.Rows.{entry}
use Rattle.kept.specs.Kept.{slack_over, kept_over}
use Rattle.kept.proofs.Slack.{slack_small, slack_over_more}
use Rattle.kept.proofs.kept_at.Goals as goal

pub loop-y-init : goal.loop-y-init
unfolding slack_over
loop-y-init c = refl

pub loop-y-preserved : goal.loop-y-preserved
loop-y-preserved c =
    let m = slack_over_more (λ y. entry c.args.fall.now y c.args.v) (of c.args.look.now) c.args.v c.loop-y.y in
    grind arith

pub overflow_add-result : goal.overflow_add-result
overflow_add-result c = let m = slack_small c.args.look.now c.args.fall.now c.args.v c.loop-y.y c.requires.0 (omega arith) c.requires.1 c.requires.2 in omega arith

pub overflow_cast-result : goal.overflow_cast-result
overflow_cast-result c = let m = slack_small c.args.look.now c.args.fall.now c.args.v c.loop-y.y c.requires.0 (omega arith) c.requires.1 c.requires.2 in omega arith

pub returns : goal.returns
unfolding kept_over
returns c = search rules
