-- `kept_at`: `most` is the largest slack over the streams below y.
-- Assumes nothing.
use Rattle.std.proofs.Common.{◌≡◌}
use Rattle.basis.specs.Firsts.{of}
use Rattle.basis.specs.Rows.{entry}
use Rattle.kept.specs.Kept.{slack_over}
use Rattle.kept.proofs.kept_at.Given as goal

abbrev pub invariant-loop-y : goal.invariant-loop-y
invariant-loop-y l = l.most ≡ slack_over (λ y. entry l.fall y l.v) (of l.look) l.v l.y
