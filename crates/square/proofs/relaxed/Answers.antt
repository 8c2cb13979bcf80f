-- `relaxed`: where both are there, their sum fits, and is larger than NONE.
-- Assumes nothing.
use Rattle.std.proofs.Common.{ap, ◌∙◌, rules}
use mir.Facts.{to_z-of_z}
use Rattle.square.specs.Square.{best}
use Rattle.square.proofs.Cells.{is_no, not_no, back_sum, sum_fits, no_left, no_right, relaxed_is}
use Rattle.square.proofs.relaxed.Goals as goal
use Rattle.square.proofs.relaxed.Goals.{then-left-eq-NONE-via-then-left-eq-NONE, then-left-eq-NONE-via-else-left-eq-NONE+then-right-eq-NONE}

pub returns-then-left-eq-NONE : goal.returns-then-left-eq-NONE
returns-then-left-eq-NONE c =
    ap best (to_z-of_z c.ranges.old) ∙ elim c.then-left-eq-NONE.branch [
      | then-left-eq-NONE-via-then-left-eq-NONE w ↦ no_left c.args.old c.args.left c.args.right (is_no c.ranges.left w.if-left-eq-NONE.true)
      | then-left-eq-NONE-via-else-left-eq-NONE+then-right-eq-NONE w ↦ no_right c.args.old c.args.left c.args.right (is_no c.ranges.right w.if-right-eq-NONE.true)
    ]

pub overflow_add-left : goal.overflow_add-left
overflow_add-left c = rw (back_sum c.ranges.left c.ranges.right) (sum_fits c.requires.0 c.requires.1 (not_no c.if-left-eq-NONE.false) (not_no c.if-right-eq-NONE.false))

pub returns : goal.returns
returns c = search (rules, relaxed_is)
