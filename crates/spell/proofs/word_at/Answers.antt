-- Each row as one law. Assumes nothing.
use native.Mathlib.Omega.{arith}
use mathlib.Core.Path.{refl}
use Rattle.std.proofs.Common.{length}
use Rattle.std.proofs.lemmas.Slice.{between_to_end}
use Rattle.spell.proofs.Rows.{row_found, row_lost, no_row, row_tried, all_tried}
use Rattle.spell.proofs.word_at.Goals as goal

pub loop-row-init : goal.loop-row-init
loop-row-init c = no_row refl refl

pub returns-then-n-word : goal.returns-then-n-word
returns-then-n-word c =
    row_found c.requires.0 (between_to_end c.args.text.now c.args.at (length c.args.text.now) (omega arith)) c.shared-n.ensures c.loop-row.row c.word-word.ensures.same c.loop-row.auto.row c.loop-row-test.true c.if-n-word.true

pub loop-row-preserved : goal.loop-row-preserved
loop-row-preserved c =
    rw c.max-far.ensures (row_tried c.loop-row.auto.row c.loop-row.invariant
    (row_lost c.requires.0 (between_to_end c.args.text.now c.args.at (length c.args.text.now) (omega arith)) c.shared-n.ensures c.loop-row.row c.word-word.ensures.same (omega arith) c.if-n-word.false))

pub returns : goal.returns
returns c = all_tried c.requires.1 (omega arith) c.loop-row.invariant
