-- `note_row`: up to v, the tally holds the row's edges to streams below v beside those noted before, and what was seen of them is forgotten.
-- Assumes nothing.
use Rattle.std.proofs.Common.{arith}
use Rattle.certificate.proofs.Forgetting.{forgotten_start, forgotten_on, forgotten_end, rise_left, fall_left}
use Rattle.certificate.proofs.Tally.{row_start, row_end}
use Rattle.certificate.proofs.note_row.Goals as goal

pub loop-v-init : goal.loop-v-init
loop-v-init c = record { noted = λ rs es x. row_start rs es; forgotten = forgotten_start c.requires.2 }

pub loop-v-preserved : goal.loop-v-preserved
loop-v-preserved c =
    let f = c.loop-v.invariant.forgotten in
    let e = rw c.if-not-note_cell.false at c.note_cell.ensures in
    record {
      noted = λ rs es x t. e.0 c.args.s _ _ c.loop-v-test.true (rise_left f) (fall_left f) rs es x (c.loop-v.invariant.noted rs es x t);
      forgotten = rw e.1 (forgotten_on f (omega arith));
    }

pub returns-then-not-note_cell : goal.returns-then-not-note_cell
returns-then-not-note_cell c =
    let f = c.loop-v.invariant.forgotten in
    let e = rw c.if-not-note_cell.true at c.note_cell.ensures in
    e.0 c.args.s _ _ c.loop-v-test.true (rise_left f) (fall_left f)

pub returns : goal.returns
returns c = ((λ rs es x t. row_end rs es x (omega arith) (c.loop-v.invariant.noted rs es x t)), forgotten_end (omega arith) c.loop-v.invariant.forgotten)
