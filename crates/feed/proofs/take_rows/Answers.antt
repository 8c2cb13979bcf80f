-- Whole rows and their lines, or a row that its last byte completes. Assumes nothing.
use native.Mathlib.Omega.{arith}
use mathlib.Core.Path.{refl}
use lib.Seq.{length-take-le}
use Rattle.feed.proofs.Advancing.{row_taken, rows_taken}
use Rattle.feed.proofs.take_rows.Goals as goal

pub returns-then-row-piece : goal.returns-then-row-piece
returns-then-row-piece c = rows_taken c.if-have-eq0.true c.inputs_of-inputs.ensures.0 c.if-row-piece.true (record { rows = _; reached = c.answer_rows-fed.ensures.reached; taken = c.answer_rows-fed.ensures.taken })

pub returns : goal.returns
returns c =
    row_taken c.hold.ensures (omega (arith, c.min-n.ensures, c.requires.2, c.requires.4, c.inputs_of-inputs.ensures.0)) c.inputs_of-inputs.ensures.0 refl
    (omega (arith, c.min-n.ensures, c.requires.2, c.inputs_of-inputs.ensures.0, c.if-have-n.false))
    (length-take-le _ _ (omega (arith, c.requires.3, c.inputs_of-inputs.ensures.2)))
    (record { rows = _; reached = c.answer_rows-fed-2.ensures.reached; taken = c.answer_rows-fed-2.ensures.taken })
