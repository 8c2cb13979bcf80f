-- The line by the kind of the record. Assumes nothing.
use Rattle.std.proofs.Common.{arith}
use Rattle.basis.proofs.Written.{wrote_as}
use Rattle.lines.proofs.Lengths.{trigger_line_length, value_line_length}
use Rattle.records.proofs.Lines.{value_line_first, trigger_line_first}
use Rattle.records.proofs.put_record_line.Goals as goal

pub returns-in-Value : goal.returns-in-Value
returns-in-Value c =
    let s = rw c.in-Value.is at c.requires.0 in
    let e = value_line_length _ _ c.word_at-value.result (c.type_inv.bytes 1).fits c.word_at-position.type_inv in
    let line = wrote_as (value_line_first _ s c.word_at-position.ensures c.word_at-value.ensures) c.put_value_line.ensures in
    (line, rw c.in-Value.is (omega (arith, e, c.put_value_line.ensures.ends)))

pub returns-in-Trigger : goal.returns-in-Trigger
returns-in-Trigger c =
    let s = rw c.in-Trigger.is at c.requires.0 in
    let e = trigger_line_length _ _ (c.type_inv.bytes 1).fits c.word_at-position.type_inv in
    let line = wrote_as (trigger_line_first _ s c.word_at-position.ensures) c.put_trigger_line.ensures in
    (line, rw c.in-Trigger.is (omega (arith, e, c.put_trigger_line.ensures.ends)))
