-- The loop's invariant: the lines of the records in front of those left stand written.
-- Assumes nothing.
use Rattle.std.proofs.Common.{ap, ◌∙◌, arith, ℕ, drop}
use Rattle.std.proofs.lemmas.Slice.{between_to_end}
use Rattle.records.proofs.Lines.{lined_more, lined_all}
use Rattle.records.proofs.put_lines.Goals as goal

pub loop-kind-preserved : goal.loop-kind-preserved
loop-kind-preserved c =
    let left = c.loop-kind.left.now in
    lined_more c.loop-kind.invariant c.in-Some.kind c.in-Some.ensures
    (between_to_end left c.size.result _ (omega arith) ∙ ap (λ (n : ℕ). drop n left) c.size.ensures.by_kind)
    c.put_record_line-end.ensures.1 c.put_record_line-end.ensures.0

pub returns : goal.returns
returns c = lined_all c.loop-kind.invariant c.in_default.ensures
