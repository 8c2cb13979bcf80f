-- No bytes, a byte that names no kind, a whole record, or a part of one. Assumes nothing.
use Rattle.std.proofs.Common.{ap, ◌∙◌, arith}
use Rattle.records.specs.Kinds.{size_of_kind_of}
use Rattle.records.proofs.Sizes.{size_of_named}
use Rattle.records.proofs.Reading.{part_record, no_record, first_is, nothing_starts}
use Rattle.records.proofs.first_record.Goals as goal

pub returns-in_err-first : goal.returns-in_err-first
returns-in_err-first c = rw c.from_residual.ensures (nothing_starts _ c.in_err-first.ensures.value)

pub returns-in_err-kind : goal.returns-in_err-kind
returns-in_err-kind c =
    let e = ap size_of_kind_of (first_is _ c.in_ok-first.ensures.value) ∙ c.in_err-kind.ensures in
    rw c.from_residual-in_err-kind.ensures (no_record _ e)

pub returns-then-size-bytes : goal.returns-then-size-bytes
returns-then-size-bytes c =
    record { first = first_is _ c.in_ok-first.ensures.value ∙ c.in_ok-kind.ensures; whole = omega (arith, c.size.ensures.by_kind) }

pub returns-else-size-bytes : goal.returns-else-size-bytes
returns-else-size-bytes c =
    let e = size_of_named _ (first_is _ c.in_ok-first.ensures.value ∙ c.in_ok-kind.ensures) in
    part_record _ (omega (arith, e, c.size.ensures.by_kind))
