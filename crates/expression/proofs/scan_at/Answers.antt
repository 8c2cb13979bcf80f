-- `scan_at`: no such stream, an offset of 0, a flag default above 1, another type, or the reference noted.
-- Assumes nothing.
use mathlib.Core.Path.{ap, sym, ◌∙◌}
use mathlib.Core.Logic.{⊎_elim}
use mir.Facts.{to_z-of_z}
use Rattle.basis.specs.Notes.{rising, falling}
use Prim.Native.Nat.{ℕ}
use native.Mathlib.Omega.{arith}
use Rattle.basis.specs.Rows.{entry}
use Rattle.node.proofs.Offsets.{zero_offset, some_offset}
use Rattle.expression.specs.Seen.{seen_type}
use Rattle.expression.proofs.Noting.{small_flag, at_far, at_zero, at_word, at_other, at_fine}
use Rattle.expression.proofs.scan_at.Goals as goal

pub returns-then-i-ge-STREAMS_MOST : goal.returns-then-i-ge-STREAMS_MOST
returns-then-i-ge-STREAMS_MOST c = λ ts x.
    rw c.refused.ensures
    (⊎_elim (λ h. at_far x _ _ _ _ (omega (arith, h, c.from-i.ensures))) (λ h. at_zero x _ _ _ _ (sym (zero_offset c.args.k c.ranges.k h.1))) c.then-i-ge-STREAMS_MOST.either)

pub returns-then-word-gt1 : goal.returns-then-word-gt1
returns-then-word-gt1 c = λ ts x.
    rw c.refused-then-word-gt1.ensures
    (at_word x (omega (arith, c.if-i-ge-STREAMS_MOST.false, c.from-i.ensures)) (ap (λ (n : ℕ). entry c.args.seen.now n seen_type) c.from-i.ensures) _ _ _ c.requires.0 (sym (some_offset c.args.k c.if-k-eq0.false)) (c.if-t-from.true ∙ c.from.ensures) c.if-word-gt1.true)

pub returns-then-t-from-2 : goal.returns-then-t-from-2
returns-then-t-from-2 c = λ ts x.
    rw (c.refused-then-t-from-2.ensures, c.other_fault.ensures)
    (at_other x (omega (arith, c.if-i-ge-STREAMS_MOST.false, c.from-i.ensures)) (ap (λ (n : ℕ). entry c.args.seen.now n seen_type) c.from-i.ensures) _ _ _ c.requires.0 (sym (some_offset c.args.k c.if-k-eq0.false)) (λ e. small_flag c.else-t-from.either (e ∙ sym c.from.ensures)) (λ e. c.if-t-from-2.true (e ∙ sym c.from-2.ensures)))

pub returns : goal.returns
returns c = λ ts x.
    rw c.behind.ensures
    (at_fine x (omega (arith, c.if-i-ge-STREAMS_MOST.false, c.from-i.ensures)) (ap (λ (n : ℕ). entry c.args.seen.now n seen_type) c.from-i.ensures) _ _ _ c.requires.0 (sym (some_offset c.args.k c.if-k-eq0.false)) (λ e. small_flag c.else-t-from.either (e ∙ sym c.from.ensures)) (c.if-t-from-2.false ∙ c.from-2.ensures)
    (c.rising_of.ensures ∙ ap rising (to_z-of_z c.ranges.k)) (c.falling_of.ensures ∙ ap falling (to_z-of_z c.ranges.k)) (rw (← c.from-i.ensures) c.note.ensures))
