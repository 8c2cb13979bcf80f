-- `scan_now`: no such stream, another type, or the reference noted.
-- Assumes nothing.
use mathlib.Core.Path.{ap, sym, ◌∙◌}
use Prim.Native.Nat.{ℕ}
use native.Mathlib.Omega.{arith}
use Rattle.basis.specs.Rows.{entry}
use Rattle.expression.specs.Seen.{seen_type}
use Rattle.expression.proofs.Notes.{rising_now, falling_now}
use Rattle.expression.proofs.Noting.{now_far, now_other, now_fine}
use Rattle.expression.proofs.scan_now.Goals as goal

pub returns-then-i-ge-STREAMS_MOST : goal.returns-then-i-ge-STREAMS_MOST
returns-then-i-ge-STREAMS_MOST c = λ ts x. rw c.refused.ensures (now_far x _ _ _ _ (omega (arith, c.if-i-ge-STREAMS_MOST.true, c.from-i.ensures)))

pub returns-then-t-from : goal.returns-then-t-from
returns-then-t-from c = λ ts x. rw (c.refused-then-t-from.ensures, c.other_fault.ensures) (now_other x (omega (arith, c.if-i-ge-STREAMS_MOST.false, c.from-i.ensures)) (ap (λ (n : ℕ). entry c.args.seen.now n seen_type) c.from-i.ensures) _ _ _ c.requires.0 (λ e. c.if-t-from.true (e ∙ sym c.from.ensures)))

pub returns : goal.returns
returns c = λ ts x. rw c.behind.ensures (now_fine x (omega (arith, c.if-i-ge-STREAMS_MOST.false, c.from-i.ensures)) (ap (λ (n : ℕ). entry c.args.seen.now n seen_type) c.from-i.ensures) _ _ _ c.requires.0 (c.if-t-from.false ∙ c.from.ensures) rising_now falling_now (rw (← c.from-i.ensures) c.note.ensures))
