-- No row, one row more, and that some row is taken where one is there. Assumes nothing.
use native.Mathlib.Omega.{arith}
use mathlib.Core.Path.{◌∙◌}
use Rattle.answers.proofs.Turns.{rows_none, rows_more, rows_silent, rows_done}
use Rattle.answers.proofs.answer_rows.Goals as goal

pub loop-row-init : goal.loop-row-init
loop-row-init c = rw (c.into_iter-row-iterator.ensures.into_iter_gives, c.chunks_exact-row-items.ensures.rest) (rows_none _ _ _ _ _ _, c.chunks_exact-row-items.ensures.size)

pub loop-row-preserved : goal.loop-row-preserved
loop-row-preserved c = let s = c.in-Some.ensures.steps in (rows_more c.loop-row.invariant.0 c.in-Some.row.now (omega (arith, c.requires)) s.1.0 (s.1.1 ∙ c.loop-row.invariant.1) c.answer_row-turned.ensures, s.0 ∙ c.loop-row.invariant.1)

pub returns-in-None-clause-taken : goal.returns-in-None-clause-taken
returns-in-None-clause-taken c = rows_done c.loop-row.invariant.0 (λ z. omega (arith, c.in-None.ensures.steps.1.0, c.loop-row.invariant.1))

pub returns-then-text-at-lt-TEXT_MOST-clause-taken : goal.returns-then-text-at-lt-TEXT_MOST-clause-taken
returns-then-text-at-lt-TEXT_MOST-clause-taken c = rows_done c.loop-row.invariant.0 (λ z. absurd (omega (arith, c.requires, c.if-text-at-lt-TEXT_MOST.true, rows_silent c.loop-row.invariant.0 z, c.loop-row.invariant.0.reached.wrote.size)))
