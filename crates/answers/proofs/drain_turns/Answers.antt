-- No turn, one turn more, and that some turn is taken where one is left. Assumes nothing.
use borrow.Author.Rules.{rules}
use native.Mathlib.Omega.{arith}
use mathlib.Core.Path.{refl, sym, ◌∙◌}
use Rattle.answers.proofs.Turns.{drains_none, drains_more, going_none, going_more, drains_silent, drains_left}
use Rattle.answers.proofs.drain_turns.Goals as goal
use Rattle.answers.proofs.drain_turns.Goals.{then-not-is_draining-via-then-not-is_draining, then-not-is_draining-via-else-not-is_draining+then-text-at-lt-TEXT_MOST}

pub loop-turns-init : goal.loop-turns-init
loop-turns-init c = (drains_none _ _ _ _, refl, going_none _ _)

pub loop-turns-preserved : goal.loop-turns-preserved
loop-turns-preserved c = (drains_more _ _ _ c.loop-turns.invariant.0 c.drain_turn-turned.ensures, search rules, going_more c.loop-turns.invariant.2 c.loop-turns.invariant.0 (sym c.is_draining.ensures ∙ c.if-not-is_draining.false))

pub returns-then-not-is_draining-clause-drains : goal.returns-then-not-is_draining-clause-drains
returns-then-not-is_draining-clause-drains c = record {
  each = c.loop-turns.invariant.2.each;
  some = λ z. elim c.then-not-is_draining.branch [
    | then-not-is_draining-via-then-not-is_draining w ↦ drains_left _ _ _ c.loop-turns.invariant.0 (sym c.is_draining.ensures ∙ w.if-not-is_draining.true) z
    | then-not-is_draining-via-else-not-is_draining+then-text-at-lt-TEXT_MOST w ↦ absurd (omega (arith, w.if-text-at-lt-TEXT_MOST.true, drains_silent _ _ _ refl c.loop-turns.invariant.0 z, c.loop-turns.invariant.0.wrote.size))
  ];
}
