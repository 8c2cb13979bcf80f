-- The loop's invariant: so many closing turns are done.
-- Assumes nothing.
use mathlib.Core.Path.{◌≡◌}
use lib.ListN.{length}
use Rattle.answers.specs.Rows.{begun, after_drains, Reached}
use Rattle.answers.proofs.Turns.{Going}
use Rattle.answers.proofs.drain_turns.Given as goal

abbrev pub invariant-loop-turns : goal.invariant-loop-turns
invariant-loop-turns l = Reached (after_drains l.table l.turns (begun l.initial.latest l.initial.store)) l.latest l.store l.initial.text 0 l.text l.at × (length l.store ≡ length l.initial.store) × Going l.table l.turns (begun l.initial.latest l.initial.store)
