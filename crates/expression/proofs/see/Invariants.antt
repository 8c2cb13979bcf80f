-- `see`: the rows of the first v streams have their types.
-- Assumes nothing.
use mathlib.Core.Path.{◌≡◌}
use lib.ListN.{take}
use Rattle.expression.specs.Seen.{fresh}
use Rattle.expression.proofs.see.Given as goal

abbrev pub invariant-loop-v : goal.invariant-loop-v
invariant-loop-v l = l.seen ≡ fresh (take l.v l.types)
