-- `body_of`: the entry of the kind's row.
-- Assumes nothing.
use mathlib.Core.List.{List}
use mathlib.Core.Path.{ap, ◌∙◌}
use Prim.Native.Nat.{ℕ}
use native.Mathlib.Omega.{arith}
use lib.ListN.{get_or}
use Rattle.node.specs.Kinds.{entries_of}
use Rattle.node.proofs.body_of.Goals as goal

pub returns : goal.returns
unfolding entries_of
returns c = (c.from.ensures ∙ ap (λ (l : List ℕ). get_or l 0 0) (c.requires.1 _ c.requires.0), omega arith)
