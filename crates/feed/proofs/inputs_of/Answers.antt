-- Byte 2 of an accepted table is I. Assumes nothing.
use native.Mathlib.Omega.{arith}
use mathlib.Core.Path.{sym, ◌∙◌}
use Rattle.feed.proofs.Inputs.{inputs_first, accepted_inputs}
use Rattle.feed.proofs.inputs_of.Goals as goal

pub bounds-table-2 : goal.bounds-table-2
bounds-table-2 c = omega (arith, accepted_inputs _ c.requires)

pub returns : goal.returns
returns c = let e = c.from.ensures in
    let a = accepted_inputs _ c.requires in
    (e ∙ sym (inputs_first _ c.requires), omega (arith, e, a.1), omega (arith, e, a.2))
