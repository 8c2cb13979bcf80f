-- `output::emit` meets its contract: its loop goes through the outputs in stream order.
-- Assumes nothing.
use mathlib.Core.List.{List}
use Prim.Native.Nat.{ℕ, ◌-◌}
use Rattle.store.specs.Store.{Framed}
use Rattle.output.specs.Encoding.{output_of}
use Rattle.output.proofs.Gives.{GivenBelow}
use Rattle.output.proofs.emit.Given as goal

abbrev pub invariant-loop-y : goal.invariant-loop-y
invariant-loop-y l = (types kept : List ℕ) → Framed types l.look kept l.streams l.known l.t l.frame →
    GivenBelow l.roles l.look kept l.store l.known l.t l.streams (output_of l.roles l.look kept l.store l.known l.t (l.streams - l.inputs) l.inputs) l.initial.out l.y l.out l.count
