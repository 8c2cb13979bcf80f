-- `first_bad`: no input before i is bad.
-- Assumes nothing.
use mathlib.Core.Path.{◌≡◌}
use Prim.Native.Nat.{◌-◌}
use Rattle.prepare.specs.PlanFor.{first_bad_of}
use Rattle.monitor.proofs.first_bad.Given as goal

abbrev pub invariant-loop-i : goal.invariant-loop-i
invariant-loop-i l = first_bad_of l.types l.row (l.inputs - l.i) l.i ≡ first_bad_of l.types l.row l.inputs 0
