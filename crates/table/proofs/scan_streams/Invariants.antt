-- `scan_streams`: the records of the streams below v are read.
-- Assumes nothing.
use mathlib.Core.Path.{◌≡◌}
use mathlib.Core.List.{List}
use Prim.Native.Nat.{ℕ, ◌-◌}
use lib.ListN.{length, take}
use Rattle.limits.specs.Limits.{most_streams}
use Rattle.table.proofs.Arrays.{ZeroFrom}
use Rattle.table.specs.Records.{declared, before}
use Rattle.table.proofs.scan_streams.Given as goal

pub record Declaring (s types roles : List ℕ) (inputs streams v place : ℕ) : Type 0 where
  pub types_array : length types ≡ most_streams
  pub roles_array : length roles ≡ most_streams
  pub declares_on : before (take v types) (take v roles) (declared (streams - v) inputs v s place) ≡ declared streams inputs 0 s 4
  pub types_rest : ZeroFrom v types
  pub roles_rest : ZeroFrom v roles

abbrev pub invariant-loop-v : goal.invariant-loop-v
invariant-loop-v l = Declaring l.table l.types l.roles l.inputs l.streams l.v l.place

abbrev pub invariant-loop-y : goal.invariant-loop-y
invariant-loop-y l = Declaring l.table l.types l.roles l.inputs l.streams l.y l.place
