-- `scan_equations`: the equations below that of the stream y are read.
-- Assumes nothing.
use Rattle.std.proofs.Common.{Result}
use mathlib.Core.Path.{◌≡◌}
use mathlib.Core.List.{List}
use Prim.Native.Nat.{ℕ, ◌-◌, ◌≤◌}
use lib.ListN.{length, take, replicate}
use Rattle.limits.specs.Limits.{most_streams}
use Rattle.limits.specs.declared.Refusal.{Refusal}
use Rattle.expression.specs.Seen.{Seen}
use Rattle.table.proofs.Arrays.{ZeroFrom}
use Rattle.table.specs.Table.{equations_at_of}
use Rattle.table.specs.Answers.{Solves}
use Rattle.table.specs.declared.Solved.{Solved}
use Rattle.table.proofs.scan_equations.Given as goal

pub record Reading (s ts starts : List ℕ) (seen : List (List ℕ)) (from streams at y place : ℕ) : Type 0 where
  pub array : length starts ≡ most_streams
  -- what answers for the equations that are left answers for all
  pub solves : (r : Result Solved Refusal) → Solves (take y starts) (equations_at_of (streams - y) y ts s place) r → Solves (replicate from 0) (equations_at_of (streams - from) from ts s at) r
  pub rest : ZeroFrom y starts
  pub within : place ≤ length s
  pub rows : Seen ts seen

abbrev pub invariant-loop-y : goal.invariant-loop-y
invariant-loop-y l = Reading l.table (take l.streams l.types) l.starts l.seen l.from l.streams l.at l.y l.place
