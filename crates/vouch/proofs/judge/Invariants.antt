-- `judge`: the pass over the equations up to that of y; nothing is noted between two of them.
-- Assumes nothing.
use Prim.Native.Nat.{◌≤◌}
use lib.ListN.{length, take}
use Rattle.basis.specs.Firsts.{of}
use Rattle.expression.specs.Seen.{Seen, Unnoted}
use Rattle.vouch.proofs.Pass.{Passed}
use Rattle.vouch.proofs.judge.Given as goal

abbrev pub invariant-loop-y : goal.invariant-loop-y
invariant-loop-y l = record {
  behind : l.next ≤ length l.table;
  seen_are : Seen (take l.streams l.types) l.seen;
  unnoted : Unnoted l.seen;
  passed : Passed l.inputs l.streams (take l.streams l.types) l.table l.at (of l.look) l.y l.next l.starts l.tight l.most;
}
