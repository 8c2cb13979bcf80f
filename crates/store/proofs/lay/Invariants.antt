-- `store::lay` meets its contract: the parts before v's are laid, and `start` is where the next part starts.
-- Assumes nothing.
use mathlib.Core.Path.{◌≡◌}
use Prim.Native.Nat.{◌*◌, ◌≤◌}
use Rattle.basis.specs.Firsts.{of}
use Rattle.run.specs.Words.{base}
use Rattle.store.specs.Store.{Laid}
use Rattle.store.proofs.lay.Given as goal

abbrev pub invariant-loop-v : goal.invariant-loop-v
invariant-loop-v l = record {
  small : l.start ≤ 65535 * l.v;
  start : l.start ≡ base (of l.kept) l.v;
  laid : Laid l.types l.look l.kept l.v l.known l.t l.frame.parts;
}
