-- `evaluate::turn` meets its contract: its loop goes through the streams by rank, over the frame that it lays.
-- Assumes nothing.
use mathlib.Core.Path.{◌≡◌}
use lib.ListN.{length}
use Rattle.store.specs.Store.{Framed}
use Rattle.evaluate.proofs.Turns.{Upto}
use Rattle.evaluate.proofs.turn.Given as goal

abbrev pub invariant-loop-stream : goal.invariant-loop-stream
invariant-loop-stream l = record {
  long : length l.store ≡ length l.initial.store;
  framed : Framed l.types l.look l.kept l.streams l.known l.t l.frame;
  upto : Upto l.bytes l.types l.look l.kept l.starts l.order l.inputs l.streams l.row l.initial.store l.known l.t l.stream-index l.store;
  lent : l.frame.lent ≡ length l.initial.store;
}
