-- `turn_out`: the store, then the output of what it holds.
-- Assumes nothing.
use native.Mathlib.Omega.{arith}
use Rattle.prepare.proofs.Held.{some_held, few_held, some_kept, words_held, ready, room_held}
use Rattle.monitor.proofs.Turning.{turned}
use Rattle.monitor.proofs.turn_out.Goals as goal

pub turn-requires : goal.turn-requires
turn-requires c = record { turnable = ready c.requires.prepares _ c.requires.store_long; kinds_are = c.requires.tabulated; row = c.requires.row_known; rows = c.requires.rows_fit; words = c.requires.row_long }

pub emit-requires : goal.emit-requires
emit-requires c = record {
  types = c.args.types.now;
  kept = c.args.kept.now;
  framed = c.turn.ensures.1;
  some = some_kept c.requires.prepares;
  stored = omega (arith, words_held c.requires.prepares, c.turn.auto.store, c.requires.store_long);
  outputs = some_held c.requires.prepares;
  few = few_held c.requires.prepares;
  rows = c.requires.rows_fit;
  fits = omega (arith, room_held c.requires.prepares, c.requires.output_long);
}

pub returns : goal.returns
returns c = turned c.requires.prepares c.args.known c.args.t c.args.row.now c.args.store.now c.requires.store_long c.turn.ensures.0 (c.emit.ensures _ _ c.turn.ensures.1)
