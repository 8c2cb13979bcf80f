-- The loop's invariant: some rows have been answered, and those that the iterator has left are behind them.
-- Assumes nothing.
use Prim.Native.Nat.{◌*◌}
use mathlib.Core.Path.{◌≡◌}
use Rattle.std.specs.Slice.Iter.{chunks_exact_rest, chunks_exact_size}
use Rattle.answers.proofs.Turns.{Rowed}
use Rattle.answers.proofs.answer_rows.Given as goal

abbrev pub invariant-loop-row : goal.invariant-loop-row
invariant-loop-row l =
    Rowed l.table l.initial.latest l.initial.store l.initial.text l.input l.inputs l.latest l.store l.text (chunks_exact_rest l.row-iterator) l.rows l.used l.at
    × (chunks_exact_size l.row-iterator ≡ 4 * l.inputs)
