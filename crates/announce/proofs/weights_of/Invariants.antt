-- `weights_of`: the weights of the equations below y are there.
-- Assumes nothing.
use Rattle.std.proofs.Common.{◌≡◌, ◌≤◌, length}
use Rattle.limits.specs.Limits.{most_streams}
use Rattle.table.specs.Table.{Table}
use Rattle.announce.specs.Rows.{Arrays, WeighsTo}
use Rattle.announce.proofs.weights_of.Given as goal

abbrev pub invariant-loop-y : goal.invariant-loop-y
invariant-loop-y l = record {
  few : l.scan.streams ≤ most_streams;
  rise_long : length l.weights.rise ≡ most_streams;
  fall_long : length l.weights.fall ≡ most_streams;
  weighs : (t : Table) → Arrays l.table t l.scan.types l.scan.starts l.scan.streams → (t.inputs ≤ l.y) × WeighsTo t l.y l.weights.rise l.weights.fall;
}
