-- The first i pairs are bytes, and these stand written.
use Rattle.std.proofs.Common.{◌≡◌, Some, take}
use Rattle.test_tables.specs.Hex.{bytes_said}
use Rattle.test_tables.proofs.put_bytes.Given as goal

abbrev pub invariant-loop-i : goal.invariant-loop-i
invariant-loop-i l = bytes_said l.line l.i ≡ Some (take l.i l.table)
