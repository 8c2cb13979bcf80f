-- `noted`: the entries below v are those of the column.
-- Assumes nothing.
use Rattle.std.proofs.Common.{◌≡◌, ℕ, ◌<◌, length, get_or}
use Rattle.limits.specs.Limits.{most_streams}
use Rattle.basis.specs.Rows.{entry}
use Rattle.announce.proofs.noted.Given as goal

abbrev pub invariant-loop-v : goal.invariant-loop-v
invariant-loop-v l = (length l.out ≡ most_streams) × ((u : ℕ) → u < l.v → get_or l.out u 0 ≡ entry l.seen u l.i)
