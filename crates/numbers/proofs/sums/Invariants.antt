-- `sums`: the sums and the largest of the numbers below v, each of which is at most 65,535.
-- Assumes nothing.
use Rattle.std.proofs.Common.{◌≡◌, ◌*◌, ◌≤◌}
use Rattle.basis.specs.Firsts.{of}
use Rattle.basis.specs.Sums.{total, most}
use Rattle.numbers.proofs.sums.Given as goal

abbrev pub invariant-loop-v : goal.invariant-loop-v
invariant-loop-v l = record {
  words : l.words ≡ total (of l.kept) l.v;
  words_fit : l.words ≤ 65535 * l.v;
  triggers : l.triggers ≡ total (of l.roles) l.v;
  triggers_fit : l.triggers ≤ 255 * l.v;
  closing : l.closing ≡ most (of l.look) l.v;
}
