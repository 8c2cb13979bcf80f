-- `edges_into`: the entries below i are those of the column.
-- Assumes nothing.
use Rattle.std.proofs.Common.{◌≡◌, ℕ, pos, rules}
use lib.IntN.{ℤ}
use Rattle.square.specs.Square.{best, lent_cell}
use Rattle.basis.proofs.Firsts.{put_more}
use Rattle.square.proofs.Rows.{lent_read}
use Rattle.square.proofs.edges_into.Goals as goal

pub loop-i-preserved : goal.loop-i-preserved
loop-i-preserved c = (search rules, put_more (λ (m : ℕ) (z : ℤ). best z ≡ lent_cell c.args.a.now m c.args.v) (pos 0) c.loop-i.out c.loop-i.i _ (search rules) c.loop-i.invariant.1 (lent_read _ c.args.v (search rules)))
