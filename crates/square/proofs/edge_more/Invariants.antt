-- `edge_more`: the totals below i have one edge more.
-- Assumes nothing.
use Rattle.std.proofs.Common.{◌≡◌, ℕ, ◌<◌, length}
use Rattle.limits.specs.Limits.{most_streams}
use Rattle.walks.specs.Longest.{plus, sup_to}
use Rattle.square.specs.Square.{lent_at, lent_cell}
use Rattle.square.proofs.edge_more.Given as goal

abbrev pub invariant-loop-i : goal.invariant-loop-i
invariant-loop-i l = (length l.out ≡ most_streams) × ((m : ℕ) → m < l.i → lent_at l.out m ≡ sup_to (λ x. plus (lent_cell l.a m x) (lent_at l.line x)) l.s)
