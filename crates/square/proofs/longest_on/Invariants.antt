-- `longest_on`: `most` is the largest sum over the streams below m.
-- Assumes nothing.
use Rattle.std.proofs.Common.{◌≡◌}
use Rattle.walks.specs.Longest.{plus, sup_to}
use Rattle.square.specs.Square.{best, lent_at}
use Rattle.square.proofs.longest_on.Given as goal

abbrev pub invariant-loop-m : goal.invariant-loop-m
invariant-loop-m l = best l.most ≡ sup_to (λ x. plus (lent_at l.row x) (lent_at l.line x)) l.m
