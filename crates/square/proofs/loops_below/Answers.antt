-- `loops_below`: the closure answers whether the diagonal is below 0 at a stream.
-- Assumes nothing.
use Rattle.std.proofs.Common.{◌≡◌, ℕ, true, false, rules, tests}
use Rattle.std.proofs.lemmas.Iterator.{cases_from_all, YieldsList-from_range}
use Rattle.walks.specs.Longest.{below}
use Rattle.square.specs.Square.{lent_cell}
use Rattle.square.proofs.Cells.{below_is}
use Rattle.square.proofs.Tested.{loops_tested}
use Rattle.square.proofs.loops_below.Goals as goal

pub returns : goal.returns
returns c =
    let d = lent_cell c.args.d.now in
    loops_tested d c.args.s c.all.result
    (cases_from_all _ _ _ (λ (v : ℕ). below (d v v) ≡ true) (λ (v : ℕ). below (d v v) ≡ false) c.all.ensures.ran (YieldsList-from_range 0 c.args.s c.args.s (search rules) (search rules)) (λ x q k. search (rules, tests, below_is)) (λ x q k. search (rules, tests, below_is)))
