-- `longest_on`: `most` is the largest sum over the streams below m.
-- Assumes nothing.
use Rattle.std.proofs.Common.{◌≡◌, ℕ, ◌+◌, ap, ap₂, ◌∙◌, add-one, rules}
use mir.Syntax.{w64}
use mir.Val.{to_z}
use mir.Facts.{to_z-of_z}
use Rattle.walks.specs.Longest.{Best, larger, plus, relax_b, sup_to}
use Rattle.square.specs.Square.{best, lent_at}
use Rattle.square.proofs.Cells.{best_no}
use Rattle.square.proofs.Rows.{lent_read}
use Rattle.square.proofs.longest_on.Goals as goal

more : (f : ℕ → Best) (b r : Best) (m : ℕ) → b ≡ sup_to f m → r ≡ larger b (f m) → r ≡ sup_to f (m + 1)
unfolding sup_to
more f b r m e g = rw add-one (g ∙ ap (λ (x : Best). larger x (f m)) e)

pub loop-m-init : goal.loop-m-init
unfolding sup_to
loop-m-init c = best_no

pub loop-m-preserved : goal.loop-m-preserved
loop-m-preserved c =
    let l = c.loop-m in
    more (λ (x : ℕ). plus (lent_at c.args.row.now x) (lent_at c.args.line.now x)) _ _ l.m l.invariant
    (ap best (to_z-of_z {w = w64} (record { sfits = c.relaxed-most.type_inv })) ∙ c.relaxed-most.ensures
    ∙ ap₂ (λ (x y : Best). relax_b (best (to_z w64 l.most-bits)) x y) (lent_read c.args.row.now l.m (search rules)) (lent_read c.args.line.now l.m (search rules)))
