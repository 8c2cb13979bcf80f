-- `relax_row`: the entries below j are relaxed, the others as they were.
-- Assumes nothing.
use Rattle.std.proofs.Common.{◌≡◌, ℕ, pos, ap, ap₂, ◌∙◌, arith, rules, get_or-set_other}
use lib.IntN.{ℤ}
use mir.Syntax.{w64}
use mir.Val.{to_z, of_z}
use mir.Facts.{to_z-of_z}
use Rattle.walks.specs.Longest.{Best, relax_b}
use Rattle.square.specs.Square.{best, lent_at}
use Rattle.basis.proofs.Firsts.{put_more}
use Rattle.square.proofs.Rows.{lent_read}
use Rattle.square.proofs.relax_row.Goals as goal

pub loop-j-preserved : goal.loop-j-preserved
loop-j-preserved c =
    let left = best (to_z w64 (of_z w64 c.args.left)) in
    let row = lent_read c.loop-j.row c.loop-j.j (search rules) ∙ c.loop-j.invariant.left c.loop-j.j (omega arith) in
    let new = ap best (to_z-of_z {w = w64} (record { sfits = c.relaxed.type_inv })) ∙ c.relaxed.ensures ∙ ap₂ (λ (x y : Best). relax_b x left y) row (lent_read c.args.via.now c.loop-j.j (search rules)) in
    record {
      size = search rules;
      passed = put_more (λ (i : ℕ) (z : ℤ). best z ≡ relax_b (lent_at c.args.row.now i) left (lent_at c.args.via.now i)) (pos 0) c.loop-j.row c.loop-j.j _ (search rules) c.loop-j.invariant.passed new;
      left = λ i h. ap best (get_or-set_other c.loop-j.row c.loop-j.j i _ (pos 0) (λ e. omega arith)) ∙ c.loop-j.invariant.left i (omega arith);
    }
