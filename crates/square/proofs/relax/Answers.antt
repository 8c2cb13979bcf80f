-- `relax`: the rows passed are relaxed, the others as they were.
-- Assumes nothing.
use Rattle.std.proofs.Common.{ap, ◌∙◌, arith, rules, get_or, get_or-set_other, List, []}
use lib.IntN.{ℤ, pos}
use mir.Syntax.{w64}
use mir.Val.{to_z, of_z}
use Rattle.walks.specs.Longest.{Best, relax_b}
use Rattle.square.specs.Square.{best, lent_at, lent_cell}
use Rattle.basis.proofs.Firsts.{put_more}
use Rattle.square.proofs.Rows.{Row, lent_read}
use Rattle.square.proofs.relax.Goals as goal

pub loop-row-preserved : goal.loop-row-preserved
loop-row-preserved c =
    let l = c.loop-row in
    let d = c.args.d.now in
    let k = c.args.k in
    record {
      size = search rules;
      passed = put_more (Row d k) [] l.d l.row-index _ (search rules) l.invariant.passed
          (λ j h. c.relax_row.ensures j h ∙ ap (λ (row : List ℤ). relax_b (lent_at row j) (best (to_z w64 (of_z w64 (get_or row k (pos 0))))) (lent_cell d k j)) (l.invariant.left l.row-index (omega arith)) ∙ ap (λ (x : Best). relax_b (lent_cell d l.row-index j) x (lent_cell d k j)) (lent_read (get_or d l.row-index []) k (search rules)));
      left = λ m h. get_or-set_other l.d l.row-index m _ [] (λ e. omega arith) ∙ l.invariant.left m (omega arith);
    }
