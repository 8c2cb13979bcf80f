-- `look_ahead`: `most` is the largest of 0 and the entries passed.
-- Assumes nothing.
use Rattle.std.proofs.Common.{◌≡◌, ℕ, ◌+◌, List, get_or, pos, refl, ap₂, ◌∙◌, add-one, arith, rules}
use Rattle.std.proofs.lemmas.List.{get_or-take}
use lib.IntN.{ℤ}
use mir.Syntax.{w64}
use mir.Facts.{to_z-of_z}
use Rattle.std.specs.Int.{int_max}
use Rattle.walks.specs.Longest.{look_to}
use Rattle.square.specs.Square.{lent_at}
use Rattle.square.proofs.Cells.{grow}
use Rattle.square.proofs.look_ahead.Goals as goal

-- one more of the row
more : (l : List ℤ) (j : ℕ) → int_max (pos (look_to (lent_at l) j)) (get_or l j (pos 0)) ≡ pos (look_to (lent_at l) (j + 1))
unfolding look_to
more l j = rw add-one (grow (look_to (lent_at l) j) (get_or l j (pos 0)))

pub loop-total-init : goal.loop-total-init
unfolding look_to
loop-total-init c = refl

pub loop-total-preserved : goal.loop-total-preserved
loop-total-preserved c = let m = more c.args.row.now c.loop-total.total-index in
    let t = get_or-take c.args.s c.args.row.now c.loop-total.total-index (pos 0) (omega arith) in
    to_z-of_z {w = w64} (record { sfits = c.max-most.type_inv }) ∙ c.max-most.ensures.value ∙ ap₂ int_max c.loop-total.invariant (to_z-of_z {w = w64} (record { sfits = search rules }) ∙ t) ∙ m
