-- `longest`: the square is relaxed through the streams below k.
-- Assumes nothing.
use Rattle.std.proofs.Common.{◌≡◌, ℕ, ◌+◌, ◌<◌, refl, sym, subst, ◌∙◌, arith, add-one}
use Rattle.limits.specs.Limits.{most_streams}
use Rattle.walks.specs.Longest.{Best, relax_b, through}
use Rattle.square.specs.Square.{lent_cell, Small}
use Rattle.square.proofs.Sizes.{small_more, small_through}
use Rattle.square.proofs.longest.Goals as goal

-- a square that stands relaxed through k, relaxed once more
more : (A D D' : ℕ → ℕ → Best) (k : ℕ) → k < most_streams → ((i j : ℕ) → i < most_streams → j < most_streams → D i j ≡ through A k i j) → ((i j : ℕ) → i < most_streams → j < most_streams → D' i j ≡ relax_b (D i j) (D i k) (D k j))
    → (i j : ℕ) → i < most_streams → j < most_streams → D' i j ≡ through A (k + 1) i j
unfolding through
more A D D' k q e f i j h g = rw add-one (f i j h g ∙ (rw (e i j h g, e i k h q, e k j q g) refl))

pub loop-k-init : goal.loop-k-init
unfolding through
loop-k-init c i j h g = refl

pub relax-requires : goal.relax-requires
relax-requires c =
    let l = c.loop-k in
    (omega arith, λ i j h g. subst (Small 61) (sym (l.invariant i j h g)) (small_more {n = 7 + l.k} (omega arith) (small_through (lent_cell c.args.a.now) most_streams 7 c.requires.1 l.k (omega arith) i j h g)))

pub loop-k-preserved : goal.loop-k-preserved
loop-k-preserved c = more (lent_cell c.args.a.now) (lent_cell c.loop-k.out) (lent_cell c.relax.new.d) c.loop-k.k (omega arith) c.loop-k.invariant c.relax.ensures
