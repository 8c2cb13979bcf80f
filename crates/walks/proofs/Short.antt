-- Where some loop totals 0 or more, one of at most S edges does: a cycle has no more edges than there are streams.
-- So refusal 7, which speaks of every loop, always has a place, which counts 1 to S edges. Assumes nothing.
use mathlib.Core.Path.{◌≡◌, refl, ap}
use Prim.Native.Nat.{ℕ, suc}
use native.Mathlib.Omega.{arith}
use lib.ListN.{length}
use lib.IntN.{ℤ, pos}
use lib.Signed.{◌≤ℤ◌}
use Rattle.walks.specs.Walks.{Edges, Within, Walk, stay, step, ShortLoop}
use Rattle.walks.specs.Cycles.{starts}
use Rattle.walks.proofs.Distinct.{Under, few}
use Rattle.walks.proofs.Cycles.{loop_has_cycle}

module _ {E : Edges} where
  starts_length : {n i j : ℕ} {t : ℤ} (w : Walk E n i j t) → length (starts w) ≡ n
  unfolding starts
  starts_length stay = refl
  starts_length (step e w) = ap suc (starts_length w)

  module _ (S : ℕ) (ends : Within E S) where
    starts_under : {n i j : ℕ} {t : ℤ} (w : Walk E n i j t) → Under S (starts w)
    unfolding starts
    starts_under stay = tt
    starts_under (step {i = i} {m = m} {k = k} e w) = ((ends i m k e).0, starts_under w)

    -- a loop of 0 or more: a short one
    pub short_loop_lem : {n v : ℕ} {t : ℤ} → Walk E (suc n) v v t → pos 0 ≤ℤ t → (x : ℕ) × ShortLoop E S x
    short_loop_lem u h =
        let c = loop_has_cycle u h in let w = c.cycle.closed in
        (w.v, record { n = w.n; t = c.t; few = omega (arith, starts_length w.walk, few S (starts w.walk) c.cycle.simple (starts_under w.walk)); up_to = c.up_to; loop = w.walk })
