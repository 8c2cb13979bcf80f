-- The values that a turn gives (document 01, "A run").
-- Assumes nothing.
use Prim.Native.Nat.{ℕ, zero, suc, ◌+◌, ◌-◌, ◌≤◌, ◌<◌}
use mathlib.Core.Path.{◌≡◌, refl}
use mathlib.Core.Bool.{Bool, true, false, cond}
use mathlib.Core.List.{[], ◌∷◌}
use native.Mathlib.Omega.{arith}
use Rattle.basis.proofs.Tests.{true_false}
use Rattle.run.specs.Run.{gather}
use Rattle.run.specs.Turn.{due}

-- they depend on which are due and on their words
pub gather_cong : {W : Type 0} (look : ℕ → ℕ) (n N t : ℕ) (f g : ℕ → W) (k y : ℕ) →
    ((v : ℕ) → due look n t v ≡ due look N t v) →
    ((v : ℕ) → y ≤ v → v < y + k → due look n t v ≡ true → f v ≡ g v) →
    gather look n t f k y ≡ gather look N t g k y
unfolding gather
gather_cong look n N t f g zero y same eq = refl
gather_cong {W} look n N t f g (suc k) y same eq =
    go (due look n t y) (due look N t y) refl (same y) (gather_cong look n N t f g k (suc y) same (λ v a b. eq v (omega arith) (omega arith)))
  where
    go : (a b : Bool) → due look n t y ≡ a → a ≡ b → gather look n t f k (suc y) ≡ gather look N t g k (suc y) →
        cond a (record { stream = y; position = t - look y; word = f y } ∷ gather look n t f k (suc y)) (gather look n t f k (suc y))
        ≡ cond b (record { stream = y; position = t - look y; word = g y } ∷ gather look N t g k (suc y)) (gather look N t g k (suc y))
    go true true d e ih = let q = eq y (omega arith) (omega arith) d in λ i. record { stream = y; position = t - look y; word = q i } ∷ ih i
    go false false d e ih = ih
    go true false d e ih = true_false refl e
    go false true d e ih = true_false e refl

-- none are given where none is due
pub gather_none : {W : Type 0} (look : ℕ → ℕ) (n t : ℕ) (f : ℕ → W) (k y : ℕ) → ((v : ℕ) → y ≤ v → v < y + k → due look n t v ≡ false) → gather look n t f k y ≡ []
unfolding gather
gather_none look n t f zero y h = refl
gather_none look n t f (suc k) y h = rw (h y (omega arith) (omega arith)) (gather_none look n t f k (suc y) (λ v b c. h v (omega arith) (omega arith)))
