-- Laws of the sum and of the largest of the first numbers.
-- Assumes nothing.
use mathlib.Core.Path.{◌≡◌, refl, ap, ap₂}
use mathlib.Core.Logic.{◌⊎◌, inl, inr, ⊎_elim}
use Prim.Native.Nat.{ℕ, zero, suc, ◌+◌, ◌*◌, ◌≤◌, ◌<◌, max}
use native.Mathlib.Omega.{arith}
use native.Mathlib.Nat.{not-suc-le-zero, le_of_suc-le-suc}
use native.Mathlib.Numerals.{add-one}
use Rattle.basis.specs.Sums.{total, most}
use Rattle.basis.proofs.Tests.{lt_or_eq, lt_or_ge}

pub total_more : (f : ℕ → ℕ) (n : ℕ) → total f (n + 1) ≡ total f n + f n
unfolding total
total_more f n = ap (total f) (add-one n)

-- one more number in a sum, as a loop takes it
pub sum_on : (f : ℕ → ℕ) {v sum x : ℕ} → sum ≡ total f v → x ≡ f v → sum + x ≡ total f (v + 1)
sum_on f {v} p q = omega (arith, total_more f v)

pub most_more : (f : ℕ → ℕ) (n : ℕ) → most f (n + 1) ≡ max (most f n) (f n)
unfolding most
most_more f n = ap (most f) (add-one n)

pub total_same : (f g : ℕ → ℕ) (n : ℕ) → ((v : ℕ) → v < n → f v ≡ g v) → total f n ≡ total g n
unfolding total
total_same f g zero h = refl
total_same f g (suc n) h = ap₂ (λ (a b : ℕ). a + b) (total_same f g n (λ v l. h v (omega arith))) (h n (omega arith))

pub most_same : (f g : ℕ → ℕ) (n : ℕ) → ((v : ℕ) → v < n → f v ≡ g v) → most f n ≡ most g n
unfolding most
most_same f g zero h = refl
most_same f g (suc n) h = ap₂ max (most_same f g n (λ v l. h v (omega arith))) (h n (omega arith))

-- each of n numbers is at most b
pub total_bound : (f : ℕ → ℕ) (n b : ℕ) → ((v : ℕ) → v < n → f v ≤ b) → total f n ≤ b * n
unfolding total
total_bound f zero b h = omega arith
total_bound f (suc n) b h = omega (arith, total_bound f n b (λ v l. h v (omega arith)), h n (omega arith))

-- the largest is at least each of them, and is 0 or one of them
pub most_all : (f : ℕ → ℕ) (n v : ℕ) → v < n → f v ≤ most f n
unfolding most
most_all f zero v h = absurd (not-suc-le-zero h)
most_all f (suc n) v h = ⊎_elim (λ l. omega (arith, most_all f n v l)) (λ e. rw e (omega arith)) (lt_or_eq (le_of_suc-le-suc h))

pub most_bound : (f : ℕ → ℕ) (n b : ℕ) → ((v : ℕ) → v < n → f v ≤ b) → most f n ≤ b
unfolding most
most_bound f zero b h = omega arith
most_bound f (suc n) b h = omega (arith, most_bound f n b (λ v l. h v (omega arith)), h n (omega arith))

pub most_real : (f : ℕ → ℕ) (n : ℕ) → (most f n ≡ 0) ⊎ ((v : ℕ) × (v < n) × (f v ≡ most f n))
unfolding most
most_real f zero = inl refl
most_real f (suc n) = go (lt_or_ge (most f n) (f n)) (most_real f n)
  where
    go : (most f n < f n) ⊎ (f n ≤ most f n) → (most f n ≡ 0) ⊎ ((v : ℕ) × (v < n) × (f v ≡ most f n)) → (max (most f n) (f n) ≡ 0) ⊎ ((v : ℕ) × (v < suc n) × (f v ≡ max (most f n) (f n)))
    go (inl h) q = inr (n, omega arith, omega arith)
    go (inr h) (inl e) = inl (omega arith)
    go (inr h) (inr q) = inr (q.0, omega (arith, q.1), omega (arith, q.2))

-- ---- a sum does not grow where the further numbers are 0

pub total_zeros : (f : ℕ → ℕ) (s n : ℕ) → s ≤ n → ((v : ℕ) → s ≤ v → v < n → f v ≡ 0) → total f n ≡ total f s
unfolding total
total_zeros f s zero h z = rw (let e : s ≡ 0 = omega arith in e) refl
total_zeros f s (suc n) h z =
    ⊎_elim (λ l. omega (arith, total_zeros f s n (le_of_suc-le-suc l) (λ v a b. z v a (omega arith)), z n (le_of_suc-le-suc l) (omega arith))) (λ e. rw e refl) (lt_or_eq h)
