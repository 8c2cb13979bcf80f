-- A rank from a relation that is given by a test: how many streams a stream is related to.
-- Assumes nothing.
use Prim.Native.Nat.{ℕ, zero, suc, ◌+◌, ◌≤◌, ◌<◌}
use native.Mathlib.Omega.{arith}
use native.Mathlib.Nat.{eq-or-lt_of_le}
use mathlib.Core.Logic.{◌⊎◌, inl, inr}
use mathlib.Core.Path.{◌≡◌, refl}
use mathlib.Core.Bool.{Bool, true, false, cond}

-- how many of the first n have the property
unfoldable count : ℕ → (ℕ → Bool) → ℕ
count zero f = 0
count (suc n) f = cond (f n) 1 0 + count n f

one_le : (a b : Bool) → (a ≡ true → b ≡ true) → cond a 1 0 ≤ cond b 1 0
one_le true b h = rw (h refl) (omega arith)
one_le false b h = omega arith

at_most : (a : Bool) → cond a 1 0 ≤ 1
at_most true = omega arith
at_most false = omega arith

count_le : (n : ℕ) (f g : ℕ → Bool) → ((v : ℕ) → v < n → f v ≡ true → g v ≡ true) → count n f ≤ count n g
unfolding count
count_le zero f g h = omega arith
count_le (suc n) f g h = omega (arith, one_le (f n) (g n) (h n (omega arith)), count_le n f g (λ v l. h v (omega arith)))

count_all : (n : ℕ) (f : ℕ → Bool) → count n f ≤ n
unfolding count
count_all zero f = omega arith
count_all (suc n) f = omega (arith, at_most (f n), count_all n f)

count_less : (n : ℕ) (f g : ℕ → Bool) → ((v : ℕ) → v < n → f v ≡ true → g v ≡ true) → (w : ℕ) → w < n → f w ≡ false → g w ≡ true → count n f < count n g
unfolding count
count_less zero f g h w l a b = absurd (omega arith)
count_less (suc n) f g h w l a b = go (eq-or-lt_of_le l) (count_less n f g (λ v k. h v (omega arith)) w)
  where
    go : (suc w ≡ suc n) ⊎ (suc w < suc n) → (w < n → f w ≡ false → g w ≡ true → count n f < count n g) → cond (f n) 1 0 + count n f < cond (g n) 1 0 + count n g
    go (inl e) ih =
        let e' : n ≡ w = omega arith in
        let x : f n ≡ false = rw e' a in
        let y : g n ≡ true = rw e' b in
        rw (x, y) (omega (arith, count_le n f g (λ v k. h v (omega arith))))
    go (inr k) ih = omega (arith, ih (omega arith) a b, one_le (f n) (g n) (h n (omega arith)))

count_lt : (n : ℕ) (f : ℕ → Bool) (w : ℕ) → w < n → f w ≡ false → count n f < n
count_lt n f w l a = omega (arith, count_less n f (λ v. true) (λ v k h. refl) w l a refl, count_all n (λ v. true))

-- where a relation on the streams below S is transitive and no stream is related to itself, the number of those that a stream is related to falls along it
module _ (S : ℕ) (tr : ℕ → ℕ → Bool)
    (trans : (y v w : ℕ) → y < S → v < S → w < S → tr y v ≡ true → tr v w ≡ true → tr y w ≡ true)
    (irr : (v : ℕ) → v < S → tr v v ≡ false) where
  pub rank_of : ℕ → ℕ
  rank_of y = count S (tr y)

  pub rank_falls : (y v : ℕ) → y < S → v < S → tr y v ≡ true → rank_of v < rank_of y
  unfolding rank_of
  rank_falls y v a b h = count_less S (tr v) (tr y) (λ w l k. trans y v w a b l h k) v b (irr v b) h

  pub rank_small : (v : ℕ) → v < S → rank_of v < S
  unfolding rank_of
  rank_small v l = count_lt S (tr v) v l (irr v l)
