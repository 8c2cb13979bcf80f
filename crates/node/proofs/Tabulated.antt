-- A constant table that holds a function's values: the list of f at a, a + 1, .., as antt computes it, and what stands at a place of it.
-- Assumes nothing.
use mathlib.Core.Path.{◌≡◌, refl, ap, sym, ◌∙◌}
use mathlib.Core.List.{List, [], ◌∷◌}
use Prim.Native.Nat.{ℕ, zero, suc, ◌+◌, ◌-◌, ◌<◌, ◌≤◌}
use native.Mathlib.Omega.{arith}
use native.Mathlib.Nat.{add-zero, add-suc, suc-add, le_of_suc-le-suc, not-suc-le-zero}
use lib.ListN.{get_or, replicate}

module _ {A : Type 0} where
  -- f a, f (a + 1), ..: n of them
  abbrev pub from : (ℕ → A) → ℕ → ℕ → List A
  from f a zero = []
  from f a (suc n) = f a ∷ from f (suc a) n

  pub from_at : (f : ℕ → A) (n a k : ℕ) (d : A) → k < n → get_or (from f a n) k d ≡ f (a + k)
  from_at f zero a k d h = absurd (not-suc-le-zero h)
  from_at f (suc n) a zero d h = ap f (sym (add-zero a))
  from_at f (suc n) a (suc k) d h = from_at f n (suc a) k d (le_of_suc-le-suc h) ∙ ap f (suc-add a k ∙ sym (add-suc a k))

  pub same_at : (x : A) (n k : ℕ) → get_or (replicate n x) k x ≡ x
  same_at x zero k = refl
  same_at x (suc n) zero = refl
  same_at x (suc n) (suc k) = same_at x n k

  -- the same, where the argument is written another way
  pub from_to : (f : ℕ → A) (n a k m : ℕ) (d : A) → k < n → a + k ≡ m → get_or (from f a n) k d ≡ f m
  from_to f n a k m d h e = from_at f n a k d h ∙ ap f e

  -- two functions whose lists antt computes to be the same are equal at each number of the range
  pub same_on : (f g : ℕ → A) (n a k : ℕ) → A → from f a n ≡ from g a n → a ≤ k → k < a + n → f k ≡ g k
  same_on f g n a k d e lo hi =
      sym (from_to f n a (k - a) k d (omega arith) (omega arith))
      ∙ ap (λ (l : List A). get_or l (k - a) d) e
      ∙ from_to g n a (k - a) k d (omega arith) (omega arith)
