-- Laws of tests: a Bool and the fact that it decides. Those of one test are in the kit's `borrow.Author.Tests`.
-- Assumes nothing.
use Prim.Native.Nat.{ℕ, ◌≤◌, ◌<◌}
use native.Mathlib.Omega.{arith}
use native.Mathlib.Decide.{dec_lt}
use mathlib.Core.Logic.{◌⊎◌, inl, inr}
use mathlib.Core.Path.{◌≡◌, refl, sym}
use mathlib.Core.Bool.{Bool, true, false, ◌&&◌, cond}
use lib.Dec.{T}

pub T→true : (b : Bool) → T b → b ≡ true
T→true true h = refl
T→true false h = absurd h

-- two tests that decide the same are equal
pub bool_eq : (a b : Bool) → (a ≡ true → b ≡ true) → (b ≡ true → a ≡ true) → a ≡ b
bool_eq true b f g = sym (f refl)
bool_eq false true f g = g refl
bool_eq false false f g = refl

pub and_true : (a b : Bool) → a && b ≡ true → (a ≡ true) × (b ≡ true)
and_true true b h = (refl, h)
and_true false b h = let z : ◌≡◌ {A = ℕ} 0 1 = cc in absurd (omega arith)

pub true_and : {a b : Bool} → a ≡ true → b ≡ true → a && b ≡ true
true_and {a} {b} p q = rw (p, q)

pub true_false : {X : Type 0} {b : Bool} → b ≡ true → b ≡ false → X
true_false p q = let z : ◌≡◌ {A = ℕ} 0 1 = cc in absurd (omega arith)

-- what holds of both branches holds of the choice
pub pick_case : {A : Type 0} (P : A → Type 0) (b : Bool) (x y : A) → (b ≡ true → P x) → (b ≡ false → P y) → P (cond b x y)
pick_case P true x y f g = f refl
pick_case P false x y f g = g refl

pub lt_or_ge : (a b : ℕ) → (a < b) ⊎ (b ≤ a)
lt_or_ge a b = go (dec_lt a b)
  where
    go : Dec (a < b) → (a < b) ⊎ (b ≤ a)
    go (yes h) = inl h
    go (no h) = inr (omega arith)

pub lt_or_eq : {m k : ℕ} → m ≤ k → (m < k) ⊎ (m ≡ k)
lt_or_eq {m} {k} h = go (dec_lt m k)
  where
    go : Dec (m < k) → (m < k) ⊎ (m ≡ k)
    go (yes p) = inl p
    go (no p) = inr (omega arith)
