-- A list of different numbers has at most S below S.
-- Assumes nothing.
use mathlib.Core.Path.{◌≡◌, refl, sym, subst}
use mathlib.Core.Logic.{◌⊎◌, inl, inr, ⊎_elim}
use mathlib.Core.List.{List, [], ◌∷◌}
use Prim.Native.Nat.{ℕ, zero, suc, ◌+◌, ◌≤◌, ◌<◌}
use native.Mathlib.Omega.{arith}
use native.Mathlib.Nat.{not-suc-le-zero, le_of_suc-le-suc}
use native.Mathlib.Decide.{ℕ_discrete}
use lib.ListN.{length}
use Rattle.basis.proofs.Tests.{lt_or_eq}
use Rattle.walks.specs.Cycles.{In, Different}

-- each is below S
abbrev pub Under : ℕ → List ℕ → Type 0
Under S [] = Unit {0}
Under S (a ∷ l) = (a < S) × Under S l

pub dec_in : (a : ℕ) (l : List ℕ) → Dec (In a l)
dec_in a [] = no (λ h. h)
dec_in a (b ∷ l) = go (ℕ_discrete a b) (dec_in a l)
  where
    go : Dec (a ≡ b) → Dec (In a l) → Dec ((a ≡ b) ⊎ In a l)
    go (yes e) d = yes (inl e)
    go (no n) (yes h) = yes (inr h)
    go (no n) (no m) = no (λ h. ⊎_elim n m h)

cost : {X : Type 0} → Dec X → ℕ
cost (yes h) = 0
cost (no n) = 1

cost_yes : {X : Type 0} (d : Dec X) → X → cost d ≡ 0
unfolding cost
cost_yes (yes h) x = refl
cost_yes (no n) x = absurd (n x)

cost_no : {X : Type 0} (d : Dec X) → (X → ⊥) → cost d ≡ 1
unfolding cost
cost_no (yes h) f = absurd (f h)
cost_no (no n) f = refl

cost_le : {X Y : Type 0} (d : Dec X) (e : Dec Y) → (X → Y) → cost e ≤ cost d
unfolding cost
cost_le (yes h) e f = let q = cost_yes e (f h) in omega arith
cost_le (no n) (yes h) f = omega arith
cost_le (no n) (no m) f = omega arith

-- how many numbers below s are not in l
free : ℕ → List ℕ → ℕ
free zero l = 0
free (suc s) l = cost (dec_in s l) + free s l

free_down : (s a : ℕ) (l : List ℕ) → free s (a ∷ l) ≤ free s l
unfolding free
free_down zero a l = omega arith
free_down (suc s) a l = omega (arith, free_down s a l, cost_le (dec_in s l) (dec_in s (a ∷ l)) (λ h. inr h))

free_one : (s a : ℕ) (l : List ℕ) → (In a l → ⊥) → a < s → suc (free s (a ∷ l)) ≤ free s l
unfolding free
free_one zero a l n h = absurd (not-suc-le-zero h)
free_one (suc s) a l n h = ⊎_elim
    (λ p. omega (arith, free_one s a l n p, cost_le (dec_in s l) (dec_in s (a ∷ l)) (λ h. inr h)))
    (λ e. omega (arith, free_down s a l, cost_yes (dec_in s (a ∷ l)) (inl (sym e)), cost_no (dec_in s l) (subst (λ (x : ℕ). In x l → ⊥) e n)))
    (lt_or_eq (le_of_suc-le-suc h))

free_nil : (s : ℕ) → free s [] ≤ s
unfolding free cost
free_nil zero = omega arith
free_nil (suc s) = omega (arith, free_nil s, cost_no (dec_in s []) (λ h. h))

used : (S : ℕ) (l : List ℕ) → Different l → Under S l → length l + free S l ≤ S
used S [] d u = omega (arith, free_nil S)
used S (a ∷ l) d u = omega (arith, used S l d.1 u.1, free_one S a l d.0 u.0)

pub few : (S : ℕ) (l : List ℕ) → Different l → Under S l → length l ≤ S
few S l d u = omega (arith, used S l d u)
