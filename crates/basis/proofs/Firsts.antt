-- Lists given by their values, and arrays that a loop fills, one element after the other.
-- Assumes nothing.
use mathlib.Core.Path.{◌≡◌, refl, sym, ap, ap₂, ◌∙◌, subst}
use mathlib.Core.Bool.{Bool, cond}
use mathlib.Core.Logic.{⊎_elim}
use mathlib.Core.List.{List, [], ◌∷◌}
use Prim.Native.Nat.{ℕ, zero, suc, ◌+◌, ◌≤◌, ◌<◌}
use native.Mathlib.Omega.{arith}
use native.Mathlib.Nat.{not-suc-le-zero, le_of_suc-le-suc}
use native.Mathlib.Decide.{dec_lt}
use borrow.Author.Tests.{lt-ltb, le-ltb}
use lib.Dec.{ltb}
use lib.ListN.{length, get_or, set, replicate, length-set, length-replicate, get_or-replicate}
use lib.Seq.{get_or-set_same, get_or-set_other, ext_get_or}
use Rattle.basis.specs.Firsts.{firsts}
use Rattle.basis.proofs.Tests.{lt_or_ge}

module _ {A : Type 0} where
  -- within the list the default does not matter
  pub get_d_any : (l : List A) (i : ℕ) (d e : A) → i < length l → get_or l i d ≡ get_or l i e
  get_d_any [] i d e h = absurd (not-suc-le-zero h)
  get_d_any (x ∷ l) zero d e h = refl
  get_d_any (x ∷ l) (suc i) d e h = get_d_any l i d e (le_of_suc-le-suc h)

  -- what holds of each element below j, and of the new one at j, holds below j + 1 after the store
  pub put_more : (P : ℕ → A → Type 0) (d : A) (l : List A) (j : ℕ) (v : A) → j < length l → ((i : ℕ) → i < j → P i (get_or l i d)) → P j v → (i : ℕ) → i < j + 1 → P i (get_or (set l j v) i d)
  put_more P d l j v h below new i g = go (dec_lt i j)
    where
      other : i < j → i ≡ j → ⊥
      other p q = omega arith

      same : (i < j → ⊥) → j ≡ i
      same n = omega arith

      go : Dec (i < j) → P i (get_or (set l j v) i d)
      go (yes p) = subst (P i) (sym (get_or-set_other l j i v d (other p))) (below i p)
      go (no n) = subst (λ (x : ℕ). P x (get_or (set l j v) x d)) (same n) (subst (P j) (sym (get_or-set_same l j v d h)) new)

-- ---- a list given by its values

pub length_firsts : (f : ℕ → ℕ) (n : ℕ) → length (firsts f n) ≡ n
unfolding firsts
length_firsts f zero = refl
length_firsts f (suc n) = ap suc (length_firsts (λ v. f (suc v)) n)

pub get_d_firsts : (f : ℕ → ℕ) (n i d : ℕ) → i < n → get_or (firsts f n) i d ≡ f i
unfolding firsts
get_d_firsts f zero i d h = absurd (not-suc-le-zero h)
get_d_firsts f (suc n) zero d h = refl
get_d_firsts f (suc n) (suc i) d h = get_d_firsts (λ v. f (suc v)) n i d (le_of_suc-le-suc h)

pub firsts_same : (f g : ℕ → ℕ) (n : ℕ) → ((i : ℕ) → i < n → f i ≡ g i) → firsts f n ≡ firsts g n
unfolding firsts
firsts_same f g zero h = refl
firsts_same f g (suc n) h = ap₂ ◌∷◌ (h zero (omega arith)) (firsts_same (λ v. f (suc v)) (λ v. g (suc v)) n (λ i p. h (suc i) (omega arith)))

pub firsts_past : (f : ℕ → ℕ) (n i : ℕ) → n ≤ i → get_or (firsts f n) i 0 ≡ 0
unfolding firsts
firsts_past f zero i h = refl
firsts_past f (suc n) zero h = absurd (not-suc-le-zero h)
firsts_past f (suc n) (suc i) h = firsts_past (λ v. f (suc v)) n i (le_of_suc-le-suc h)

-- an array of n numbers, filled below v, 0 from there on
pub record Filled (n : ℕ) (g : ℕ → ℕ) (v : ℕ) (l : List ℕ) : Type 0 where
  pub long : length l ≡ n
  pub low : (i : ℕ) → i < v → get_or l i 0 ≡ g i
  pub past : (i : ℕ) → v ≤ i → i < n → get_or l i 0 ≡ 0

pub filled_none : {n : ℕ} {g : ℕ → ℕ} → Filled n g 0 (replicate n 0)
filled_none {n} = record { long = length-replicate {A = ℕ} n 0; low = λ i h. absurd (not-suc-le-zero h); past = λ i p q. get_or-replicate n i 0 0 q }

-- one more
pub filled_more : {n : ℕ} {g : ℕ → ℕ} {v : ℕ} {l : List ℕ} (x : ℕ) → v < n → x ≡ g v → Filled n g v l → Filled n g (v + 1) (set l v x)
filled_more {n} {g} {v} {l} x h e f = let m = f.long in record {
  long = length-set l v x ∙ f.long;
  low = put_more (λ (i y : ℕ). y ≡ g i) 0 l v x (omega arith) f.low e;
  past = λ i p q. get_or-set_other l v i x 0 (other p) ∙ f.past i (omega arith) q;
}
  where
    other : {i : ℕ} → v + 1 ≤ i → i ≡ v → ⊥
    other p q = omega arith

-- at the end
pub filled_all : {n : ℕ} {g : ℕ → ℕ} {s : ℕ} {l : List ℕ} → Filled n g s l → l ≡ firsts (λ v. cond (ltb v s) (g v) 0) n
filled_all {n} {g} {s} {l} f = ext_get_or 0 l (firsts all n) (f.long ∙ sym (length_firsts all n)) (λ i h. same i (subst (λ (m : ℕ). i < m) f.long h))
  where
    all : ℕ → ℕ
    all v = cond (ltb v s) (g v) 0

    same : (i : ℕ) → i < n → get_or l i 0 ≡ get_or (firsts all n) i 0
    same i h = ⊎_elim (λ p. f.low i p ∙ ap (λ (b : Bool). cond b (g i) 0) (sym (lt-ltb i s p))) (λ p. f.past i p h ∙ ap (λ (b : Bool). cond b (g i) 0) (sym (le-ltb i s p))) (lt_or_ge i s)
        ∙ sym (get_d_firsts all n i 0 h)
