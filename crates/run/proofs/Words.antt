-- Document 01's layout is one: its parts lie apart, and fill the announced words.
-- Assumes nothing.
use Prim.Native.Nat.{ℕ, zero, suc, ◌+◌, ◌≤◌, ◌<◌}
use mathlib.Core.Path.{◌≡◌, refl, sym, ap, ◌∙◌}
use mathlib.Core.Bool.{Bool, ◌&&◌, cond}
use mathlib.Core.List.{List, [], ◌∷◌}
use mathlib.Core.Logic.{◌⊎◌, inl, inr}
use lib.ListN.{length, get_or, set, length-set}
use native.Mathlib.Omega.{arith}
use lib.Dec.{eqb}
use native.Mathlib.Decide.{ℕ_discrete}
use native.Mathlib.Nat.{eq-or-lt_of_le}
use lib.Seq.{get_or-set_same, get_or-set_other, get_or-take, drop-set-lt, take-set-lt}
use Rattle.basis.specs.Sums.{total}
use Rattle.basis.proofs.Tests.{lt_or_ge}
use Rattle.run.specs.Layout.{Layout, Lays}
use Rattle.run.specs.Words.{base, in_parts}
use Rattle.run.specs.Run.{write}
use Rattle.run.proofs.Stores.{write_at}

pub parts : (kept : ℕ → ℕ) (v w : ℕ) → v < w → base kept v + kept v ≤ base kept w
unfolding total
parts kept v zero h = absurd (omega arith)
parts kept v (suc w) h = go (eq-or-lt_of_le h) (parts kept v w)
  where
    go : (suc v ≡ suc w) ⊎ (suc v < suc w) → (v < w → base kept v + kept v ≤ base kept w) → base kept v + kept v ≤ base kept w + kept w
    go (inl e) ih = let e' : v ≡ w = omega arith in rw e' (omega arith)
    go (inr l) ih = omega (arith, ih (omega arith))

-- two places in two parts
pub two_parts : (kept : ℕ → ℕ) (v w i j : ℕ) → i < kept v → j < kept w → (v ≡ w → ⊥) → base kept v + i ≡ base kept w + j → ⊥
two_parts kept v w i j a b d e = go (lt_or_ge v w)
  where
    go : (v < w) ⊎ (w ≤ v) → ⊥
    go (inl h) = omega (arith, parts kept v w h)
    go (inr h) = let l : w < v = omega arith in omega (arith, parts kept w v l)

-- two places in two slots
pub two_slots : (kept : ℕ → ℕ) (v w i j : ℕ) → i < kept v → j < kept w → (v ≡ w → i ≡ j → ⊥) → base kept v + i ≡ base kept w + j → ⊥
two_slots kept v w i j a b d e = go (ℕ_discrete v w)
  where
    go : Dec (v ≡ w) → ⊥
    go (yes z) = d z (let q : base kept v ≡ base kept w = ap (base kept) z in omega arith)
    go (no z) = two_parts kept v w i j a b z e

-- two words may be set in either order
set_swap : {B : Type 0} (st : List B) (a b : ℕ) (x y : B) → (b ≡ a → ⊥) → set (set st a x) b y ≡ set (set st b y) a x
set_swap [] a b x y ne = refl
set_swap (z ∷ st) zero zero x y ne = absurd (ne refl)
set_swap (z ∷ st) zero (suc b) x y ne = refl
set_swap (z ∷ st) (suc a) zero x y ne = refl
set_swap {B} (z ∷ st) (suc a) (suc b) x y ne = ap (λ (l : List B). z ∷ l) (set_swap st a b x y (λ e. ne (ap suc e)))

-- a layout for `most` streams lays out the first of them
module _ {W B : Type 0} (get : ℕ → B → W) (put : W → B) (zero_word : B) (most : ℕ) (kept : ℕ → ℕ) (streams : ℕ) (few : streams ≤ most) (Fits : ℕ → W → Type 0)
    (read : (v : ℕ) (b : B) → v < streams → Fits v (get v b)) (back : (v : ℕ) (x : W) → v < streams → Fits v x → get v (put x) ≡ x) where
  inside : (v i : ℕ) → v < streams → i < kept v → base kept v + i < base kept most
  inside v i l h = let g : v < most = omega arith in omega (arith, parts kept v most g)

  pub in_parts_lem : Lays (in_parts get put zero_word most kept) streams kept Fits
  in_parts_lem = record {
    typed = λ st v i l h. read v _ l;
    back = λ st v i x l h f z. ap (get v) (get_or-set_same st (base kept v + i) (put x) zero_word (omega (arith, inside v i l h))) ∙ back v x l f;
    others = λ st v i x w j l h m k ne. ap (get w) (get_or-set_other st (base kept v + i) (base kept w + j) (put x) zero_word (two_slots kept w v j i k h ne));
    swap = λ st v i x w j y l h m k ne. set_swap st (base kept v + i) (base kept w + j) (put x) (put y) (two_parts kept w v j i k h ne);
    size = λ st v i x l h. length-set st (base kept v + i) (put x);
    rest = λ st v i x l h. drop-set-lt (base kept most) st (base kept v + i) (put x) (inside v i l h);
    reads = λ st st' v i l h e. ap (get v) (sym (get_or-take (base kept most) st _ zero_word (inside v i l h)) ∙ ap (λ (s : List B). get_or s (base kept v + i) zero_word) e ∙ get_or-take (base kept most) st' _ zero_word (inside v i l h));
    writes = λ st st' v i x l h e. take-set-lt (base kept most) st _ (put x) (inside v i l h) ∙ ap (λ (s : List B). set s (base kept v + i) (put x)) e ∙ sym (take-set-lt (base kept most) st' _ (put x) (inside v i l h));
  }

-- the word that lies in a slot of a store that was written
module _ {W B : Type 0} (get : ℕ → B → W) (put : W → B) (zero_word : B) (most : ℕ) (kept : ℕ → ℕ) (streams : ℕ) (few : streams ≤ most) (slot : ℕ → ℕ) (small : (v : ℕ) → v < streams → slot v < kept v) where
  abbrev raw : Layout B B
  raw = in_parts (λ v b. b) (λ b. b) zero_word most kept

  raw_laid : Lays raw streams kept (λ v b. Unit {0})
  raw_laid = in_parts_lem (λ v b. b) (λ b. b) zero_word most kept streams few (λ v b. Unit {0}) (λ v b l. tt) (λ v b l f. refl)

  raw_write : (which : ℕ → Bool) (f : ℕ → W) (m : ℕ) (st : List B) → write (in_parts get put zero_word most kept) which slot f m st ≡ write raw which slot (λ v. put (f v)) m st
  unfolding write
  raw_write which f zero st = refl
  raw_write which f (suc m) st = ap (λ (a : List B). cond (which m) (set a (base kept m + slot m) (put (f m))) a) (raw_write which f m st)

  pub word_at : (which : ℕ → Bool) (f : ℕ → W) (v i : ℕ) (st : List B) → v < streams → i < kept v → base kept most ≤ length st →
      get_or (write (in_parts get put zero_word most kept) which slot f streams st) (base kept v + i) zero_word ≡ cond (which v && eqb i (slot v)) (put (f v)) (get_or st (base kept v + i) zero_word)
  word_at which f v i st l h z =
      ap (λ (a : List B). get_or a (base kept v + i) zero_word) (raw_write which f streams st)
      ∙ write_at raw streams kept (λ v b. Unit {0}) raw_laid slot small which (λ v. put (f v)) (λ v l e. tt) streams v i st (omega arith) l h z
