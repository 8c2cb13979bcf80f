-- Slots that lie in one word each, alone or with others, make a layout; so flags in single bits make one (request C-23).
-- Assumes nothing.
use Prim.Native.Nat.{ℕ, zero, suc, ◌+◌, ◌*◌, ◌-◌, ◌/◌, ◌%◌, ◌≤◌, ◌<◌}
use mathlib.Core.Path.{◌≡◌, refl, sym, ap, ap₂, ◌∙◌}
use mathlib.Core.Bool.{Bool, true, false}
use mathlib.Core.List.{List, [], ◌∷◌}
use mathlib.Core.Logic.{◌⊎◌, inl, inr}
use lib.ListN.{get_or, set, take, length-set}
use native.Mathlib.Omega.{arith}
use native.Mathlib.Decide.{ℕ_discrete}
use native.Mathlib.Nat.{mod-lt, mod-add-div, mul-le-mul_left}
use lib.Seq.{get_or-set_same, get_or-set_other, get_or-take, drop-set-lt, take-set-lt}
use Rattle.basis.proofs.Tests.{lt_or_ge}
use Rattle.run.specs.Layout.{Lays}
use Rattle.run.specs.Words.{base}
use Rattle.run.specs.Cells.{change, in_cells_of, kept_words, kept_bits, place_of, get_of, put_of, packed}
use Rattle.run.proofs.Words.{parts, two_slots}

-- two changes of a store that don't disturb each other may be made in either order
module _ {B : Type 0} (z : B) (f g : B → B) where
  change_apart : (st : List B) (k l : ℕ) → (l ≡ k → ⊥) → change z (change z st k f) l g ≡ change z (change z st l g) k f
  change_apart [] k l ne = refl
  change_apart (b ∷ st) zero zero ne = absurd (ne refl)
  change_apart (b ∷ st) zero (suc l) ne = refl
  change_apart (b ∷ st) (suc k) zero ne = refl
  change_apart (b ∷ st) (suc k) (suc l) ne = ap (λ (s : List B). b ∷ s) (change_apart st k l (λ e. ne (ap suc e)))

  change_both : ((b : B) → g (f b) ≡ f (g b)) → (st : List B) (k : ℕ) → change z (change z st k f) k g ≡ change z (change z st k g) k f
  change_both c [] k = refl
  change_both c (b ∷ st) zero = ap (λ (x : B). x ∷ st) (c b)
  change_both c (b ∷ st) (suc k) = ap (λ (s : List B). b ∷ s) (change_both c st k)

-- a change that what is read does not see
change_unseen : {W B : Type 0} (z : B) (f : B → B) (h : B → W) → ((b : B) → h (f b) ≡ h b) → (st : List B) (k : ℕ) → h (get_or (change z st k f) k z) ≡ h (get_or st k z)
change_unseen z f h c [] k = refl
change_unseen z f h c (b ∷ st) zero = c b
change_unseen z f h c (b ∷ st) (suc k) = change_unseen z f h c st k

module _ {W B : Type 0} (words : ℕ) (place : (v i : ℕ) → ℕ) (get_in : (v i : ℕ) → B → W) (put_in : (v i : ℕ) → W → B → B) (z : B) (S : ℕ) (kept : ℕ → ℕ) (Fits : ℕ → W → Type 0)
    (inside : (v i : ℕ) → v < S → i < kept v → place v i < words)
    (typed : (v i : ℕ) → v < S → i < kept v → (b : B) → Fits v (get_in v i b))
    (back : (v i : ℕ) → v < S → i < kept v → (x : W) (b : B) → Fits v x → get_in v i (put_in v i x b) ≡ x)
    (others : (v i w j : ℕ) → v < S → i < kept v → w < S → j < kept w → (w ≡ v → j ≡ i → ⊥) → place w j ≡ place v i → (x : W) (b : B) → get_in w j (put_in v i x b) ≡ get_in w j b)
    (swap : (v i w j : ℕ) → v < S → i < kept v → w < S → j < kept w → (w ≡ v → ⊥) → place w j ≡ place v i → (x y : W) (b : B) → put_in w j y (put_in v i x b) ≡ put_in v i x (put_in w j y b)) where
  pub in_cells : Lays (in_cells_of words place get_in put_in z) S kept Fits
  in_cells = record {
    typed = λ st v i l h. typed v i l h _;
    back = λ st v i x l h f k. ap (get_in v i) (get_or-set_same st (place v i) _ z (omega (arith, inside v i l h))) ∙ back v i l h x _ f;
    others = λ st v i x w j l h m k ne. other st v i x w j l h m k ne (ℕ_discrete (place w j) (place v i));
    swap = λ st v i x w j y l h m k ne. swaps st v i x w j y l h m k ne (ℕ_discrete (place w j) (place v i));
    size = λ st v i x l h. length-set st (place v i) _;
    rest = λ st v i x l h. drop-set-lt words st (place v i) _ (inside v i l h);
    reads = λ st st' v i l h e. ap (get_in v i) (word_same st st' v i l h e);
    writes = λ st st' v i x l h e. take-set-lt words st (place v i) _ (inside v i l h) ∙ ap₂ (λ (s : List B) (b : B). set s (place v i) (put_in v i x b)) e (word_same st st' v i l h e) ∙ sym (take-set-lt words st' (place v i) _ (inside v i l h));
  }
    where
      word_same : (st st' : List B) (v i : ℕ) → v < S → i < kept v → take words st ≡ take words st' → get_or st (place v i) z ≡ get_or st' (place v i) z
      word_same st st' v i l h e = sym (get_or-take words st _ z (inside v i l h)) ∙ ap (λ (s : List B). get_or s (place v i) z) e ∙ get_or-take words st' _ z (inside v i l h)

      other : (st : List B) (v i : ℕ) (x : W) (w j : ℕ) → v < S → i < kept v → w < S → j < kept w → (w ≡ v → j ≡ i → ⊥) → Dec (place w j ≡ place v i) →
          get_in w j (get_or (change z st (place v i) (put_in v i x)) (place w j) z) ≡ get_in w j (get_or st (place w j) z)
      other st v i x w j l h m k ne (no e) = ap (get_in w j) (get_or-set_other st (place v i) (place w j) _ z e)
      other st v i x w j l h m k ne (yes e) = rw e (change_unseen z (put_in v i x) (get_in w j) (others v i w j l h m k ne e x) st (place v i))

      swaps : (st : List B) (v i : ℕ) (x : W) (w j : ℕ) (y : W) → v < S → i < kept v → w < S → j < kept w → (w ≡ v → ⊥) → Dec (place w j ≡ place v i) →
          change z (change z st (place v i) (put_in v i x)) (place w j) (put_in w j y) ≡ change z (change z st (place w j) (put_in w j y)) (place v i) (put_in v i x)
      swaps st v i x w j y l h m k ne (no e) = change_apart z (put_in v i x) (put_in w j y) st (place v i) (place w j) e
      swaps st v i x w j y l h m k ne (yes e) = rw e (change_both z (put_in v i x) (put_in w j y) (swap v i w j l h m k ne e x y) st (place v i))

-- a number below n falls into one of the parts that hold n
part_of : (b a n : ℕ) → 0 < b → a < n → a / b < (n + (b - 1)) / b
part_of b a n z h = go (lt_or_ge (a / b) ((n + (b - 1)) / b))
  where
    go : (a / b < (n + (b - 1)) / b) ⊎ ((n + (b - 1)) / b ≤ a / b) → a / b < (n + (b - 1)) / b
    go (inl l) = l
    go (inr g) = absurd (omega (arith, mod-add-div a b, mod-add-div (n + (b - 1)) b, mod-lt (n + (b - 1)) z, mul-le-mul_left b g))

-- two numbers in one part differ in the remainder
apart_in : (b a c : ℕ) → a / b ≡ c / b → (a ≡ c → ⊥) → a % b ≡ c % b → ⊥
apart_in b a c q ne r = ne (sym (mod-add-div a b) ∙ ap₂ (λ (x y : ℕ). x + b * y) r q ∙ mod-add-div c b)

-- What a bit owes: what is read is a flag, a flag is read back, and another bit is left alone
module _ {W B : Type 0} (flag : ℕ → Bool) (get : ℕ → B → W) (put : W → B) (get_bit : ℕ → B → W) (put_bit : ℕ → W → B → B) (bits : ℕ) (z : B) (S : ℕ) (kept : ℕ → ℕ) (Fits : ℕ → W → Type 0)
    (some : 0 < bits)
    (read : (v : ℕ) (b : B) → v < S → flag v ≡ false → Fits v (get v b))
    (back : (v : ℕ) (x : W) → v < S → flag v ≡ false → Fits v x → get v (put x) ≡ x)
    (bit_read : (v j : ℕ) (b : B) → v < S → flag v ≡ true → j < bits → Fits v (get_bit j b))
    (bit_back : (v j : ℕ) (x : W) (b : B) → v < S → flag v ≡ true → j < bits → Fits v x → get_bit j (put_bit j x b) ≡ x)
    (bit_others : (j k : ℕ) (x : W) (b : B) → j < bits → k < bits → (k ≡ j → ⊥) → get_bit k (put_bit j x b) ≡ get_bit k b)
    (bit_swap : (j k : ℕ) (x y : W) (b : B) → j < bits → k < bits → (k ≡ j → ⊥) → put_bit k y (put_bit j x b) ≡ put_bit j x (put_bit k y b)) where
  abbrev kw : ℕ → ℕ
  kw = kept_words flag get put get_bit put_bit bits z S kept

  abbrev kb : ℕ → ℕ
  kb = kept_bits flag get put get_bit put_bit bits z S kept

  abbrev place : (v i : ℕ) → ℕ
  place = place_of flag get put get_bit put_bit bits z S kept

  abbrev get_i : (v i : ℕ) → B → W
  get_i = get_of flag get put get_bit put_bit bits z S kept

  abbrev put_i : (v i : ℕ) → W → B → B
  put_i = put_of flag get put get_bit put_bit bits z S kept

  -- a slot of a stream that has words of its own
  low : (v i : ℕ) → v < S → i < kept v → flag v ≡ false → (place v i ≡ base kw v + i) × (i < kw v) × (base kw v + i < base kw S)
  low v i l h e =
      let k : kw v ≡ kept v = rw e in
      (rw e, omega arith, omega (arith, parts kw v S l))

  -- a slot of a flag
  high : (v i : ℕ) → v < S → i < kept v → flag v ≡ true → (place v i ≡ base kw S + (base kb v + i) / bits) × (i < kb v) × (base kb v + i < base kb S)
  high v i l h e =
      let k : kb v ≡ kept v = rw e in
      (rw e, omega arith, omega (arith, parts kb v S l))

  abbrev all : ℕ
  all = (packed flag get put get_bit put_bit bits z S kept).words

  inside : (v i : ℕ) → v < S → i < kept v → place v i < all
  inside v i l h = go (flag v) refl
    where
      go : (a : Bool) → flag v ≡ a → place v i < all
      go false e = let x = low v i l h e in omega (arith, x.0, x.2)
      go true e = let x = high v i l h e in omega (arith, x.0, part_of bits (base kb v + i) (base kb S) some x.2)

  -- two slots in one word are two bits of it
  module _ (v i w j : ℕ) (l : v < S) (h : i < kept v) (m : w < S) (k : j < kept w) (ne : w ≡ v → j ≡ i → ⊥) (e : place w j ≡ place v i) where
    two_bits : (a c : Bool) → flag v ≡ a → flag w ≡ c → (flag v ≡ true) × (flag w ≡ true) × ((base kb w + j) % bits ≡ (base kb v + i) % bits → ⊥)
    two_bits false false p q =
        let x = low v i l h p in
        let y = low w j m k q in
        absurd (two_slots kw w v j i y.1 x.1 ne (sym y.0 ∙ e ∙ x.0))
    two_bits false true p q = absurd (omega (arith, e, (low v i l h p).0, (low v i l h p).2, (high w j m k q).0))
    two_bits true false p q = absurd (omega (arith, e, (high v i l h p).0, (low w j m k q).0, (low w j m k q).2))
    two_bits true true p q =
        let x = high v i l h p in
        let y = high w j m k q in
        (p, q, apart_in bits (base kb w + j) (base kb v + i) (omega (arith, e, x.0, y.0)) (two_slots kb w v j i y.1 x.1 ne))

  pub packed_laid : Lays (packed flag get put get_bit put_bit bits z S kept) S kept Fits
  packed_laid = in_cells all place get_i put_i z S kept Fits inside
      (λ v i l h b. typed v i l b (flag v) refl)
      (λ v i l h x b f. backs v i l x b f (flag v) refl)
      (λ v i w j l h m k ne e x b. let t = two_bits v i w j l h m k ne e (flag v) (flag w) refl refl in rw (t.0, t.1) (bit_others _ _ x b (mod-lt _ some) (mod-lt _ some) t.2))
      (λ v i w j l h m k ne e x y b. let t = two_bits v i w j l h m k (λ a c. ne a) e (flag v) (flag w) refl refl in rw (t.0, t.1) (bit_swap _ _ x y b (mod-lt _ some) (mod-lt _ some) t.2))
    where
      typed : (v i : ℕ) → v < S → (b : B) (a : Bool) → flag v ≡ a → Fits v (get_i v i b)
      typed v i l b false e = rw e (read v b l e)
      typed v i l b true e = rw e (bit_read v _ b l e (mod-lt _ some))

      backs : (v i : ℕ) → v < S → (x : W) (b : B) → Fits v x → (a : Bool) → flag v ≡ a → get_i v i (put_i v i x b) ≡ x
      backs v i l x b f false e = rw e (back v x l e f)
      backs v i l x b f true e = rw e (bit_back v _ x b l e (mod-lt _ some) f)
