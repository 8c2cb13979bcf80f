-- Bytes that stand at a place of a list: joined and split, a word's four, and the list as a whole.
-- Assumes nothing.
use Prim.Native.Nat.{ℕ, zero, suc, ◌+◌, ◌<◌, ◌≤◌, ◌^◌}
use native.Mathlib.Omega.{arith}
use mathlib.Core.Path.{◌≡◌, refl, sym, subst}
use mathlib.Core.List.{List, [], ◌∷◌, ◌++◌}
use lib.ListN.{length, get_or}
use lib.Seq.{ext_get_or}
use Rattle.wire.specs.Bytes.{AllBytes, le4, word_at}
use Rattle.wire.proofs.Words.{word_of_its_bytes, its_bytes}

-- these bytes stand in s from the place `at` on
pub data Stand (s : List ℕ) : ℕ → List ℕ → Type 0 where
  none : {at : ℕ} → Stand s at []
  more : {at : ℕ} {b : ℕ} {bs : List ℕ} → at < length s → get_or s at 0 ≡ b → Stand s (at + 1) bs → Stand s at (b ∷ bs)

module _ (s : List ℕ) where
  pub stand_at : {i j : ℕ} {bs : List ℕ} → i ≡ j → Stand s i bs → Stand s j bs
  stand_at {i} {j} {bs} e h = subst (λ (x : ℕ). Stand s x bs) e h

  -- one byte more, the next place said as it comes
  pub put : (at next : ℕ) {b : ℕ} {bs : List ℕ} → next ≡ at + 1 → at < length s → get_or s at 0 ≡ b → Stand s next bs → Stand s at (b ∷ bs)
  put at next e l q h = more l q (stand_at e h)

  pub byte_at : {i j b : ℕ} → i ≡ j → get_or s i 0 ≡ b → get_or s j 0 ≡ b
  byte_at {i} {j} {b} e h = subst (λ (x : ℕ). get_or s x 0 ≡ b) e h

  pub join : (at : ℕ) (xs ys : List ℕ) → Stand s at xs → Stand s (at + length xs) ys → Stand s at (xs ++ ys)
  join at [] ys none h = stand_at (omega arith) h
  join at (x ∷ xs) ys (more l e r) h = more l e (join (at + 1) xs ys r (stand_at (omega arith) h))

  pub split : (at : ℕ) (xs ys : List ℕ) → Stand s at (xs ++ ys) → Stand s at xs × Stand s (at + length xs) ys
  split at [] ys h = (none, stand_at (omega arith) h)
  split at (x ∷ xs) ys (more l e r) = let q = split (at + 1) xs ys r in (more l e q.0, stand_at (omega arith) q.1)

  each_stands : (at : ℕ) (bs : List ℕ) → Stand s at bs → (i : ℕ) → i < length bs → get_or s (at + i) 0 ≡ get_or bs i 0
  each_stands at [] none i h = absurd (omega arith)
  each_stands at (b ∷ bs) (more l e r) zero h = byte_at (omega arith) e
  each_stands at (b ∷ bs) (more l e r) (suc i) h = byte_at (omega arith) (each_stands (at + 1) bs r i (omega arith))

  stand_of : (at : ℕ) (bs : List ℕ) → at + length bs ≤ length s → ((i : ℕ) → i < length bs → get_or s (at + i) 0 ≡ get_or bs i 0) → Stand s at bs
  stand_of at [] h f = none
  stand_of at (b ∷ bs) h f = more {at = at} (omega arith) (byte_at (omega arith) (f 0 (omega arith))) (stand_of (at + 1) bs (omega arith) (λ i l. byte_at (omega arith) (f (suc i) (omega arith))))

  -- of bytes: the word at a place is below 2^32, and its four stand there
  module _ (bytes : AllBytes s) where
    pub word_small : (at : ℕ) → word_at s at < 2 ^ 32
    unfolding word_at
    word_small at = omega (arith, bytes.each at, bytes.each (at + 1), bytes.each (at + 2), bytes.each (at + 3))

    pub word_stands : (at : ℕ) → at + 4 ≤ length s → Stand s at (le4 (word_at s at))
    unfolding le4 word_at
    word_stands at h =
        let g = its_bytes (get_or s at 0) (get_or s (at + 1) 0) (get_or s (at + 2) 0) (get_or s (at + 3) 0) _ (bytes.each _) (bytes.each _) (bytes.each _) (bytes.each _) refl in
        put at (at + 1) (omega arith) (omega arith) g.0 (put (at + 1) (at + 2) (omega arith) (omega arith) g.1 (put (at + 2) (at + 3) (omega arith) (omega arith) g.2 (put (at + 3) (at + 4) (omega arith) (omega arith) g.3 none)))

  -- back: where a word's four bytes stand the word is read
  pub word_read : (at w : ℕ) → w < 2 ^ 32 → Stand s at (le4 w) → (word_at s at ≡ w) × (at + 4 ≤ length s)
  unfolding le4 word_at
  word_read at w h (more l e (more l1 e1 (more l2 e2 (more l3 e3 none)))) =
      (rw (e, e1, byte_at {j = at + 2} (omega arith) e2, byte_at {j = at + 3} (omega arith) e3) (word_of_its_bytes w h), omega arith)

-- a list stands in itself, and what stands in it from its start to its end is the list
pub stand_self : (s : List ℕ) → Stand s 0 s
stand_self s = stand_of s 0 s (omega arith) (λ i h. byte_at s (omega arith) refl)

pub stand_whole : (s bs : List ℕ) → Stand s 0 bs → length bs ≡ length s → bs ≡ s
stand_whole s bs h e = ext_get_or 0 bs s e (λ i l. sym (byte_at s (omega arith) (each_stands s 0 bs h i l)))
