-- Laws of a word and its bytes: reading back what was put, and words of a list that is put together or shortened in front.
-- Assumes nothing.
use mathlib.Core.Path.{◌≡◌, refl, sym}
use mathlib.Core.List.{List, [], ◌∷◌, ◌++◌}
use Prim.Native.Nat.{ℕ, zero, suc, ◌+◌, ◌-◌, ◌/◌, ◌%◌, ◌^◌, ◌<◌, ◌≤◌}
use native.Mathlib.Nat.{div-div-eq-div-mul, div-add-mod'}
use native.Mathlib.Omega.{arith}
use borrow.Rule.Slice.PartMut.{put_mid}
use lib.ListN.{length, get_or, take, drop, get_or-append, length-append, length-take, length-drop}
use lib.Seq.{get_or-append-add}
use Rattle.std.specs.Int.{w32, to_le_bytes}
use Rattle.std.proofs.lemmas.Slice.{take-put_mid, drop-put_mid}
use Rattle.basis.specs.Written.{Wrote}
use Rattle.wire.specs.Bytes.{AllBytes, le4, word_of, word_at}

-- bytes put together are bytes
pub no_bytes : AllBytes []
no_bytes = record { each = λ i. omega arith }

pub byte_more : {b : ℕ} {l : List ℕ} → b < 256 → AllBytes l → AllBytes (b ∷ l)
byte_more {b} {l} h k = record { each = go }
  where
    go : (i : ℕ) → get_or (b ∷ l) i 0 < 256
    go zero = h
    go (suc i) = k.each i

pub bytes_append : {a b : List ℕ} → AllBytes a → AllBytes b → AllBytes (a ++ b)
bytes_append {a = []} h k = k
bytes_append {a = x ∷ a} h k = byte_more (h.each 0) (bytes_append {a = a} (record { each = λ i. h.each (suc i) }) k)

pub word_length : (w : ℕ) → length (le4 w) ≡ 4
unfolding le4
word_length w = refl

-- what is copied into the part of a slice from a place to an end is written there
pub wrote_copied : (l : List ℕ) (place end : ℕ) (text : List ℕ) → end ≡ place + length text → end ≤ length l → Wrote l place text (put_mid place (end - place) l text) end
wrote_copied l place end text e h = record {
  ends = e;
  front = take-put_mid place (end - place) l text end e (omega arith);
  rest = drop-put_mid place (end - place) l text end (omega arith) (omega arith) (omega arith);
  size = omega (arith, length-append (take place l) (text ++ drop (end - place) (drop place l)), length-append text (drop (end - place) (drop place l)), length-take place l, length-drop (end - place) (drop place l), length-drop place l);
}

-- std's four bytes of a word are its bytes
pub bytes_of_word : (w : ℕ) → to_le_bytes w32 w ≡ le4 w
unfolding le4
bytes_of_word w = refl

-- each of the four is below 256
pub word_bytes : (w : ℕ) → AllBytes (le4 w)
unfolding le4
word_bytes w = byte_more (omega arith) (byte_more (omega arith) (byte_more (omega arith) (byte_more (omega arith) no_bytes)))

-- four bytes make a word
pub word_below : (s : List ℕ) → AllBytes s → (i : ℕ) → word_at s i < 2 ^ 32
unfolding word_at
word_below s h i = omega (arith, h.each i, h.each (i + 1), h.each (i + 2), h.each (i + 3))

-- the four bytes of a word make the word
pub word_of_its_bytes : (w : ℕ) → w < 2 ^ 32 → word_of (w % 256) (w / 256 % 256) (w / 65536 % 256) (w / 16777216 % 256) ≡ w
word_of_its_bytes w h = by (w / 256) (w / 65536) (w / 16777216) refl (sym (div-div-eq-div-mul w 256 256)) (sym (div-div-eq-div-mul w 65536 256))
  where
    by : (a b c : ℕ) → a ≡ w / 256 → b ≡ a / 256 → c ≡ b / 256 → word_of (w % 256) (a % 256) (b % 256) (c % 256) ≡ w
    by a b c e f g = omega (arith, div-add-mod' w 256, div-add-mod' a 256, div-add-mod' b 256)

-- and four bytes are those of the word that they make
pub its_bytes : (a b c d x : ℕ) → a < 256 → b < 256 → c < 256 → d < 256 → x ≡ word_of a b c d → (a ≡ x % 256) × (b ≡ x / 256 % 256) × (c ≡ x / 65536 % 256) × (d ≡ x / 16777216 % 256)
its_bytes a b c d x p q r t e = (omega arith, omega arith, omega arith, omega arith)

-- reading back what was put
pub word_back : (w : ℕ) → w < 2 ^ 32 → word_at (le4 w) 0 ≡ w
unfolding le4 word_at
word_back w h = word_of_its_bytes w h

module _ (a b : List ℕ) where
  -- a word of the first of two lists
  pub word_in_front : (at : ℕ) → at + 4 ≤ length a → word_at (a ++ b) at ≡ word_at a at
  unfolding word_at
  word_in_front at h =
      rw (get_or-append a b 0 at (omega arith), get_or-append a b 0 (at + 1) (omega arith), get_or-append a b 0 (at + 2) (omega arith), get_or-append a b 0 (at + 3) (omega arith))

  -- a word of the second
  byte_past : (j k : ℕ) → j ≡ length a + k → get_or (a ++ b) j 0 ≡ get_or b k 0
  byte_past j k e = rw e (get_or-append-add a b k 0)

  pub word_past : (j k : ℕ) → j ≡ length a + k → word_at (a ++ b) j ≡ word_at b k
  unfolding word_at
  word_past j k e =
      rw (byte_past j k e, byte_past (j + 1) (k + 1) (omega arith), byte_past (j + 2) (k + 2) (omega arith), byte_past (j + 3) (k + 3) (omega arith))
