-- A layout where a slot lies in one word of the store, alone or with others.
-- Assumes nothing.
use Rattle.std.specs.Prelude.{ℕ, ◌+◌, ◌-◌, ◌/◌, ◌%◌, Bool, cond, List, get_or, set}
use Rattle.run.specs.Layout.{Layout}
use Rattle.run.specs.Words.{base}

-- word k of a store, changed by f
abbrev pub change : {B : Type 0} (zero_word : B) → List B → ℕ → (B → B) → List B
change zero_word st k f = set st k (f (get_or st k zero_word))

-- slot i of v lies in the word `place v i`: `get_in v i` reads it from the word, `put_in v i x` puts a value into the word
abbrev pub in_cells_of : {W B : Type 0} (words : ℕ) (place : (v i : ℕ) → ℕ) (get_in : (v i : ℕ) → B → W) (put_in : (v i : ℕ) → W → B → B) (zero_word : B) → Layout W B
in_cells_of words place get_in put_in zero_word =
    record {
      words = words;
      read = λ st v i. get_in v i (get_or st (place v i) zero_word);
      write = λ st v i x. change zero_word st (place v i) (put_in v i x);
    }

-- Flags in single bits (request C-23): "Pack all kept flag values into shared words, one bit each in 01's order, lowest bit first, after
-- the other streams' words". `get_bit j` reads bit j of a word as a flag, `put_bit j x` puts one there; a word has `bits` bits.
module _ {W B : Type 0} (flag : ℕ → Bool) (get : ℕ → B → W) (put : W → B) (get_bit : ℕ → B → W) (put_bit : ℕ → W → B → B) (bits : ℕ) (zero_word : B) (streams : ℕ) (kept : ℕ → ℕ) where
  -- the kept values that have a word each, and those that have a bit each
  abbrev pub kept_words : ℕ → ℕ
  kept_words v = cond (flag v) 0 (kept v)

  abbrev pub kept_bits : ℕ → ℕ
  kept_bits v = cond (flag v) (kept v) 0

  -- the first shared word, and the bit for slot i of the flag v, counted from there
  abbrev pub shared : ℕ
  shared = base kept_words streams

  abbrev pub bit_of : (v i : ℕ) → ℕ
  bit_of v i = base kept_bits v + i

  abbrev pub place_of : (v i : ℕ) → ℕ
  place_of v i = cond (flag v) (shared + bit_of v i / bits) (base kept_words v + i)

  abbrev pub get_of : (v i : ℕ) → B → W
  get_of v i b = cond (flag v) (get_bit (bit_of v i % bits) b) (get v b)

  abbrev pub put_of : (v i : ℕ) → W → B → B
  put_of v i x b = cond (flag v) (put_bit (bit_of v i % bits) x b) (put x)

  -- "the others' kept values plus the flags' kept values divided by 32, rounded up"
  abbrev pub packed : Layout W B
  packed = in_cells_of (shared + (base kept_bits streams + (bits - 1)) / bits) place_of get_of put_of zero_word
