-- Document 01's layout: one word for each kept value, in stream order.
-- Assumes nothing.
use Rattle.std.specs.Prelude.{ℕ, ◌+◌, get_or, set}
use Rattle.basis.specs.Sums.{total}
use Rattle.run.specs.Layout.{Layout}

-- "The store holds one part for each stream, in stream order, as long as its kept number": the first word of v's part
abbrev pub base : (ℕ → ℕ) → ℕ → ℕ
base kept v = total kept v

-- "Store words: the sum of kept values." Slot i of v is word i of its part: `get v` reads a word as a value of v's type, `put` is a value's word.
abbrev pub in_parts : {W B : Type 0} (get : ℕ → B → W) (put : W → B) (zero_word : B) (streams : ℕ) (kept : ℕ → ℕ) → Layout W B
in_parts get put zero_word streams kept =
    record {
      words = base kept streams;
      read = λ st v i. get v (get_or st (base kept v + i) zero_word);
      write = λ st v i x. set st (base kept v + i) (put x);
    }
