-- What the readers of a text's parts answer, as relations to the forms (crate `shapes`); where they read none of a form, the text leaves it
-- (`Lost`). Assumes nothing.
use Rattle.std.specs.Prelude.{ℕ, ◌≤◌, ◌<◌, ◌≡◌, ◌≢◌, List, [], ◌∷◌, ◌++◌, ℤ, length, slice_index}
use Rattle.lines.specs.Lines.{hex_digit_of, hex8}
use Rattle.shapes.specs.Forms.{word}
use Rattle.shapes.specs.Places.{Got}
use Rattle.shapes.specs.Numbers.{number, offset, hex_one, times}
use Rattle.expression.specs.Generation.{signed_byte_of}
use Rattle.source.specs.Words.{word_of}
use Rattle.source.specs.Trees.{signed, Ranged}
use Rattle.spell.specs.declared.Spelt.{Spelt}

-- two texts begin with the same n bytes, and behind these one of them ends or they part
pub record Alike (s t : List ℕ) (n : ℕ) : Type 0 where
  pub within_first : n ≤ length s
  pub within_second : n ≤ length t
  pub same : (k : ℕ) → k < n → slice_index s k ≡ slice_index t k
  pub parts : n < length s → n < length t → slice_index s n ≢ slice_index t n

-- a word of the rows from one up to another
pub record WordRead (from to : ℕ) (text : List ℕ) (at : ℕ) (s : Spelt ℕ) : Type 0 where
  pub low : from ≤ s.what
  pub high : s.what < to
  pub got : Got (word (word_of s.what)) text at tt s.next

-- a number and the place behind the byte that follows it
pub record NumberRead (least most stop : ℕ) (text : List ℕ) (at : ℕ) (s : Spelt ℕ) : Type 0 where
  pub low : least ≤ s.what
  pub high : s.what ≤ most
  pub got : Got (number least most stop) text at (s.what, (low, high)) s.next

-- an offset, as the byte that a table has for it
pub record OffsetRead (stop : ℕ) (text : List ℕ) (at : ℕ) (s : Spelt ℕ) : Type 0 where
  pub offset_is : ℤ
  pub ranged : Ranged offset_is
  pub byte_is : s.what ≡ signed_byte_of offset_is
  pub of : (offset stop).Of
  pub printed : (offset stop).print of ≡ signed offset_is ++ (stop ∷ [])
  pub got : Got (offset stop) text at of s.next

-- a lower-case hex digit's value, and a byte that is none
pub record DigitRead (b d : ℕ) : Type 0 where
  pub small : d < 16
  pub byte_is : b ≡ hex_digit_of d

abbrev pub NoDigit : ℕ → Type 0
NoDigit b = (d : ℕ) → d < 16 → b ≡ hex_digit_of d → ⊥

-- the word of eight hex digits
pub record HexRead (text : List ℕ) (at : ℕ) (s : Spelt ℕ) : Type 0 where
  pub fits : s.what ≤ 4294967295
  pub of : (times 8 hex_one).Of
  pub printed : (times 8 hex_one).print of ≡ hex8 s.what
  pub got : Got (times 8 hex_one) text at of s.next
