-- Records read back from their bytes (document 01, "A run"): record by record, up to what is no whole record.
-- Assumes nothing.
use Rattle.std.specs.Prelude.{◌≡◌, ℕ, zero, suc, ◌<◌, ◌≤◌, ◌^◌, cond, List, [], ◌∷◌, ◌++◌, eqb, leb, length, get_or, drop}
use Rattle.basis.specs.Choices.{or_else}
use Rattle.basis.specs.Given.{Given}
use Rattle.wire.specs.Bytes.{word_at}
use Rattle.records.specs.declared.Kind.{Kind}
use Rattle.records.specs.Kinds.{kind_value, byte_of, size_for, size_of_kind_of}
use Rattle.records.specs.Encoding.{raised}

-- what a record says: a value's stream, position and word, or a trigger's stream and position
pub data Item : Type 0 where
  value : (stream position word : ℕ) → Item
  trigger : (stream position : ℕ) → Item

-- how many bytes the record takes that a list of bytes starts with, 0 where it starts with none, whole
unfoldable pub record_size_of : List ℕ → ℕ
record_size_of l = cond (leb (size_of_kind_of (get_or l 0 0)) (length l)) (size_of_kind_of (get_or l 0 0)) 0

-- the list starts with a record of the kind, whole
pub record StartsWith (k : Kind) (l : List ℕ) : Type 0 where
  pub first : get_or l 0 0 ≡ byte_of k
  pub whole : size_for k ≤ length l

-- what that record says: stream in byte 1, position from byte 2 on, value word from byte 6 on
unfoldable pub item_of : List ℕ → Item
item_of l = cond (eqb (get_or l 0 0) kind_value) (value (get_or l 1 0) (word_at l 2) (word_at l 6)) (trigger (get_or l 1 0) (word_at l 2))

-- no more than `most` records
unfoldable pub first_items : (most : ℕ) → List ℕ → List Item
first_items zero l = []
first_items (suc most) l = or_else (eqb (record_size_of l) 0) [] λ _. item_of l ∷ first_items most (drop (record_size_of l) l)

-- the records that a list of bytes starts with; what is no record, whole, ends them
unfoldable pub read_items : List ℕ → List Item
read_items l = first_items (length l) l

-- the values among them
unfoldable pub values_in : List Item → List (Given ℕ)
values_in [] = []
values_in (value y p w ∷ is) = record { stream = y; position = p; word = w } ∷ values_in is
values_in (trigger y p ∷ is) = values_in is

-- the values given, by the bytes alone
unfoldable pub read_back_of : List ℕ → List (Given ℕ)
read_back_of l = values_in (read_items l)

-- what the records of the values given say, one value after the other: "a trigger stream's true value is followed by record 51"
abbrev pub items_of : (roles : List ℕ) → Given ℕ → List Item
items_of roles g = value g.stream g.position g.word ∷ cond (raised roles g) (trigger g.stream g.position ∷ []) []

unfoldable pub items_given : (roles : List ℕ) → List (Given ℕ) → List Item
items_given roles [] = []
items_given roles (g ∷ gs) = items_of roles g ++ items_given roles gs

-- a value that its record has room for: one byte of stream, four of position, four of word
pub record Fits (g : Given ℕ) : Type 0 where
  pub stream_fits : g.stream < 256
  pub position_fits : g.position < 2 ^ 32
  pub word_fits : g.word < 2 ^ 32

pub data AllFit : List (Given ℕ) → Type 0 where
  none : AllFit []
  more : {g : Given ℕ} {gs : List (Given ℕ)} → Fits g → AllFit gs → AllFit (g ∷ gs)
