-- The lent store (document 01, "A run"): its layout, and what the functions over it answer. `types`, `look` and `kept` hold a number for
-- each stream, q is a position. Assumes nothing.
use Rattle.std.specs.Prelude.{ℕ, ◌+◌, ◌-◌, ◌%◌, ◌≤◌, ◌<◌, ◌^◌, min, ◌≡◌, cond, List, ◌++◌, ltb, get_or, drop, replicate}
use Rattle.basis.specs.Firsts.{of}
use Rattle.limits.specs.Limits.{most_streams}
use Rattle.value.specs.declared.Value.{Value}
use Rattle.value.specs.Values.{reading_of, image_of}
use Rattle.run.specs.Layout.{Layout}
use Rattle.run.specs.Words.{base, in_parts}
use Rattle.store.specs.declared.Part.{Part}
use Rattle.store.specs.declared.Frame.{Frame}

-- a word of stream v, as a value of its type
abbrev pub read_as : (types : List ℕ) (v w : ℕ) → Value
read_as types v w = reading_of (get_or types v 0) w

-- Document 01's layout: one word for each kept value, in stream order; "store and output take its 32-bit image". Kept numbers are "0 past S",
-- so the parts of all 32 streams are those of the table's.
abbrev pub layout_of : (types : List ℕ) (kept : ℕ → ℕ) → Layout Value ℕ
layout_of types kept = in_parts (read_as types) image_of 0 most_streams kept

-- the same slots, with a word in each
abbrev pub words_of : (kept : ℕ → ℕ) → Layout ℕ ℕ
words_of kept = in_parts (λ v w. w) (λ w. w) 0 most_streams kept

-- "the value for position p lies in word p mod n of its part": the slot of v for position q
abbrev pub slot_of : (kept : List ℕ) (v q : ℕ) → ℕ
slot_of kept v q = q % get_or kept v 0

-- the value that the store has of v for position q
unfoldable pub held_of : (types kept st : List ℕ) (v q : ℕ) → Value
held_of types kept st v q = (layout_of types (of kept)).read st v (slot_of kept v q)

-- the store with the value x of v for position q
unfoldable pub written_of : (types kept st : List ℕ) (v q : ℕ) → Value → List ℕ
written_of types kept st v q x = (layout_of types (of kept)).write st v (slot_of kept v q) x

-- the word that the store has of v for position q
unfoldable pub word_of : (kept st : List ℕ) (v q : ℕ) → ℕ
word_of kept st v q = (words_of (of kept)).read st v (slot_of kept v q)

-- "Opening puts 0 into exactly the announced store words."
abbrev pub cleared_of : (words : ℕ) → List ℕ → List ℕ
cleared_of words st = replicate words 0 ++ drop words st

-- what a turn's frame has of the stream v
abbrev pub no_part : Part
no_part = record { lap = 0; start = 0; kept = 0; kind = 0 }

abbrev pub part_of : Frame → ℕ → Part
part_of frame v = get_or frame.parts v no_part

-- the number of words lent, as a turn's frame has it
abbrev pub lent_in : Frame → ℕ
lent_in frame = frame.lent

abbrev pub lent_with : ℕ → Frame → Frame
lent_with words frame = record frame { lent = words }

-- the newest position that turn t has of v, where n rows are known: "that turn less [its] look-ahead", or the last one of the trace
abbrev pub newest_of : (look : List ℕ) (n t v : ℕ) → ℕ
newest_of look n t v = min (t - of look v) (n - 1)

-- where the lap before that of position q starts, by laps of n positions: q less its slot less a lap, or 0
abbrev pub lap_for : (q n : ℕ) → ℕ
lap_for q n = q - q % n - n

-- The parts that a frame of turn t has, where n rows are known. Of each stream it has the lap before that of the newest position, and
-- where its part starts: "The store holds one part for each stream, in stream order, as long as its kept number".
pub record Laid (types look kept : List ℕ) (streams n t : ℕ) (parts : List Part) : Type 0 where
  pub laps : (v : ℕ) → v < streams → of look v ≤ t → (get_or parts v no_part).lap ≡ lap_for (newest_of look n t v) (of kept v)
  pub starts : (v : ℕ) → v < streams → (get_or parts v no_part).start ≡ base (of kept) v
  pub keeps : (v : ℕ) → v < streams → (get_or parts v no_part).kept ≡ of kept v
  pub typed : (v : ℕ) → v < streams → (get_or parts v no_part).kind ≡ of types v
  pub narrow : (v : ℕ) → v < streams → (get_or parts v no_part).start + (get_or parts v no_part).kept < 2 ^ 32

-- a frame of turn t
pub record Framed (types look kept : List ℕ) (streams n t : ℕ) (frame : Frame) : Type 0 where
  pub laid : Laid types look kept streams n t frame.parts
  pub known : frame.known ≡ n

-- the word for the position q of v by the frame's numbers: as far as q lies past the lap, less a whole lap where that is more
unfoldable pub place_in : (frame : Frame) (v q : ℕ) → ℕ
place_in frame v q =
    let far = q - (part_of frame v).lap in
    let n = (part_of frame v).kept in
    cond (ltb far n) far (far - n) + (part_of frame v).start

-- the position q of v lies less than two laps past the lap, so that the frame has a word of v's part for it
pub record Placeable (frame : Frame) (v q : ℕ) : Type 0 where
  pub stream : v < most_streams
  pub near : ((part_of frame v).lap ≤ q) × (q < (part_of frame v).lap + (part_of frame v).kept + (part_of frame v).kept)
  pub small : (part_of frame v).start + (part_of frame v).kept < 2 ^ 32

-- and a store of n words has that word
pub record Findable (frame : Frame) (n v q : ℕ) : Type 0 where
  pub placeable : Placeable frame v q
  pub within : (part_of frame v).start + (part_of frame v).kept ≤ n

-- q is a position of v that the store holds in turn t, where n rows are known
pub record Within (look kept : List ℕ) (n t v q : ℕ) : Type 0 where
  pub inside : q < n
  pub come : q + of look v ≤ t
  pub stays : t < q + of look v + of kept v

-- what laying a frame needs
pub record CanLay (kept : List ℕ) (streams n : ℕ) : Type 0 where
  pub few : streams ≤ most_streams
  pub some : (v : ℕ) → v < streams → 0 < of kept v
  pub row : 0 < n
  pub rows : n < 2 ^ 32
