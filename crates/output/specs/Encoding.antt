-- What the output's functions write (document 01, "A run"): the records of the values due, in stream order.
-- Assumes nothing.
use Rattle.std.specs.Prelude.{ℕ, zero, suc, ◌+◌, ◌-◌, ◌≤◌, ◌<◌, ◌^◌, ◌≡◌, cond, List, [], ◌++◌, eqb, length, get_or, drop}
use Rattle.basis.specs.Firsts.{of}
use Rattle.run.specs.Turn.{due}
use Rattle.limits.specs.Limits.{most_streams}
use Rattle.run.specs.Run.{gather}
use Rattle.store.specs.declared.Frame.{Frame}
use Rattle.store.specs.Store.{layout_of, word_of, Framed, Findable}
use Rattle.records.specs.Kinds.{value_size_of, trigger_size_of}
use Rattle.records.specs.Encoding.{record_of, encode}

-- "The bytes written are the result's count; the rest of the output stays as it was."
abbrev pub overwritten : (bytes out : List ℕ) → List ℕ
overwritten bytes out = bytes ++ drop (length bytes) out

-- "10 bytes for each output and 6 for each trigger": the room of k streams from y on
unfoldable pub room_from_of : (roles : List ℕ) (k y : ℕ) → ℕ
room_from_of roles zero y = 0
room_from_of roles (suc k) y = value_size_of + cond (eqb (get_or roles y 0) 1) trigger_size_of 0 + room_from_of roles k (suc y)

-- the word that the store has of y for turn t
abbrev pub word_on : (look kept st : List ℕ) (t y : ℕ) → ℕ
word_on look kept st t y = word_of kept st y (t - get_or look y 0)

-- what stream y gives on turn t, where n rows are known
unfoldable pub records_on : (roles look kept st : List ℕ) (n t y : ℕ) → List ℕ
records_on roles look kept st n t y =
    cond (due (of look) n t y) (record_of roles (record { stream = y; position = t - get_or look y 0; word = word_on look kept st t y })) []

-- what k streams from y on give, in stream order
unfoldable pub output_of : (roles look kept st : List ℕ) (n t k y : ℕ) → List ℕ
output_of roles look kept st n t k y = encode roles (gather (of look) n t (word_on look kept st t) k y)

-- y's bytes fit from `at` on into an output of `room` bytes, and a store of so many words has y's word where the frame of turn t says
pub record CanGive (roles look : List ℕ) (frame : Frame) (words room n t y at : ℕ) : Type 0 where
  pub few : y < most_streams
  pub found : of look y ≤ t → t - of look y < n → Findable frame words y (t - of look y)
  pub rows : n < 2 ^ 32
  pub fits : at + room_from_of roles 1 y ≤ room

-- what y gives, by the numbers that the frame was laid from
abbrev pub Gives : (roles look : List ℕ) (frame : Frame) (st : List ℕ) (n t y : ℕ) → (List ℕ → Type 0) → Type 0
Gives roles look frame st n t y P =
    (types kept : List ℕ) (streams : ℕ) → Framed types look kept streams n t frame → y < streams → 0 < of kept y → P (records_on roles look kept st n t y)

-- all outputs' bytes fit, and the store is as long as announced
pub record CanEmit (roles look : List ℕ) (frame : Frame) (words room n t inputs streams : ℕ) : Type 0 where
  pub types : List ℕ
  pub kept : List ℕ
  pub framed : Framed types look kept streams n t frame
  pub some : (v : ℕ) → v < streams → 0 < of kept v
  pub stored : (layout_of types (of kept)).words ≤ words
  pub outputs : inputs ≤ streams
  pub few : streams ≤ most_streams
  pub rows : n < 2 ^ 32
  pub fits : room_from_of roles (streams - inputs) inputs ≤ room

-- the bytes stand at the front of the output, and `count` is their number
pub record Emitted (bytes before after : List ℕ) (count : ℕ) : Type 0 where
  pub counted : count ≡ length bytes
  pub written : after ≡ overwritten bytes before

-- the outputs' values of turn t, by the numbers that the frame was laid from
abbrev pub Emits : (roles look : List ℕ) (frame : Frame) (st : List ℕ) (n t inputs streams : ℕ) (before after : List ℕ) (count : ℕ) → Type 0
Emits roles look frame st n t inputs streams before after count =
    (types kept : List ℕ) → Framed types look kept streams n t frame → Emitted (output_of roles look kept st n t (streams - inputs) inputs) before after count
