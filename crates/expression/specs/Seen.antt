-- What a scan keeps of each stream, a row of an array by stream: its type, and the notes of the largest and of the smallest weight of the
-- references to it (document 01, "What the check announces"). Assumes nothing.
use Rattle.std.specs.Prelude.{ℕ, ◌-◌, ◌≤◌, ◌<◌, ◌≡◌, List, [], ◌∷◌, ◌++◌, map, length, get_or, replicate}
use Rattle.basis.specs.Rows.{entry, Shaped}
use Rattle.limits.specs.Limits.{most_streams}

-- the entries of a row; the last one is not used
abbrev pub seen_type : ℕ
seen_type = 0

abbrev pub seen_rise : ℕ
seen_rise = 1

abbrev pub seen_fall : ℕ
seen_fall = 2

abbrev pub seen_entries : ℕ
seen_entries = 4

-- what stands for the type of a stream past the last one
abbrev pub no_type : ℕ
no_type = 255

-- the rows of streams of the types ts
pub record Seen (ts : List ℕ) (seen : List (List ℕ)) : Type 0 where
  pub shape : Shaped most_streams seen_entries seen
  pub few : length ts ≤ most_streams
  pub typed : (v : ℕ) → v < length ts → get_or ts v 0 < no_type
  pub types : (v : ℕ) → v < length ts → entry seen v seen_type ≡ get_or ts v 0
  pub past : (v : ℕ) → length ts ≤ v → v < most_streams → entry seen v seen_type ≡ no_type

-- nothing is noted
abbrev pub Unnoted : List (List ℕ) → Type 0
Unnoted seen = (v : ℕ) → v < most_streams → (entry seen v seen_rise ≡ 0) × (entry seen v seen_fall ≡ 0)

-- the row of a stream of the type t of which nothing is noted
abbrev pub fresh_row : ℕ → List ℕ
fresh_row t = t ∷ 0 ∷ 0 ∷ 0 ∷ []

-- the rows before any stream was seen
abbrev pub unseen : List (List ℕ)
unseen = replicate most_streams (fresh_row no_type)

-- the rows of streams of the types ts of which nothing is noted, and as many unseen ones as make up 32
unfoldable pub fresh : List ℕ → List (List ℕ)
fresh ts = map fresh_row ts ++ replicate (most_streams - length ts) (fresh_row no_type)
