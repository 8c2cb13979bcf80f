-- What the check must announce, in document 01's words ("What the check announces", "Refusal numbers"): over walks of any length.
-- Assumes nothing.
use Rattle.std.specs.Prelude.{ℕ, ◌≤◌, ◌<◌, ◌≡◌, List, length, get_or}
use Rattle.limits.specs.Limits.{most_streams, most_words}
use Rattle.limits.specs.Refusals.{accepted, wrong_loop, over_words}
use Rattle.basis.specs.Sums.{total, most}
use Rattle.records.specs.Kinds.{room_for}
use Rattle.basis.specs.Edges.{Among}
use Rattle.table.specs.Table.{Table, refused, decode, streams, edges}
use Rattle.table.specs.Generation.{Generated}
use Rattle.walks.specs.Walks.{Edges, LoopsBelow, LookAhead, Kept, PlaceOfLoop}
use Rattle.announce.specs.declared.Checked.{Checked}

-- the edges of a table
abbrev pub EdgesOf : Table → Edges
EdgesOf t = Among (edges t)

-- The numbers look, kept by stream, words, room and closing are what document 01 says of the table t.
pub record Numbers (t : Table) (look kept : ℕ → ℕ) (words room closing : ℕ) : Type 0 where
  -- "Look-ahead of v: the largest total of a walk from v, the empty walk (0) included."
  pub look_ahead_lem : (v : ℕ) → v < streams t → LookAhead (EdgesOf t) v (look v)
  -- "Kept values of v: 1 plus the largest of 0 and, over every edge of weight k from some y to v, look-ahead(y) - k - look-ahead(v)."
  pub kept_values : (v : ℕ) → v < streams t → Kept (EdgesOf t) look v (kept v)
  -- "Store words: the sum of kept values."
  pub store_words_lem : words ≡ total kept (streams t)
  -- "Room: 10 bytes for each output and 6 for each trigger."
  pub room_bytes : room ≡ room_for (length t.equations) (total (λ v. get_or t.roles v 0) (streams t))
  -- "Closing turns: the largest look-ahead."
  pub closing_turns : closing ≡ most look (streams t)

-- A table is accepted: it keeps to the rules of "The table" and "Numbers", and its bytes are s; "every loop's total below 0"; "store at
-- most 4,096 words".
pub record Accepted (s : List ℕ) : Type 0 where
  pub table : Table
  pub grammar : Generated s table
  pub loops : LoopsBelow (EdgesOf table)
  pub look : ℕ → ℕ
  pub kept : ℕ → ℕ
  pub look_ahead_lem : (v : ℕ) → v < streams table → LookAhead (EdgesOf table) v (look v)
  pub kept_values : (v : ℕ) → v < streams table → Kept (EdgesOf table) look v (kept v)
  pub store : total kept (streams table) ≤ most_words

-- Why a table is refused, by number and place.
pub data Refusal (s : List ℕ) : ℕ → ℕ → Type 0 where
  -- the first fault of the scan
  by_grammar : {n p : ℕ} → decode s ≡ refused n p → Refusal s n p
  -- "a loop totals 0 or more", at the "lowest stream with a walk of 1 to S edges back to itself totalling 0 or more"
  by_loop : {t : Table} {p : ℕ} → Generated s t → PlaceOfLoop (EdgesOf t) (streams t) p → Refusal s wrong_loop p
  -- "store words over 4,096"
  by_store : {t : Table} (look kept : ℕ → ℕ) (words room closing : ℕ) → Generated s t → LoopsBelow (EdgesOf t) → Numbers t look kept words room closing → most_words < words → Refusal s over_words 0

-- an accepting answer of the table t: number 0, place 0, the announced numbers, 0 past S
pub record Announces (t : Table) (r : Checked) : Type 0 where
  pub loops : LoopsBelow (EdgesOf t)
  pub numbers : Numbers t (λ v. get_or r.look v 0) (λ v. get_or r.kept v 0) r.words r.room r.closing
  pub store : r.words ≤ most_words
  pub number_is : r.number ≡ accepted
  pub place_is : r.place ≡ 0
  pub sizes : (length r.look ≡ most_streams) × (length r.kept ≡ most_streams)
  pub past : (v : ℕ) → streams t ≤ v → (get_or r.look v 0 ≡ 0) × (get_or r.kept v 0 ≡ 0)

-- a refusing answer: a number other than 0 with its place, and zeros
pub record Refuses (s : List ℕ) (r : Checked) : Type 0 where
  pub refusal : Refusal s r.number r.place
  pub some : 1 ≤ r.number
  pub sizes : (length r.look ≡ most_streams) × (length r.kept ≡ most_streams)
  pub zeros : (v : ℕ) → (get_or r.look v 0 ≡ 0) × (get_or r.kept v 0 ≡ 0)
  pub nothing : (r.words ≡ 0) × ((r.room ≡ 0) × (r.closing ≡ 0))

-- what document 01 allows the check to answer
pub data Answers (s : List ℕ) (r : Checked) : Type 0 where
  accepts : (t : Table) → Generated s t → Announces t r → Answers s r
  refuses : Refuses s r → Answers s r
