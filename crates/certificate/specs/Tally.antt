-- What is held of the edges noted so far: the tight targets of each stream as bits, the largest slack of an edge into each stream;
-- and the references of one equation, held as the largest and the smallest weight of an edge to each stream. Assumes nothing.
use Rattle.std.specs.Prelude.{ℕ, ◌+◌, ◌/◌, ◌%◌, ◌^◌, ◌≤◌, ◌<◌, ◌≡◌, Bool, true, false, cond, ◌⊎◌, List, ◌++◌, length, get_or, ℤ}
use Rattle.std.specs.Int.Bits.{bit_or}
use Rattle.limits.specs.Limits.{most_streams}
use Rattle.basis.specs.Parts.{up, down}
use Rattle.basis.specs.Edges.{Edge, Has, Among}
use Rattle.walks.specs.Walks.{Edges}
use Rattle.expression.specs.References.{Refers, Extremes}
use Rattle.certificate.specs.Certificate.{Slack, Tight}
use Rattle.certificate.specs.Forgotten.{rises, falls, Forgotten}

-- a number as a set of streams: bit m v is 1 where v is in it
unfoldable pub bit : ℕ → ℕ → ℕ
bit m v = m / 2 ^ v % 2

-- the set with v put in where the test holds
abbrev pub marked : ℕ → ℕ → Bool → ℕ
marked m v b = cond b (bit_or m (2 ^ v)) m

-- m is the largest of 0 and the slacks of the edges into v
pub record Most (E : Edges) (look : ℕ → ℕ) (v m : ℕ) : Type 0 where
  pub all : (y : ℕ) (k : ℤ) → E y v k → look y + down k ≤ m + (up k + look v)
  pub real : (m ≡ 0) ⊎ ((y : ℕ) × (k : ℤ) × E y v k × (look y + down k ≡ m + (up k + look v)))

-- `tight` and `most` hold the edges E, each of which has slack
pub record Tally (E : Edges) (look : ℕ → ℕ) (tight most : List ℕ) : Type 0 where
  pub long : (length tight ≡ most_streams) × (length most ≡ most_streams)
  pub slack : Slack E look
  pub bits : (y v : ℕ) → y < most_streams → bit (get_or tight y 0) v ≡ 1 → Tight E look y v
  pub tights : (y v : ℕ) → y < most_streams → Tight E look y v → bit (get_or tight y 0) v ≡ 1
  pub mosts : (v : ℕ) → v < most_streams → Most E look v (get_or most v 0)

-- rs are the edges of y's equation, to streams below s; `rise` and `fall` hold the largest and the smallest weight of those to each stream
pub record Row (rs : List Edge) (y : ℕ) (rise fall : ℕ → ℕ) (s : ℕ) : Type 0 where
  pub refers : Refers y s rs
  pub extremes : (v : ℕ) → v < s → Extremes rs y v (rise v) (fall v)

-- an edge among them has no slack
pub record Lacks (look : ℕ → ℕ) (rs : List Edge) : Type 0 where
  pub y : ℕ
  pub v : ℕ
  pub k : ℤ
  pub has : Has y v k rs
  pub lacks : look y + down k < up k + look v

-- those noted before, and those of the row that lead to a stream below n
pub data Upto (rs es : List Edge) (n : ℕ) (y v : ℕ) (k : ℤ) : Type 0 where
  old : Has y v k es → Upto rs es n y v k
  new : v < n → Has y v k rs → Upto rs es n y v k

-- what noting the edges of a row to one stream v does, by its answer
abbrev pub NotedCell : Bool → ℕ → ℕ → ℕ → (ℕ → ℕ) → (ℕ → ℕ) → (ℕ → ℕ) → List ℕ → List ℕ → List ℕ → List ℕ → Type 0
NotedCell true y v s look rise fall t m t' m' = (rs es : List Edge) → Row rs y rise fall s → Tally (Upto rs es v) look t m → Tally (Upto rs es (v + 1)) look t' m'
NotedCell false y v s look rise fall t m t' m' = (rs : List Edge) → Row rs y rise fall s → Lacks look rs

-- what noting a row does, by its answer: the row's edges are one more part of those noted and the row is forgotten, or one of them has no slack
abbrev pub NotedRow : Bool → ℕ → ℕ → (ℕ → ℕ) → List (List ℕ) → List ℕ → List ℕ → List (List ℕ) → List ℕ → List ℕ → Type 0
NotedRow true y s look seen t m seen' t' m' =
    ((rs es : List Edge) → Row rs y (rises seen) (falls seen) s → Tally (Among es) look t m → Tally (Among (rs ++ es)) look t' m') × Forgotten s seen seen'
NotedRow false y s look seen t m seen' t' m' = (rs : List Edge) → Row rs y (rises seen) (falls seen) s → Lacks look rs
