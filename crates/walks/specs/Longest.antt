-- What the check announces of a list of edges, by definitions that compute (document 01, "What the check announces", and the place of refusal 7).
-- That they are what `Walks` says is proved in proofs/. Assumes nothing.
use Rattle.std.specs.Prelude.{ℕ, zero, suc, ◌+◌, ◌-◌, max, ◌≡◌, Bool, true, not, ◌&&◌, cond, List, [], ◌∷◌, eqb, ltb, ℤ, pos, ◌+ℤ◌}
use Rattle.std.specs.Int.Signed.{lt_z}
use Rattle.basis.specs.Notes.{rising, falling}
use Rattle.basis.specs.Parts.{up, down}
use Rattle.basis.specs.Edges.{Edge}

-- the largest of a set of totals, none where the set is empty
pub data Best : Type 0 where
  none : Best
  some : ℤ → Best

abbrev pub max_z : ℤ → ℤ → ℤ
max_z a b = cond (lt_z a b) b a

-- the larger of two
abbrev pub larger : Best → Best → Best
larger none b = b
larger (some a) none = some a
larger (some a) (some b) = some (max_z a b)

-- the sum, of two that are there
abbrev pub plus : Best → Best → Best
plus none b = none
plus (some a) none = none
plus (some a) (some b) = some (a +ℤ b)

-- ---- the square of longest walks

abbrev pub joins : Edge → ℕ → ℕ → Bool
joins e y v = eqb e.from y && eqb e.to v

-- an edge's weight at its two streams, nothing elsewhere
unfoldable pub only : Edge → ℕ → ℕ → Best
only e y v = cond (joins e y v) (some e.weight) none

-- the largest weight of an edge from y to v
unfoldable pub square_for : List Edge → ℕ → ℕ → Best
square_for [] y v = none
square_for (e ∷ es) y v = larger (square_for es y v) (only e y v)

-- the edges that a square holds
abbrev pub EdgesOf : (ℕ → ℕ → Best) → ℕ → ℕ → ℤ → Type 0
EdgesOf A y v k = A y v ≡ some k

-- a walk as it was, or through one stream more
abbrev pub relax_b : Best → Best → Best → Best
relax_b old left right = larger old (plus left right)

-- the longest walk of one edge or more from y to v whose inner streams are below k: "relaxed stream by stream"
unfoldable pub through : (ℕ → ℕ → Best) → ℕ → ℕ → ℕ → Best
through A zero y v = A y v
through A (suc k) y v = relax_b (through A k y v) (through A k y k) (through A k k v)

-- ---- acceptance

abbrev pub below : Best → Bool
below none = true
below (some t) = lt_z t (pos 0)

-- each of the first n is below 0 where it is there
unfoldable pub all_below : (ℕ → Best) → ℕ → Bool
all_below f zero = true
all_below f (suc n) = all_below f n && below (f n)

-- the diagonal is below 0 at each stream below S: of `through A S`, "every loop's total below 0"
unfoldable pub loops_below_of : (ℕ → ℕ → Best) → ℕ → Bool
loops_below_of D S = all_below (λ v. D v v) S

-- ---- look-ahead

abbrev pub or_more : ℕ → Best → ℕ
or_more a none = a
or_more a (some t) = max a (up t)

-- the largest of 0 and the first n of a row: of `through A S v`, "the largest total of a walk from v, the empty walk (0) included"
unfoldable pub look_to : (ℕ → Best) → ℕ → ℕ
look_to f zero = 0
look_to f (suc n) = or_more (look_to f n) (f n)

-- the same of each row of a square of S streams, 0 past S: of `through A S`, the look-aheads
unfoldable pub look_of : (ℕ → ℕ → Best) → ℕ → ℕ → ℕ
look_of D S v = cond (ltb v S) (look_to (D v) S) 0

-- ---- the place of refusal 7

-- the largest of the first n
unfoldable pub sup_to : (ℕ → Best) → ℕ → Best
sup_to f zero = none
sup_to f (suc n) = larger (sup_to f n) (f n)

-- the largest total of a walk of n + 1 edges from y to v, over streams below S
unfoldable pub back : ℕ → (ℕ → ℕ → Best) → ℕ → ℕ → ℕ → Best
back S A v zero y = A y v
back S A v (suc n) y = sup_to (λ m. plus (A y m) (back S A v n m)) S

-- "a walk of 1 to S edges back to itself totalling 0 or more"
unfoldable pub short_loop_of : ℕ → (ℕ → ℕ → Best) → ℕ → Bool
short_loop_of S A v = not (all_below (λ n. back S A v n v) S)

-- the lowest below n with the property, n where none has it
unfoldable pub lowest : (ℕ → Bool) → ℕ → ℕ
lowest f zero = zero
lowest f (suc n) = cond (f zero) zero (suc (lowest (λ v. f (suc v)) n))

-- "lowest stream with" such a walk, S where there is none
unfoldable pub place_of : (ℕ → ℕ → Best) → ℕ → ℕ
place_of A S = lowest (short_loop_of S A) S

-- ---- kept values

-- the largest of 0 and, over every edge of weight k from some y to v, look-ahead(y) - k - look-ahead(v)
unfoldable pub slack_of : List Edge → (ℕ → ℕ) → ℕ → ℕ
slack_of [] look v = 0
slack_of (e ∷ es) look v = max (slack_of es look v) (cond (eqb e.to v) (look e.from + down e.weight - (up e.weight + look v)) 0)

-- "1 plus the largest of 0 and .."
unfoldable pub kept_from : List Edge → (ℕ → ℕ) → ℕ → ℕ
kept_from es look v = suc (slack_of es look v)

-- ---- edges as two squares of small numbers, for weights from -128 to 127

-- the largest m k over the edges of weight k from y to v, 0 where there is none
unfoldable pub note_of : (ℤ → ℕ) → List Edge → ℕ → ℕ → ℕ
note_of m [] y v = 0
note_of m (e ∷ es) y v = max (note_of m es y v) (cond (joins e y v) (m e.weight) 0)

-- the note of the largest weight of an edge from y to v, 0 where there is none
abbrev pub rise_of : List Edge → ℕ → ℕ → ℕ
rise_of = note_of rising

-- the note of the smallest weight of an edge from y to v, 0 where there is none
abbrev pub fall_of : List Edge → ℕ → ℕ → ℕ
fall_of = note_of falling
