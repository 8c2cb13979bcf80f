-- Edges, walks, loops and look-ahead, as document 01 has them ("What the check announces"). Nothing here computes.
-- Assumes nothing.
use Rattle.std.specs.Prelude.{ℕ, zero, suc, ◌+◌, ◌≤◌, ◌<◌, ◌≡◌, ◌⊎◌, ℤ, pos, ◌+ℤ◌, ◌≤ℤ◌, ◌<ℤ◌}
use Rattle.basis.specs.Parts.{up, down}

-- E y v k says that an edge of weight k leads from y to v
abbrev pub Edges : Type 1
Edges = ℕ → ℕ → ℤ → Type 0

-- every edge lies between streams below S
abbrev pub Within : Edges → ℕ → Type 0
Within E S = (y v : ℕ) (k : ℤ) → E y v k → (y < S) × (v < S)

-- a walk of n edges from i to j, with its total
pub data Walk (E : Edges) : ℕ → ℕ → ℕ → ℤ → Type 0 where
  stay : {i : ℕ} → Walk E zero i i (pos 0)
  step : {n i m j : ℕ} {k t : ℤ} → E i m k → Walk E n m j t → Walk E (suc n) i j (k +ℤ t)

-- "A loop is a walk of at least one edge back to its start. Acceptance needs every loop's total below 0."
unfoldable pub LoopsBelow : Edges → Type 0
LoopsBelow E = (n v : ℕ) (t : ℤ) → Walk E (suc n) v v t → t <ℤ pos 0

-- "Look-ahead of v: the largest total of a walk from v, the empty walk (0) included."
pub record LookAhead (E : Edges) (v a : ℕ) : Type 0 where
  pub all : (n j : ℕ) (t : ℤ) → Walk E n v j t → t ≤ℤ pos a
  pub real : (n : ℕ) × (j : ℕ) × Walk E n v j (pos a)

-- "Kept values of v: 1 plus the largest of 0 and, over every edge of weight k from some y to v, look-ahead(y) - k - look-ahead(v)."
pub record Kept (E : Edges) (look : ℕ → ℕ) (v n : ℕ) : Type 0 where
  pub some : 1 ≤ n
  pub all : (y : ℕ) (k : ℤ) → E y v k → look y + down k + 1 ≤ n + (up k + look v)
  pub real : (n ≡ 1) ⊎ ((y : ℕ) × (k : ℤ) × E y v k × (look y + down k + 1 ≡ n + (up k + look v)))

-- refusal 7: "a walk of 1 to S edges back to itself totalling 0 or more"
pub record ShortLoop (E : Edges) (S v : ℕ) : Type 0 where
  pub n : ℕ
  pub t : ℤ
  pub few : n < S
  pub up_to : pos 0 ≤ℤ t
  pub loop : Walk E (suc n) v v t

-- refusal 7's place: "lowest stream with" such a walk
pub record PlaceOfLoop (E : Edges) (S p : ℕ) : Type 0 where
  pub within : p < S
  pub loop : ShortLoop E S p
  pub lowest : (v : ℕ) → v < p → ShortLoop E S v → ⊥

-- the numbers that are announced for S streams where every loop is below 0
pub record Right (E : Edges) (S : ℕ) (look kept : ℕ → ℕ) : Type 0 where
  pub below : LoopsBelow E
  pub ahead : (v : ℕ) → v < S → LookAhead E v (look v)
  pub keeps : (v : ℕ) → v < S → Kept E look v (kept v)
