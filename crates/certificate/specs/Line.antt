-- The streams in a line, each behind its tight targets, or a set of streams none of which can come first; and numbers that agree with a tally.
-- Assumes nothing.
use Rattle.std.specs.Prelude.{ℕ, ◌+◌, ◌<◌, ◌≡◌, Bool, true, false, ◌⊎◌, Option, Some, None, List, get_or}
use Rattle.std.specs.Int.Bits.{bit_and}
use Rattle.certificate.specs.Tally.{bit}

-- a stream of the rest none of whose tight targets is in the rest, or none where each stream of the rest has one
abbrev pub Ready : (tight : List ℕ) (rest s : ℕ) → Option ℕ → Type 0
Ready tight rest s (Some r) = (r < s) × (bit rest r ≡ 1) × (bit_and (get_or tight r 0) rest ≡ 0)
Ready tight rest s None = (y : ℕ) → y < s → bit rest y ≡ 1 → bit_and (get_or tight y 0) rest ≡ 0 → ⊥

-- every stream once, each behind its tight targets
pub record Lined (tight : List ℕ) (s : ℕ) (order : List ℕ) : Type 0 where
  pub inside : (i : ℕ) → i < s → get_or order i 0 < s
  pub placed : (y : ℕ) → y < s → (i : ℕ) × (i < s) × (get_or order i 0 ≡ y)
  pub before : (i v : ℕ) → i < s → v < s → bit (get_or tight (get_or order i 0) 0) v ≡ 1 → (j : ℕ) × (j < i) × (get_or order j 0 ≡ v)
  pub once : (i j : ℕ) → i < s → j < i → get_or order i 0 ≡ get_or order j 0 → ⊥

-- streams each of which has a tight target among them
pub record Stuck (tight : List ℕ) (s : ℕ) : Type 0 where
  pub rest : ℕ
  pub y : ℕ
  pub inside : y < s
  pub is : bit rest y ≡ 1
  pub on : (y : ℕ) → y < s → bit rest y ≡ 1 → (v : ℕ) × (bit (get_or tight y 0) v ≡ 1) × (bit rest v ≡ 1)

abbrev pub InLine : Bool → List ℕ → ℕ → List ℕ → Type 0
InLine true tight s order = Lined tight s order
InLine false tight s order = Stuck tight s

-- each kept number is 1 more than the largest slack, each look-ahead 0 or that of a stream with a tight target
pub record Agree (tight most look kept : List ℕ) (s : ℕ) : Type 0 where
  pub keeps : (v : ℕ) → v < s → get_or kept v 0 ≡ get_or most v 0 + 1
  pub reached : (v : ℕ) → v < s → (get_or look v 0 ≡ 0) ⊎ (get_or tight v 0 ≡ 0 → ⊥)

pub record Amiss (tight most look kept : List ℕ) (s : ℕ) : Type 0 where
  pub v : ℕ
  pub inside : v < s
  pub why : (get_or kept v 0 ≡ get_or most v 0 + 1 → ⊥) ⊎ ((get_or look v 0 ≡ 0 → ⊥) × (get_or tight v 0 ≡ 0))

abbrev pub Agreed : Bool → List ℕ → List ℕ → List ℕ → List ℕ → ℕ → Type 0
Agreed true = Agree
Agreed false = Amiss
