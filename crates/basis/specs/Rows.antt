-- Rows of numbers as the code holds them, an array of arrays: one row for each stream or kind, in each row one entry for each thing that is
-- held of it. Assumes nothing.
use Rattle.std.specs.Prelude.{ℕ, ◌<◌, ◌≡◌, List, [], ◌∷◌, length, get_or, set}

-- the entry i of the row v
abbrev pub entry : List (List ℕ) → ℕ → ℕ → ℕ
entry rows v i = get_or (get_or rows v []) i 0

-- the entries i of all rows, in order
unfoldable pub column : ℕ → List (List ℕ) → List ℕ
column i [] = []
column i (r ∷ rows) = get_or r i 0 ∷ column i rows

-- the rows with x as the entry i of the row v
abbrev pub put : List (List ℕ) → ℕ → ℕ → ℕ → List (List ℕ)
put rows v i x = set rows v (set (get_or rows v []) i x)

-- n rows of m entries
pub record Shaped (n m : ℕ) (rows : List (List ℕ)) : Type 0 where
  pub long : length rows ≡ n
  pub wide : (v : ℕ) → v < n → length (get_or rows v []) ≡ m
