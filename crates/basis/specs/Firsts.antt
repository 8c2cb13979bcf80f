-- A list of numbers and its values, one for each stream.
-- Assumes nothing.
use Rattle.std.specs.Prelude.{ℕ, zero, suc, List, [], ◌∷◌, get_or}

-- a list of numbers as a function of the stream
abbrev pub of : List ℕ → ℕ → ℕ
of l v = get_or l v 0

-- the first n values
unfoldable pub firsts : (ℕ → ℕ) → ℕ → List ℕ
firsts f zero = []
firsts f (suc n) = f zero ∷ firsts (λ v. f (suc v)) n
