-- Closed walks and cycles of a graph (source 004, section 2.3, before definition 9).
-- Assumes nothing.
use Rattle.std.specs.Prelude.{ℕ, suc, ◌≡◌, ◌⊎◌, List, [], ◌∷◌, ℤ}
use Rattle.walks.specs.Walks.{Edges, Walk, stay, step}

-- "A walk is closed if v1 = vn+1." It has an edge at least: the empty walk would be a closed walk with weight zero in every graph.
-- "The weight of a walk is the sum of the weights of its edges": the walk's total t.
pub record ClosedWalk (E : Edges) (t : ℤ) : Type 0 where
  pub n : ℕ
  pub v : ℕ
  pub walk : Walk E (suc n) v v t

-- the vertices v1 to vn of a walk v1 → v2 .. vn → vn+1, each once for each edge that leads from it
unfoldable pub starts : {E : Edges} {n i j : ℕ} {t : ℤ} → Walk E n i j t → List ℕ
starts stay = []
starts {i = i} (step e w) = i ∷ starts w

abbrev pub In : ℕ → List ℕ → Type 0
In a [] = ⊥
In a (b ∷ l) = (a ≡ b) ⊎ In a l

-- none is there twice
abbrev pub Different : List ℕ → Type 0
Different [] = Unit {0}
Different (a ∷ l) = (In a l → ⊥) × Different l

-- "A simple walk is a walk in which no vertex is repeated. A cycle is a simple closed walk": its vertex vn+1 is v1, and v1 to vn are different.
pub record Cycle (E : Edges) (t : ℤ) : Type 0 where
  pub closed : ClosedWalk E t
  pub simple : Different (starts closed.walk)
