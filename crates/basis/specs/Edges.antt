-- Edges between streams, as a list (document 01, "What the check announces").
-- Assumes nothing.
use Rattle.std.specs.Prelude.{ℕ, ◌≡◌, List, ◌∷◌, ℤ}

-- an edge of weight `weight` leads from the stream `from` to the stream `to`
pub record Edge : Type 0 where
  pub from : ℕ
  pub to : ℕ
  pub weight : ℤ

-- an edge of weight k from y to v is in the list
pub data Has (y v : ℕ) (k : ℤ) : List Edge → Type 0 where
  here : {e : Edge} {es : List Edge} → e.from ≡ y → e.to ≡ v → e.weight ≡ k → Has y v k (e ∷ es)
  later : {e : Edge} {es : List Edge} → Has y v k es → Has y v k (e ∷ es)

-- the edges of a list, as a relation
abbrev pub Among : List Edge → ℕ → ℕ → ℤ → Type 0
Among es y v k = Has y v k es
