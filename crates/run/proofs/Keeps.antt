-- Acceptance gives kept values that suffice: E holds the edges of a specification (document 01, "What the check announces").
-- Assumes nothing.
use Prim.Native.Nat.{ℕ, ◌≤◌, ◌<◌}
use mathlib.Core.Path.{refl}
use native.Mathlib.Omega.{arith}
use lib.IntN.{ℤ}
use Rattle.walks.specs.Walks.{Edges, Right}
use Rattle.lola.specs.Expressions.{Spec, target, offset}
use Rattle.lola.specs.Graph.{Depends, edge}
use Rattle.run.specs.Keeps.{Keeps}

module _ {W F : Type 0} (s : Spec W F) (E : Edges) (look kept : ℕ → ℕ)
    (within : (y v : ℕ) (k : ℤ) → E y v k → (s.inputs ≤ y) × (v < s.streams))
    (edges : (y v : ℕ) (k : ℤ) → Depends s y v k → E y v k)
    (right : Right E s.streams look kept) where
  pub keeps_of_edges : Keeps s look kept
  keeps_of_edges = record {
    some = λ v l. omega (arith, (right.keeps v l).some);
    enough = λ y r e. let h = edges y _ _ (edge e refl refl) in omega (arith, (right.keeps (target r) (within y _ _ h).1).all y (offset r) h);
  }
