-- The references of an expression as edges: those of a node without a fault lead to streams of the table, and so do those of operands
-- joined. Assumes nothing.
use mathlib.Core.Path.{◌≡◌, refl, sym, subst}
use mathlib.Core.List.{List, [], ◌∷◌, ◌++◌}
use mathlib.Core.Logic.{⊎_elim}
use Prim.Native.Nat.{ℕ, ◌<◌}
use native.Mathlib.Omega.{arith}
use lib.IntN.{ℤ, pos}
use Rattle.basis.specs.Edges.{Edge, Has, here, later}
use Rattle.basis.proofs.Edges.{has_either}
use Rattle.node.specs.declared.Node.{Node}
use Rattle.node.specs.declared.Node.TheVariants.{Constant, Now, At, Operator}
use Rattle.expression.specs.References.{edge, node_references, Ranged, NodeRefers, Refers}

pub no_edge : {X : Type 0} {i v : ℕ} {k : ℤ} {es : List Edge} → es ≡ [] → Has i v k es → X
no_edge e (here p q r) = let z : ◌≡◌ {A = ℕ} 0 1 = cc in absurd (omega arith)
no_edge e (later h) = let z : ◌≡◌ {A = ℕ} 0 1 = cc in absurd (omega arith)

one_edge : (y S v : ℕ) (k : ℤ) → v < S → Ranged k → Refers y S (edge y v k ∷ [])
one_edge y S v k b r i u l (here p q e) = record { from = sym p; below = omega arith; ranged = subst Ranged e r }
one_edge y S v k b r i u l (later h) = no_edge refl h

pub node_refers : (y S : ℕ) (n : Node) → NodeRefers S n → Refers y S (node_references y n)
unfolding node_references
node_refers y S (Constant t x) r = λ i v k h. no_edge refl h
node_refers y S (Now v) r = one_edge y S v (pos 0) r (record { ahead = omega arith; back = omega arith })
node_refers y S (At v k d) r = one_edge y S v k r.0 r.1
node_refers y S (Operator k) r = λ i v l h. no_edge refl h

pub both_refer : {y S : ℕ} (es fs : List Edge) → Refers y S es → Refers y S fs → Refers y S (es ++ fs)
both_refer es fs a b i v k h = ⊎_elim (a i v k) (b i v k) (has_either es h)
