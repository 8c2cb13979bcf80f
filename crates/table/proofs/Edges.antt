-- The edges of a table are the references of its equations, each from its own stream.
-- Assumes nothing.
use Prim.Native.Nat.{ℕ, zero, suc, ◌+◌, ◌-◌, ◌≤◌, ◌<◌}
use native.Mathlib.Omega.{arith}
use mathlib.Core.Path.{◌≡◌, sym, subst}
use mathlib.Core.Logic.{⊎_elim}
use mathlib.Core.List.{List, [], ◌∷◌, ◌++◌}
use lib.IntN.{ℤ}
use lib.ListN.{length, get_or}
use Rattle.basis.specs.Edges.{Has, here, later}
use Rattle.basis.proofs.Edges.{has_before, has_after, has_either}
use Rattle.node.specs.declared.Node.{Node}
use Rattle.node.specs.declared.Node.TheVariants.{Constant, Now, At, Operator}
use Rattle.expression.specs.Syntax.{Expr, leaf, unary, binary, ternary}
use Rattle.expression.specs.References.{node_references, references}
use Rattle.table.specs.Table.{Equation, Table, streams, equation_of, edges_from, edges}

node_from : {y z v : ℕ} {k : ℤ} (n : Node) → Has z v k (node_references y n) → z ≡ y
unfolding node_references
node_from (Now w) (here p q r) = sym p
node_from (At w j d) (here p q r) = sym p
node_from (Constant _ _) h = elim h [ ]
node_from (Now w) (later h) = elim h [ ]
node_from (At w j d) (later h) = elim h [ ]
node_from (Operator _) h = elim h [ ]

-- a reference of y's expression leaves y
pub references_from : {y z v : ℕ} {k : ℤ} (e : Expr) → Has z v k (references y e) → z ≡ y
unfolding references
references_from (leaf n) h = node_from n h
references_from (unary o a) h = references_from a h
references_from {y} (binary o a b) h = ⊎_elim (references_from a) (references_from b) (has_either (references y a) h)
references_from {y} (ternary o a b c) h =
    ⊎_elim (λ l. ⊎_elim (references_from a) (references_from b) (has_either (references y a) l)) (references_from c) (has_either (references y a ++ references y b) h)

-- the edges of the equation of the stream z, the i-th from y on, are in the list
edges_at :
    {v : ℕ} {k : ℤ} (y : ℕ) (qs : List Equation) (d : Equation) (i z : ℕ) → y + i ≡ z → i < length qs →
    Has z v k (references z (get_or qs i d).expr) → Has z v k (edges_from y qs)
unfolding edges_from
edges_at y [] d i z e l h = absurd (omega arith)
edges_at {v} {k} y (q ∷ qs) d zero z e l h = let w : z ≡ y = omega arith in has_before (edges_from (y + 1) qs) (subst (λ (x : ℕ). Has z v k (references x q.expr)) w h)
edges_at y (q ∷ qs) d (suc i) z e l h = has_after (references y q.expr) (edges_at (y + 1) qs d i z (omega arith) (omega arith) h)

-- and each edge of the list is of an equation
data Of (qs : List Equation) (d : Equation) (y z v : ℕ) (k : ℤ) : Type 0 where
  of : (i : ℕ) → i < length qs → y + i ≡ z → Has z v k (references z (get_or qs i d).expr) → Of qs d y z v k

edges_of : {z v : ℕ} {k : ℤ} (y : ℕ) (qs : List Equation) (d : Equation) → Has z v k (edges_from y qs) → Of qs d y z v k
unfolding edges_from
edges_of y [] d h = elim h [ ]
edges_of {z} {v} {k} y (q ∷ qs) d h = ⊎_elim first (λ l. next (edges_of (y + 1) qs d l)) (has_either (references y q.expr) h)
  where
    first : Has z v k (references y q.expr) → Of (q ∷ qs) d y z v k
    first l =
        let p : z ≡ y = references_from q.expr l in
        of 0 (omega arith) (omega arith) (subst (λ (x : ℕ). Has z v k (references x q.expr)) (sym p) l)

    next : Of qs d (y + 1) z v k → Of (q ∷ qs) d y z v k
    next (of i l e m) = of (suc i) (omega arith) (omega arith) m

abbrev missing : Equation
missing = record { start = 0; expr = leaf (Constant 0 0) }

module _ (t : Table) (outputs : t.inputs + length t.equations ≡ streams t) where
  pub reference_edge : (y v : ℕ) (k : ℤ) → t.inputs ≤ y → y < streams t → Has y v k (references y (equation_of t y).expr) → Has y v k (edges t)
  unfolding edges
  reference_edge y v k o n h = edges_at t.inputs t.equations missing (y - t.inputs) y (omega arith) (omega arith) h

  pub edge_output : (y v : ℕ) (k : ℤ) → Has y v k (edges t) → (t.inputs ≤ y) × (y < streams t)
  unfolding edges
  edge_output y v k h = from_of (edges_of t.inputs t.equations missing h)
    where
      from_of : Of t.equations missing t.inputs y v k → (t.inputs ≤ y) × (y < streams t)
      from_of (of i l e m) = (omega arith, omega (arith, outputs))

  pub edge_reference : (y v : ℕ) (k : ℤ) → Has y v k (edges t) → Has y v k (references y (equation_of t y).expr)
  unfolding edges
  edge_reference y v k h = from_of (edges_of t.inputs t.equations missing h)
    where
      from_of : Of t.equations missing t.inputs y v k → Has y v k (references y (equation_of t y).expr)
      from_of (of i l e m) = let w : i ≡ y - t.inputs = omega arith in subst (λ (x : ℕ). Has y v k (references y (get_or t.equations x missing).expr)) w m
