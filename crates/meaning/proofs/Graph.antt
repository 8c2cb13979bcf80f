-- The edges of a table are the edges of its specification's dependency graph, and its loops are below 0 where that is future bounded
-- (document 01, "What the check announces"; source 004, definitions 8 and 14).
-- Assumes nothing.
use Prim.Native.Nat.{ℕ, ◌+◌, ◌≤◌, ◌<◌}
use mathlib.Core.Path.{◌≡◌, refl, sym}
use mathlib.Core.List.{List, ◌++◌}
use mathlib.Core.Logic.{inl, inr, ⊎_elim}
use lib.ListN.{length}
use lib.IntN.{ℤ}
use Rattle.basis.specs.Edges.{Among, Has, here, later}
use Rattle.basis.proofs.Edges.{has_after, has_before, has_either}
use Rattle.node.specs.declared.Node.TheVariants.{Constant, Now, At, Operator}
use Rattle.value.specs.declared.Value.{Value}
use Rattle.expression.specs.Syntax.{Expr, leaf, unary, binary, ternary}
use Rattle.table.proofs.Edges.{reference_edge, edge_output, edge_reference}
use Rattle.table.specs.Table.{Table, streams, equation_of, edges}
use Rattle.expression.specs.References.{references, node_references}
use Rattle.lola.specs.Expressions.{Ref, target, offset}
use Rattle.walks.specs.Walks.{LoopsBelow}
use Rattle.lola.proofs.Graph.{bounded_below, below_bounded}
use Rattle.lola.proofs.Acceptance.{loops_into}
use Rattle.lola.specs.Graph.{Depends, edge, FutureBounded, Occurs, in1, in2a, in2b, in3a, in3b, in3c}
use Rattle.lola.specs.Graph as graph
use Rattle.meaning.specs.Tables.{spec_of}
use Rattle.meaning.specs.Expressions.{meaning}

module _ (ts : List ℕ) (y : ℕ) where
  -- a reference that occurs is an edge of the list
  pub occurs_has : (e : Expr) (r : Ref Value) → Occurs r (meaning ts e) → Has y (target r) (offset r) (references y e)
  unfolding meaning references node_references
  occurs_has (leaf (Constant _ _)) r o = elim o [ ]
  occurs_has (leaf (Operator _)) r o = elim o [ ]
  occurs_has (leaf (Now v)) r graph.here = here refl refl refl
  occurs_has (leaf (At v k d)) r graph.here = here refl refl refl
  occurs_has (unary o a) r (in1 i) = occurs_has a r i
  occurs_has (binary o a b) r (in2a i) = has_before (references y b) (occurs_has a r i)
  occurs_has (binary o a b) r (in2b i) = has_after (references y a) (occurs_has b r i)
  occurs_has (ternary o a b c) r (in3a i) = has_before (references y c) (has_before (references y b) (occurs_has a r i))
  occurs_has (ternary o a b c) r (in3b i) = has_before (references y c) (has_after (references y a) (occurs_has b r i))
  occurs_has (ternary o a b c) r (in3c i) = has_after (references y a ++ references y b) (occurs_has c r i)

  -- a reference that leads from y to v with the weight k occurs in an expression
  data Refers (z v : ℕ) (k : ℤ) (e : Expr) : Type 0 where
    refers : {r : Ref Value} → z ≡ y → target r ≡ v → offset r ≡ k → Occurs r (meaning ts e) → Refers z v k e

  under : {z v : ℕ} {k : ℤ} (a e : Expr) → ((r : Ref Value) → Occurs r (meaning ts a) → Occurs r (meaning ts e)) → Refers z v k a → Refers z v k e
  under a e f (refers p q r i) = refers p q r (f _ i)

  -- an edge of the list is a reference that occurs
  has_refers : {z v : ℕ} {k : ℤ} (e : Expr) → Has z v k (references y e) → Refers z v k e
  unfolding meaning references node_references
  has_refers (leaf (Constant _ _)) h = elim h [ ]
  has_refers (leaf (Now v)) (here p q r) = refers (sym p) q r graph.here
  has_refers (leaf (Now v)) (later h) = elim h [ ]
  has_refers (leaf (At v k d)) (here p q r) = refers (sym p) q r graph.here
  has_refers (leaf (At v k d)) (later h) = elim h [ ]
  has_refers (leaf (Operator _)) h = elim h [ ]
  has_refers (unary o a) h = under a (unary o a) (λ r i. in1 i) (has_refers a h)
  has_refers (binary o a b) h =
      ⊎_elim
      (λ l. under a (binary o a b) (λ r i. in2a i) (has_refers a l))
      (λ l. under b (binary o a b) (λ r i. in2b i) (has_refers b l))
      (has_either (references y a) h)
  has_refers (ternary o a b c) h =
      ⊎_elim
      (⊎_elim
      (λ l. under a (ternary o a b c) (λ r i. in3a i) (has_refers a l))
      (λ l. under b (ternary o a b c) (λ r i. in3b i) (has_refers b l)))
      (λ l. under c (ternary o a b c) (λ r i. in3c i) (has_refers c l))
      (⊎_elim (λ l. inl (has_either (references y a) l)) inr (has_either (references y a ++ references y b) h))

module _ (t : Table) (outputs : t.inputs + length t.equations ≡ streams t) where
  -- an edge of the specification is an edge of the table
  pub depends_edge : (y v : ℕ) (k : ℤ) → Depends (spec_of t) y v k → Among (edges t) y v k
  depends_edge y v k (edge {r = r} e p q) =
      reference_edge t outputs y v k e.output e.stream (rw (← p, ← q) (occurs_has t.types y (equation_of t y).expr r e.occurs))

  -- and back
  pub edge_depends : (y v : ℕ) (k : ℤ) → Among (edges t) y v k → Depends (spec_of t) y v k
  edge_depends y v k h =
      let o = edge_output t outputs y v k h in
      from_refers o.0 o.1 (has_refers t.types y (equation_of t y).expr (edge_reference t outputs y v k h))
    where
      from_refers : t.inputs ≤ y → y < streams t → Refers t.types y y v k (equation_of t y).expr → Depends (spec_of t) y v k
      from_refers o n (refers p q r j) = edge (record { output = o; stream = n; occurs = j }) q r

  -- so "every loop's total below 0" is source 004's definition 14
  pub loops_bounded : LoopsBelow (Among (edges t)) → FutureBounded (spec_of t)
  loops_bounded h = below_bounded (spec_of t) (loops_into depends_edge h)

  pub bounded_loops : FutureBounded (spec_of t) → LoopsBelow (Among (edges t))
  bounded_loops b = loops_into edge_depends (bounded_below (spec_of t) b)
