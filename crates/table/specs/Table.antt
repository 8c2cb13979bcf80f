-- A table, as an executable parser decodes it in the order of document 01's faults ("The table", "Refusal numbers": 1 to 6 and 9), and
-- its edges ("What the check announces"). Assumes nothing.
use Rattle.std.specs.Prelude.{ℕ, zero, suc, ◌+◌, ◌-◌, cond, List, [], ◌∷◌, ◌++◌, eqb, length, get_or}
use Rattle.limits.specs.Limits.{most_levels}
use Rattle.limits.specs.Refusals.{bytes_after}
use Rattle.basis.specs.Edges.{Edge}
use Rattle.node.specs.declared.Node.TheVariants.{Constant}
use Rattle.expression.specs.Syntax.{Expr, leaf}
use Rattle.expression.specs.Grammar.{Parsed, good, bad, parse}
use Rattle.expression.specs.References.{references}
use Rattle.table.specs.Records.{equation_fault_of, if_fine, Declared, declares, wrong, heads}

-- an output's expression and the place where it starts
pub record Equation : Type 0 where
  pub start : ℕ
  pub expr : Expr

-- types and roles: one entry for each stream, an input's role is 0; equations: one for each output, in stream order
pub record Table : Type 0 where
  pub edition : ℕ
  pub inputs : ℕ
  pub types : List ℕ
  pub roles : List ℕ
  pub equations : List Equation

-- a table, or the number and the place of its first fault
pub data Decoded : Type 0 where
  decoded : Table → Decoded
  refused : ℕ → ℕ → Decoded

-- S = I + O
abbrev pub streams : Table → ℕ
streams t = length t.types

-- the equation of the output y
abbrev pub equation_of : Table → ℕ → Equation
equation_of t y = get_or t.equations (y - t.inputs) (record { start = 0; expr = leaf (Constant 0 0) })

-- the record 04 of the stream y at a place and the expression that follows it, over streams of the types ts
unfoldable pub equation_at : List ℕ → List ℕ → ℕ → ℕ → Parsed
equation_at ts s y at =
    if_fine (eqb (equation_fault_of s at y) 0) (λ _. parse most_levels ts s (get_or ts y 0) (at + 2)) (bad (equation_fault_of s at y) at)

-- some equations and the place behind them, or the number and the place of a fault
pub data Equations : Type 0 where
  equated : List Equation → ℕ → Equations
  unfit : ℕ → ℕ → Equations

abbrev pub joined : Equation → Equations → Equations
joined q (equated qs n) = equated (q ∷ qs) n
joined q (unfit why place) = unfit why place

abbrev pub with_expr : Parsed → (Expr → ℕ → Equations) → Equations
with_expr (good e n) f = f e n
with_expr (bad why place) f = unfit why place

-- the equations of n streams from the stream y on: "each with its expression"
unfoldable pub equations_at_of : ℕ → ℕ → List ℕ → List ℕ → ℕ → Equations
equations_at_of zero y ts s at = equated [] at
equations_at_of (suc n) y ts s at =
    with_expr (equation_at ts s y at) λ e m.
    joined (record { start = at + 2; expr = e }) (equations_at_of n (y + 1) ts s m)

abbrev pub with_heads_of : Declared → (List ℕ → List ℕ → ℕ → Decoded) → Decoded
with_heads_of (declares ts rs n) f = f ts rs n
with_heads_of (wrong why place) f = refused why place

abbrev pub with_equations_of : Equations → (List Equation → ℕ → Decoded) → Decoded
with_equations_of (equated qs n) f = f qs n
with_equations_of (unfit why place) f = refused why place

-- the equations behind the streams' records, then refusal 9: "bytes after the last expression", the first of them
unfoldable pub table_of : List ℕ → List ℕ → List ℕ → ℕ → Decoded
table_of s ts rs at =
    with_equations_of (equations_at_of (length ts - get_or s 2 0) (get_or s 2 0) ts s at) λ qs e.
    cond (eqb e (length s))
    (decoded (record { edition = get_or s 1 0; inputs = get_or s 2 0; types = ts; roles = rs; equations = qs }))
    (refused bytes_after e)

-- "The scan goes front to back and stops at the first fault"
unfoldable pub decode : List ℕ → Decoded
decode s = with_heads_of (heads s) λ ts rs n. table_of s ts rs n

-- the references of the equations from that of the stream y on
unfoldable pub edges_from : ℕ → List Equation → List Edge
edges_from y [] = []
edges_from y (q ∷ qs) = references y q.expr ++ edges_from (y + 1) qs

-- "An edge of weight k leads from y to v for each at(v, k) in y's equation, weight 0 for each now(v); both branches of an if count."
unfoldable pub edges : Table → List Edge
edges t = edges_from t.inputs t.equations
