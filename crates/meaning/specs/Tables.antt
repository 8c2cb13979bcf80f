-- A table as a specification of source 004 (definition 2), and demand 2 of it (document 01, "What is built": source 004 "decides the
-- meaning of streams").
-- Assumes nothing.
use Rattle.std.specs.Prelude.{ℕ, ◌<◌, List, length, get_or}
use Rattle.value.specs.declared.Value.{Value}
use Rattle.expression.specs.Syntax.{Expr}
use Rattle.table.specs.Table.{Table, streams, equation_of}
use Rattle.lola.specs.Expressions.{Spec}
use Rattle.lola.specs.Models.{Model, WellDefined, trace}
use Rattle.lola.specs.Graph.{FutureBounded, LookAheadDistance}
use Rattle.run.specs.Demands.{Demand2}
use Rattle.store.specs.Store.{read_as}
use Rattle.meaning.specs.Expressions.{ops, meaning, OfType}

-- "With I inputs and O outputs, streams are numbered 0 to S-1, S = I+O, inputs first."
abbrev pub spec_in : (inputs streams : ℕ) (types : List ℕ) → (ℕ → Expr) → Spec Value ℕ
spec_in inputs streams types eqs = record { inputs = inputs; streams = streams; equation = λ y. meaning types (eqs y); ops = ops }

abbrev pub spec_of : Table → Spec Value ℕ
spec_of t = spec_in t.inputs (streams t) t.types (λ y. (equation_of t y).expr)

-- a word of stream v as a value
abbrev pub read_in : Table → ℕ → ℕ → Value
read_in t = read_as t.types

-- σ is an evaluation model of the table for these rows
abbrev pub TableModel : Table → List (List ℕ) → (ℕ → ℕ → Value) → Type 0
TableModel t rows σ = Model (spec_of t) (length rows) (trace (read_in t) 0 rows) σ

-- What acceptance with the look-ahead `look` says of the table's meaning.
pub record Meant (t : Table) (look : ℕ → ℕ) : Type 0 where
  -- source 004's definition 7
  pub defined : WellDefined (spec_of t)
  -- its definitions 14 and 15
  pub bounded : FutureBounded (spec_of t)
  pub distance : (v : ℕ) → v < streams t → LookAheadDistance (spec_of t) v (look v)
  -- exactly one model for each list of rows, and prefix independence
  pub demand2 : Demand2 (spec_of t) look (read_in t) 0
  -- each value of a model is of its stream's type
  pub typed : (rows : List (List ℕ)) (σ : ℕ → ℕ → Value) → TableModel t rows σ → (v j : ℕ) → v < streams t → j < length rows → OfType (get_or t.types v 0) (σ v j)
