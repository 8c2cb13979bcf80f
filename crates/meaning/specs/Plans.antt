-- A table with the numbers announced for it, as a plan of a run (document 01, "What the check announces" and "A run").
-- Assumes nothing.
use Rattle.std.specs.Prelude.{ℕ, Bool, false, List, get_or}
use Rattle.value.specs.declared.Value.{Value}
use Rattle.value.specs.declared.Value.TheVariants.{Flag}
use Rattle.limits.specs.Limits.{most_rows}
use Rattle.expression.specs.Syntax.{Expr}
use Rattle.table.specs.Table.{Table, streams, equation_of}
use Rattle.run.specs.Run.{Plan}
use Rattle.store.specs.Store.{read_as, layout_of}
use Rattle.meaning.specs.Expressions.{OfType}
use Rattle.meaning.specs.Tables.{spec_in}

-- The plan of a table by its parts: I, S, the streams' types and the outputs' equations; then the announced numbers, and the test of a
-- row's words. "at most 4,294,967,295 rows in a run"
abbrev pub plan_of : (inputs streams : ℕ) (types : List ℕ) → (ℕ → Expr) → (look kept : ℕ → ℕ) (closing room : ℕ) → (List ℕ → Bool) → Plan Value ℕ ℕ
plan_of inputs streams types eqs look kept closing room well_formed =
    record {
      spec = spec_in inputs streams types eqs;
      look = look;
      kept = kept;
      closing = closing;
      room = room;
      limit = most_rows;
      get = read_as types;
      zero_word = 0;
      layout = layout_of types kept;
      blank = Flag false;
      well_formed = well_formed;
    }

-- of a decoded table
abbrev pub table_plan_of : Table → (look kept : ℕ → ℕ) (closing room : ℕ) → (List ℕ → Bool) → Plan Value ℕ ℕ
table_plan_of t = plan_of t.inputs (streams t) t.types (λ y. (equation_of t y).expr)

-- x is of stream v's type
abbrev pub FitsIn : List ℕ → ℕ → Value → Type 0
FitsIn types v x = OfType (get_or types v 0) x
