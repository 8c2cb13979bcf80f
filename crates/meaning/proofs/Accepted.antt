-- What acceptance gives of a table: a schedule, exactly one evaluation model for each list of rows, prefix independence, and a plan
-- whose numbers are right (document 01, "What the contracts must exclude": demand 2).
-- Assumes nothing.
use Prim.Native.Nat.{ℕ, ◌≤◌, ◌<◌}
use mathlib.Core.Path.{◌≡◌}
use mathlib.Core.Bool.{Bool, false}
use mathlib.Core.List.{List, []}
use lib.ListN.{length, get_or}
use native.Mathlib.Omega.{arith}
use lib.IntN.{ℤ}
use Rattle.basis.specs.Edges.{Among}
use Rattle.walks.specs.Walks.{LoopsBelow, Right}
use Rattle.walks.specs.Schedule as walks
use Rattle.value.specs.declared.Value.TheVariants.{Flag}
use Rattle.walks.proofs.Schedule.{schedule}
use Rattle.table.proofs.Sound.{sound}
use Rattle.table.specs.Table.{decode, decoded, Table, streams, equation_of, edges}
use Rattle.table.specs.Sound.{Sound}
use Rattle.limits.specs.Limits.{most_levels}
use Rattle.lola.specs.Schedule.{Schedule}
use Rattle.run.specs.Keeps.{Keeps}
use Rattle.lola.specs.Graph.{Depends, FutureBounded}
use Rattle.lola.specs.Models.{trace}
use Rattle.run.specs.Run.{Typed, Announced}
use Rattle.run.specs.Layout.{Lays}
use Rattle.store.specs.Store.{layout_of}
use Rattle.store.proofs.Layouts.{laid}
use Rattle.lola.proofs.Graph.{ahead_distance}
use Rattle.lola.proofs.Acceptance.{schedule_of_edges, look_into}
use Rattle.run.proofs.Keeps.{keeps_of_edges}
use Rattle.lola.proofs.Existence.{well_defined}
use Rattle.run.proofs.Types.{model_fits}
use Rattle.run.proofs.Demands.{demand2}
use Rattle.meaning.specs.Tables.{spec_of, read_in, Meant}
use Rattle.meaning.specs.Plans.{table_plan_of, FitsIn}
use Rattle.meaning.proofs.Types.{reading_of_type}
use Rattle.meaning.proofs.Typing.{expression_yields, default_of_type}
use Rattle.meaning.proofs.Graph.{depends_edge, edge_depends, loops_bounded, bounded_loops}

module _ (s : List ℕ) (t : Table) (fine : Sound s t) (look kept : ℕ → ℕ) where
  -- the table's types hold
  table_typed : Typed (spec_of t) (FitsIn t.types)
  table_typed = record {
    defaults = λ y v k d e. default_of_type t.types v k d (equation_of t y).expr e.occurs;
    equations = λ y o l f g. expression_yields t.types s most_levels (get_or t.types y 0) (equation_of t y).start (fine.stands y o l).parsed f g;
  }

  module _ (right : Right (Among (edges t)) (streams t) look kept) (order : walks.Schedule (Among (edges t)) (streams t) look) where
    some : t.inputs ≤ streams t
    some = omega (arith, fine.some_output)

    within : (y v : ℕ) (k : ℤ) → Among (edges t) y v k → (t.inputs ≤ y) × (v < streams t)
    within y v k e = let w = fine.edge_within y v k e in (w.0.0, w.1.0)

    into : (y v : ℕ) (k : ℤ) → Depends (spec_of t) y v k → Among (edges t) y v k
    into = depends_edge t fine.outputs

    table_laid : Lays (layout_of t.types kept) (streams t) kept (FitsIn t.types)
    table_laid = laid t.types kept (streams t) fine.few (FitsIn t.types) (λ v w. reading_of_type (get_or t.types v 0) w) (λ v x e. e)

    pub table_schedule : Schedule (spec_of t) look order.rank
    table_schedule = schedule_of_edges (spec_of t) (Among (edges t)) look kept some within into right order

    pub table_keeps : Keeps (spec_of t) look kept
    table_keeps = keeps_of_edges (spec_of t) (Among (edges t)) look kept within into right

    pub table_announced :
        (closing room : ℕ) (well_formed : List ℕ → Bool) → ((v : ℕ) → v < streams t → look v ≤ closing) →
        Announced (table_plan_of t look kept closing room well_formed) order.rank (FitsIn t.types)
    table_announced closing room well_formed longest =
        record { schedule = table_schedule; keeps = table_keeps; longest = longest; reads = λ v b l. reading_of_type (get_or t.types v 0) b; typed = table_typed; laid = table_laid }

    pub table_meant : Meant t look
    table_meant = record {
      defined = well_defined (spec_of t) look order.rank table_schedule (Flag false);
      bounded = loops_bounded t fine.outputs right.below;
      distance = λ v l. ahead_distance (spec_of t) (look_into into (edge_depends t fine.outputs) (right.ahead v l));
      demand2 = demand2 (spec_of t) look order.rank table_schedule (Flag false) (read_in t) 0;
      typed = λ rows σ m. model_fits (spec_of t) look order.rank (FitsIn t.types) table_schedule table_typed (length rows) (trace (read_in t) 0 rows) σ m (λ v j l h. reading_of_type (get_or t.types v 0) (get_or (get_or rows j []) v 0));
    }

  -- an order within the turn is there
  module _ (right : Right (Among (edges t)) (streams t) look kept) where
    pub table_order : walks.Schedule (Among (edges t)) (streams t) look
    table_order = schedule (edges t) (streams t) look (λ y v k e. let w = fine.edge_within y v k e in (w.0.1, w.1.0)) right.below right.ahead

    pub accepted_meant : Meant t look
    accepted_meant = table_meant right table_order

-- Demand 2 of a table's bytes: where they decode and the numbers are those announced, the table has exactly one meaning.
pub accepted_means :
    (s : List ℕ) (t : Table) → decode s ≡ decoded t → (look kept : ℕ → ℕ) → Right (Among (edges t)) (streams t) look kept → Meant t look
accepted_means s t e look kept right = accepted_meant s t (sound s e) look kept right

-- Document 01's "every loop's total below 0", of a table that decodes, is source 004's definition 14 of its specification.
pub loops_exactly :
    (s : List ℕ) (t : Table) → decode s ≡ decoded t → (LoopsBelow (Among (edges t)) → FutureBounded (spec_of t)) × (FutureBounded (spec_of t) → LoopsBelow (Among (edges t)))
loops_exactly s t e = let o = (sound s e).outputs in (loops_bounded t o, bounded_loops t o)
