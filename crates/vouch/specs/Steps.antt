-- What the steps of vouching for a record's numbers do: the pass over all equations.
-- Assumes nothing.
use Rattle.std.specs.Prelude.{ℕ, ◌≤◌, ◌<◌, ◌≡◌, Bool, true, false, List, ◌++◌, length, get_or, replicate}
use Rattle.limits.specs.Limits.{most_table, most_streams}
use Rattle.basis.specs.Edges.{Among}
use Rattle.walks.specs.Walks.{Within, Right}
use Rattle.node.specs.Kinds.{Tabulated}
use Rattle.table.specs.Table.{Equation, Equations, equated, edges_from}
use Rattle.table.specs.Answers.{padded, starts_of}
use Rattle.certificate.specs.Certificate.{Ordered}

-- what the pass over the equations needs: the constant table, the types of at most 32 streams in an array by stream, where the first equation starts, and arrays to fill
pub record CanJudge (kinds : List (List ℕ)) (s types : List ℕ) (inputs streams at : ℕ) (starts order : List ℕ) : Type 0 where
  pub tabulated : Tabulated kinds
  pub short : length s ≤ most_table
  pub some : inputs ≤ streams
  pub sized : (streams ≤ most_streams) × (length types ≡ most_streams)
  pub typed : (v : ℕ) → v < streams → get_or types v 0 < 3
  pub place : at ≤ length s
  pub starts_blank : starts ≡ replicate most_streams 0
  pub order_long : length order ≡ most_streams

-- the equations q, whose first is that of the stream i, end with the table and the numbers are theirs: `starts` has where their expressions start
pub record Judges (q : Equations) (end i s : ℕ) (look kept : ℕ → ℕ) (starts order : List ℕ) : Type 0 where
  pub equations : List Equation
  pub is : q ≡ equated equations end
  pub starts_are : starts ≡ padded (replicate i 0 ++ starts_of equations)
  pub ordered : Within (Among (edges_from i equations)) s → Ordered (Among (edges_from i equations)) s look kept order

abbrev pub Judgement : Bool → Equations → ℕ → ℕ → ℕ → (ℕ → ℕ) → (ℕ → ℕ) → List ℕ → List ℕ → Type 0
Judgement true q end i s look kept starts order = Judges q end i s look kept starts order
Judgement false q end i s look kept starts order =
    (qs : List Equation) → q ≡ equated qs end → Within (Among (edges_from i qs)) s → Right (Among (edges_from i qs)) s look kept → ⊥
