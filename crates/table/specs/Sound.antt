-- What holds of every table that is decoded, and of every refusal (document 01, "The table", "Numbers" and "Refusal numbers").
-- Assumes nothing.
use Rattle.std.specs.Prelude.{ℕ, ◌+◌, ◌≤◌, ◌<◌, List, ◌⊎◌, ◌≡◌, ℤ, length, get_or}
use Rattle.limits.specs.Limits.{least_table, most_table, most_streams, most_levels}
use Rattle.limits.specs.Refusals.{table_length, too_deep, bytes_after}
use Rattle.basis.specs.Edges.{Has}
use Rattle.expression.specs.Grammar.{good, parse}
use Rattle.expression.specs.References.{Ranged}
use Rattle.table.specs.Table.{Table, equation_of, streams, edges}

-- the expression of the output y stands in the table s where its equation says
pub record Stands (s : List ℕ) (t : Table) (y : ℕ) : Type 0 where
  pub end : ℕ
  pub parsed : parse most_levels t.types s (get_or t.types y 0) (equation_of t y).start ≡ good (equation_of t y).expr end
  pub starts : (equation_of t y).start ≤ most_table

pub record Sound (s : List ℕ) (t : Table) : Type 0 where
  -- "table 1 to 4,096 bytes"
  pub bytes : (least_table ≤ length s) × (length s ≤ most_table)
  -- "edition (1)"
  pub first_edition : t.edition ≡ 1
  -- "I and O at least 1; S at most 32", S = I + O
  pub some_input : 1 ≤ t.inputs
  pub some_output : t.inputs < streams t
  pub few : streams t ≤ most_streams
  pub outputs : t.inputs + length t.equations ≡ streams t
  pub each_role : length t.roles ≡ streams t
  -- "types are 0 flag, 1 word, 2 level", "role (0 plain, 1 trigger)", a trigger is of type flag, an input is none
  pub type_is : (v : ℕ) → get_or t.types v 0 ≤ 2
  pub role_is : (v : ℕ) → get_or t.roles v 0 ≤ 1
  pub trigger_is_flag : (v : ℕ) → get_or t.roles v 0 ≡ 1 → get_or t.types v 0 ≡ 0
  pub input_is_plain : (v : ℕ) → v < t.inputs → get_or t.roles v 0 ≡ 0
  pub stands : (y : ℕ) → t.inputs ≤ y → y < streams t → Stands s t y
  -- an edge leaves an output, leads to a stream and has a weight from -128 to 127
  pub edge_within : (y v : ℕ) (k : ℤ) → Has y v k (edges t)
      → ((t.inputs ≤ y) × (y < streams t)) × ((v < streams t) × Ranged k)

-- the numbers of a record's first fault, from "table length out of its limits" to "node at level 17"
abbrev pub RecordRefusal : ℕ → Type 0
RecordRefusal n = (table_length ≤ n) × (n ≤ too_deep)

-- the numbers that refuse a table here: those and "bytes after the last expression"
abbrev pub TableRefusal : ℕ → Type 0
TableRefusal n = RecordRefusal n ⊎ (n ≡ bytes_after)
