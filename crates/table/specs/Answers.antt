-- What the scan's functions answer, each of their cases in document 01's numbers and places.
-- Assumes nothing.
use Rattle.std.specs.Prelude.{ℕ, ◌-◌, ◌≤◌, ◌<◌, ◌≡◌, List, [], ◌∷◌, ◌++◌, length, get_or, take, replicate, Result, Ok, Err}
use Rattle.limits.specs.Limits.{most_table, most_streams}
use Rattle.limits.specs.Faults.{Refuses}
use Rattle.limits.specs.declared.Refusal.{Refusal}
use Rattle.node.specs.Kinds.{Tabulated}
use Rattle.expression.specs.Seen.{Seen}
use Rattle.table.specs.declared.Heading.{Heading}
use Rattle.table.specs.declared.Solved.{Solved}
use Rattle.table.specs.declared.Scan.{Scan}
use Rattle.table.specs.Records.{Declared, declares, wrong}
use Rattle.table.specs.Table.{Equation, Table, Decoded, decoded, refused, Equations, equated, unfit}

-- a list as an array of 32 entries, 0 past its end
abbrev pub padded : List ℕ → List ℕ
padded l = l ++ replicate (most_streams - length l) 0

-- the streams' records with i inputs: the place of the first equation, or the refusal
abbrev pub HeadingFor : ℕ → Declared → Result Heading Refusal → Type 0
HeadingFor i (declares ts rs n) (Ok h) = h ≡ record { place = n; inputs = i; streams = length ts }
HeadingFor i (declares ts rs n) (Err r) = ⊥
HeadingFor i (wrong why place) (Ok h) = ⊥
HeadingFor i (wrong why place) (Err r) = Refuses r why place

-- the types and the roles in the arrays that were lent for them. Of a fault nothing is said of the arrays.
abbrev pub Laid : Declared → List ℕ → List ℕ → Type 0
Laid (declares ts rs n) types roles = (types ≡ padded ts) × (roles ≡ padded rs)
Laid (wrong why place) types roles = Unit {0}

-- what is answered of the streams' records with i inputs, and what is then in the lent arrays
pub record Headings (i : ℕ) (d : Declared) (h : Result Heading Refusal) (types roles : List ℕ) : Type 0 where
  pub answer : HeadingFor i d h
  pub laid : Laid d types roles

-- what the scan of an equation needs: the constant table, a table of bytes, a place in it, and the rows of some streams, y one of them
pub record CanScanEquation (kinds seen : List (List ℕ)) (s : List ℕ) (y at : ℕ) : Type 0 where
  pub tabulated : Tabulated kinds
  pub few : length s ≤ most_table
  pub place : at ≤ length s
  pub types : List ℕ
  pub rows : Seen types seen
  pub stream : y < length types
  pub wants : get_or types y 0 < 3

-- and that of the equations of the streams from..streams
pub record CanScanEquations (kinds : List (List ℕ)) (s types : List ℕ) (from streams at : ℕ) : Type 0 where
  pub tabulated : Tabulated kinds
  pub few : length s ≤ most_table
  pub place : at ≤ length s
  pub outputs : from ≤ streams
  pub few_streams : streams ≤ most_streams
  pub array : length types ≡ most_streams
  pub typed : (v : ℕ) → get_or (take streams types) v 0 < 3

-- where the expressions of some equations start, in the order of the equations
unfoldable pub starts_of : List Equation → List ℕ
starts_of [] = []
starts_of (q ∷ qs) = q.start ∷ starts_of qs

-- equations behind streams that start where l says: the place behind them and their starts, or the refusal
abbrev pub Solves : List ℕ → Equations → Result Solved Refusal → Type 0
Solves l (equated qs n) (Ok q) = q ≡ record { place = n; starts = padded (l ++ starts_of qs) }
Solves l (equated qs n) (Err r) = ⊥
Solves l (unfit why place) (Ok q) = ⊥
Solves l (unfit why place) (Err r) = Refuses r why place

-- a table's inputs, its streams with their types and roles, and where each output's expression starts (an input's start is 0)
unfoldable pub scan_of : Table → Scan
scan_of t =
    record {
      inputs = t.inputs;
      streams = length t.types;
      types = padded t.types;
      roles = padded t.roles;
      starts = padded (replicate t.inputs 0 ++ starts_of t.equations);
    }

-- the scan of the whole table, or the refusal
abbrev pub Scans : Decoded → Result Scan Refusal → Type 0
Scans (decoded t) (Ok s) = s ≡ scan_of t
Scans (decoded t) (Err r) = ⊥
Scans (refused why place) (Ok s) = ⊥
Scans (refused why place) (Err r) = Refuses r why place
