-- What a scan answers and notes, in the numbers that the code has for it (document 01, "Refusal numbers"). Assumes nothing.
use Rattle.std.specs.Prelude.{ℕ, ◌+◌, ◌*◌, ◌≤◌, ◌<◌, ◌≡◌, cond, List, eqb, length, Result, Ok, Err}
use Rattle.limits.specs.Faults.{number_for}
use Rattle.limits.specs.declared.Refusal.{Refusal}
use Rattle.limits.specs.Limits.{most_table, most_streams}
use Rattle.limits.specs.Refusals.{wrong_field, wrong_type}
use Rattle.basis.specs.Notes.{rising, falling}
use Rattle.basis.specs.Rows.{column, Shaped}
use Rattle.node.specs.declared.Node.{Node}
use Rattle.node.specs.Kinds.{Tabulated}
use Rattle.node.specs.Node.{fault_for}
use Rattle.expression.specs.Syntax.{Expr}
use Rattle.expression.specs.Grammar.{Parsed, good, bad}
use Rattle.expression.specs.References.{raised, node_noted, noted}
use Rattle.expression.specs.Seen.{seen_rise, seen_fall, seen_entries, no_type, Seen}

-- An answer is one number: the place behind what was scanned; or the number of a fault, times `places`, and its place.
abbrev pub places : ℕ
places = 65536

unfoldable pub scanned_of : Parsed → ℕ
scanned_of (good e n) = n
scanned_of (bad why place) = why * places + place

-- what an answer says: the place behind, or the refusal
abbrev pub Outcome : ℕ → Result ℕ Refusal → Type 0
Outcome code (Ok place) = (code < places) × (place ≡ code)
Outcome code (Err r) = (places ≤ code) × (code ≡ number_for r.fault * places + r.place) × (r.place < places)

-- what is answered of a node at a place whose body ends at `next`
unfoldable pub answered : (ts : List ℕ) (w : ℕ) → Node → (at next : ℕ) → ℕ
answered ts w node at next = cond (eqb (fault_for ts w node) 0) next (fault_for ts w node * places + at)

-- the fault of a reference to a stream whose row has another type than the wanted one
unfoldable pub other_fault_of : ℕ → ℕ
other_fault_of t = cond (eqb t no_type) wrong_field wrong_type

-- the entry i of v's row raised to x, the others left
pub record Raised (v i x : ℕ) (seen seen' : List (List ℕ)) : Type 0 where
  pub shape : Shaped most_streams seen_entries seen → Shaped most_streams seen_entries seen'
  pub raises : Shaped most_streams seen_entries seen → column i seen' ≡ raised v x (column i seen)
  pub others : (j : ℕ) → (j ≡ i → ⊥) → column j seen' ≡ column j seen

-- nothing but notes is changed
abbrev pub NotesAlone : List (List ℕ) → List (List ℕ) → Type 0
NotesAlone seen seen' = (j : ℕ) → (j ≡ seen_rise → ⊥) → (j ≡ seen_fall → ⊥) → column j seen' ≡ column j seen

-- a reference to v noted: `rise` and `fall` are the notes of its weight
pub record Noting (v rise fall : ℕ) (seen seen' : List (List ℕ)) : Type 0 where
  pub shape : Shaped most_streams seen_entries seen → Shaped most_streams seen_entries seen'
  pub rises : Shaped most_streams seen_entries seen → column seen_rise seen' ≡ raised v rise (column seen_rise seen)
  pub falls : Shaped most_streams seen_entries seen → column seen_fall seen' ≡ raised v fall (column seen_fall seen)
  pub others : NotesAlone seen seen'

-- a type, the place of a node and the place behind it
abbrev pub CanNote : (wanted at next : ℕ) → Type 0
CanNote wanted at next = (wanted < 3) × (at < places) × (next < places)

-- a node without operands: its answer, and its reference noted where it has no fault
pub record LeafNoted (node : Node) (w at next : ℕ) (ts : List ℕ) (seen seen' : List (List ℕ)) (r : ℕ) : Type 0 where
  pub answer : r ≡ answered ts w node at next
  pub rises : fault_for ts w node ≡ 0 → column seen_rise seen' ≡ node_noted rising node (column seen_rise seen)
  pub falls : fault_for ts w node ≡ 0 → column seen_fall seen' ≡ node_noted falling node (column seen_fall seen)
  pub others : NotesAlone seen seen'
  pub left : Seen ts seen'

abbrev pub LeafScanned : Node → (w at next : ℕ) (seen seen' : List (List ℕ)) → ℕ → Type 0
LeafScanned node w at next seen seen' r = (ts : List ℕ) → Seen ts seen → LeafNoted node w at next ts seen seen' r

-- what a scan needs: the constant table, a table of bytes, a type, a place, and rows of some streams
pub record CanScan (kinds seen : List (List ℕ)) (s : List ℕ) (wanted at : ℕ) : Type 0 where
  pub tabulated : Tabulated kinds
  pub few : length s ≤ most_table
  pub wants : wanted < 3
  pub place : at ≤ length s
  pub types : List ℕ
  pub rows : Seen types seen

-- the places of an answer lie in a table of n bytes, and a fault has a number
abbrev pub Placed : ℕ → Parsed → Type 0
Placed n (good e m) = m ≤ n
Placed n (bad why place) = (1 ≤ why) × (why < 16) × (place ≤ n)

-- a scan answers as the grammar does, and notes the references of the expression that it read. Where there is no expression nothing is
-- said of the notes; whatever is not a note stays.
pub record Scanning (p : Parsed) (s ts : List ℕ) (seen seen' : List (List ℕ)) (r : ℕ) : Type 0 where
  pub answer : r ≡ scanned_of p
  pub placed : Placed (length s) p
  pub rises : (e : Expr) (n : ℕ) → p ≡ good e n → column seen_rise seen' ≡ noted rising e (column seen_rise seen)
  pub falls : (e : Expr) (n : ℕ) → p ≡ good e n → column seen_fall seen' ≡ noted falling e (column seen_fall seen)
  pub others : NotesAlone seen seen'
  pub left : Seen ts seen'
