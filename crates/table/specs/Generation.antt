-- The grammar of tables as document 01 gives it ("The table", "Numbers"): the bytes of a table, and the rules that it keeps to. `decode`
-- reads exactly these. Assumes nothing.
use Rattle.std.specs.Prelude.{ℕ, ◌+◌, ◌≤◌, ◌<◌, cond, List, [], ◌∷◌, ◌++◌, ◌≡◌, ltb, length, get_or}
use Rattle.limits.specs.Limits.{least_table, most_table, most_streams, most_levels}
use Rattle.expression.specs.Generation.{WellFormed, expression_bytes}
use Rattle.table.specs.Table.{Equation, Table, streams}

-- the record of the stream v of i inputs: "02: input: type", "03: output: type, role"
unfoldable pub stream_bytes : (i v type role : ℕ) → List ℕ
stream_bytes i v t r = cond (ltb v i) (0x02 ∷ t ∷ []) (0x03 ∷ t ∷ r ∷ [])

-- the records of the streams from v on
unfoldable pub streams_bytes_of : (i v : ℕ) (types roles : List ℕ) → List ℕ
streams_bytes_of i v [] rs = []
streams_bytes_of i v (t ∷ ts) [] = []
streams_bytes_of i v (t ∷ ts) (r ∷ rs) = stream_bytes i v t r ++ streams_bytes_of i (v + 1) ts rs

-- "04: equation of this stream; one expression follows", from the stream y on
unfoldable pub equations_bytes_of : (y : ℕ) → List Equation → List ℕ
equations_bytes_of y [] = []
equations_bytes_of y (q ∷ qs) = (0x04 ∷ y ∷ expression_bytes q.expr) ++ equations_bytes_of (y + 1) qs

-- "01: edition (1), I, O"
abbrev pub head_bytes_of : Table → List ℕ
head_bytes_of t = 0x01 ∷ t.edition ∷ t.inputs ∷ length t.equations ∷ []

-- "Order: one 01; I of 02; O of 03; O of 04 in stream order, each with its expression."
unfoldable pub bytes_of : Table → List ℕ
bytes_of t = head_bytes_of t ++ streams_bytes_of t.inputs 0 t.types t.roles ++ equations_bytes_of t.inputs t.equations

-- The streams from v on, of i inputs: "types are 0 flag, 1 word, 2 level", "role (0 plain, 1 trigger)", a trigger is of type flag. An
-- input has the role 0.
pub data WellFormedStreams (i : ℕ) : (v : ℕ) (types roles : List ℕ) → Type 0 where
  none : {v : ℕ} → WellFormedStreams i v [] []
  input : {v t : ℕ} {ts rs : List ℕ} → v < i → t ≤ 2 → WellFormedStreams i (v + 1) ts rs → WellFormedStreams i v (t ∷ ts) (0 ∷ rs)
  output : {v t r : ℕ} {ts rs : List ℕ} → i ≤ v → t ≤ 2 → r ≤ 1 → (r ≡ 1 → t ≡ 0) → WellFormedStreams i (v + 1) ts rs → WellFormedStreams i v (t ∷ ts) (r ∷ rs)

-- The equations from that of the stream y on, whose record is at a place: each expression is of its stream's type, "nodes nest at most 16
-- levels deep", and it starts where the equation says.
pub data WellFormedEquations (types : List ℕ) : (y place : ℕ) → List Equation → Type 0 where
  none : {y place : ℕ} → WellFormedEquations types y place []
  more : {y place : ℕ} {q : Equation} {qs : List Equation} → q.start ≡ place + 2 → WellFormed types most_levels (get_or types y 0) q.expr
      → WellFormedEquations types (y + 1) (place + 2 + length (expression_bytes q.expr)) qs → WellFormedEquations types y place (q ∷ qs)

-- what a table keeps to
pub record WellFormedTable (t : Table) : Type 0 where
  -- "edition (1)"
  pub first_edition : t.edition ≡ 1
  -- "I and O at least 1; S at most 32", S = I + O
  pub some_input : 1 ≤ t.inputs
  pub some_output : 1 ≤ length t.equations
  pub all : streams t ≡ t.inputs + length t.equations
  pub few : streams t ≤ most_streams
  pub formed_streams : WellFormedStreams t.inputs 0 t.types t.roles
  pub formed_equations : WellFormedEquations t.types t.inputs (length (head_bytes_of t) + length (streams_bytes_of t.inputs 0 t.types t.roles)) t.equations
  -- "table 1 to 4,096 bytes"
  pub size : (least_table ≤ length (bytes_of t)) × (length (bytes_of t) ≤ most_table)

-- the grammar gives the bytes s to the table t
pub record Generated (s : List ℕ) (t : Table) : Type 0 where
  pub rules : WellFormedTable t
  pub bytes : bytes_of t ≡ s
