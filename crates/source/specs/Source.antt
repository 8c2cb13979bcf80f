-- A table as it is written: its edition, the types of its inputs, the types and roles of its outputs, its equations; and how it is printed.
-- The shape of C-12 is what is printed of such a table with each field in the range of its bytes. Assumes nothing.
use Rattle.std.specs.Prelude.{ℕ, ◌≤◌, ◌≡◌, List, [], ◌∷◌, ◌++◌, length}
use Rattle.lines.specs.Lines.{decimal}
use Rattle.shapes.specs.Forms.{Form}
use Rattle.source.specs.Words.{blank, line_end_of, flag_type, word_type, level_type, plain_role, trigger_role, table_word, in_word, out_word, eq_word}
use Rattle.source.specs.Trees.{Tree, Fits, print_tree}

pub data Sort : Type 0 where
  flags : Sort
  words : Sort
  levels : Sort

pub data Role : Type 0 where
  plain : Role
  trigger : Role

pub record Output : Type 0 where
  pub sort : Sort
  pub role : Role

pub record Equation : Type 0 where
  pub stream : ℕ
  pub node : Tree

pub record Source : Type 0 where
  pub edition : ℕ
  pub inputs : List Sort
  pub outputs : List Output
  pub equations : List Equation

-- a type's name and the byte behind it
abbrev pub sort_name : ℕ → Sort → List ℕ
sort_name stop flags = flag_type stop
sort_name stop words = word_type stop
sort_name stop levels = level_type stop

-- a role's name, which ends its line
abbrev pub role_name : Role → List ℕ
role_name plain = plain_role
role_name trigger = trigger_role

-- `in word`, `out flag trigger`, `eq 1 ..`, each with its 0A
abbrev pub in_text : Sort → List ℕ
in_text s = in_word ++ sort_name line_end_of s

abbrev pub out_text : Output → List ℕ
out_text o = out_word ++ (sort_name blank o.sort ++ role_name o.role)

abbrev pub eq_text : Equation → List ℕ
eq_text e = eq_word ++ (decimal e.stream ++ (blank ∷ []) ++ (print_tree e.node ++ (line_end_of ∷ [])))

abbrev pub each : {A : Type 0} → (A → List ℕ) → List A → List ℕ
each line [] = []
each line (x ∷ xs) = line x ++ each line xs

unfoldable pub print_source : Source → List ℕ
print_source s = table_word ++ (decimal s.edition ++ (line_end_of ∷ [])) ++ (each in_text s.inputs ++ (each out_text s.outputs ++ each eq_text s.equations))

-- every equation's stream is a byte, and its node nests at most 16 levels deep
pub data Equations : List Equation → Type 0 where
  none : Equations []
  more : {e : Equation} {es : List Equation} → e.stream ≤ 255 → Fits 15 e.node → Equations es → Equations (e ∷ es)

pub record Ready (s : Source) : Type 0 where
  pub byte : s.edition ≤ 255
  pub few_in : length s.inputs ≤ 255
  pub few_out : length s.outputs ≤ 255
  pub as_many : length s.equations ≡ length s.outputs
  pub fit : Equations s.equations

abbrev pub source : Form
source = record { Of = (s : Source) × Ready s; print = λ s. print_source s.0 }
