-- When a record's numbers are vouched for against a table's bytes (document 01, "What the check announces" and "A run").
-- Assumes nothing.
use Rattle.std.specs.Prelude.{ℕ, ◌≤◌, ◌≡◌, List, ◌++◌, length, replicate, Option, Some, None}
use Rattle.basis.specs.Firsts.{of}
use Rattle.limits.specs.Limits.{most_streams, most_words}
use Rattle.basis.specs.Sums.{total, most}
use Rattle.basis.specs.Edges.{Among}
use Rattle.numbers.specs.Past.{ZeroPast}
use Rattle.walks.specs.Walks.{Right}
use Rattle.table.specs.Table.{Table, decoded, decode, streams, edges}
use Rattle.table.specs.Answers.{padded, starts_of}
use Rattle.certificate.specs.Certificate.{Ordered}
use Rattle.vouch.specs.declared.Found.{Found}

-- what a record's numbers must be whatever the edges: "(0 past S)", and "store at most 4,096 words", the store words being "the sum of kept values"
pub record Bounded (look kept : List ℕ) (s : ℕ) : Type 0 where
  pub look_past : ZeroPast look s
  pub kept_past : ZeroPast kept s
  pub store : total (of kept) s ≤ most_words

-- the numbers of a record of this table
pub record Certified (t : Table) (look kept : List ℕ) : Type 0 where
  pub right : Right (Among (edges t)) (streams t) (of look) (of kept)
  pub bounded : Bounded look kept (streams t)

-- what a call needs of a table: its streams, where their expressions start, and the order within a turn
pub record Vouched : Type 0 where
  pub inputs : ℕ
  pub streams : ℕ
  pub types : List ℕ
  pub roles : List ℕ
  pub starts : List ℕ
  pub order : List ℕ

-- what was found, with what stands in the lent arrays
abbrev pub vouched_by : Found → List ℕ → List ℕ → List ℕ → List ℕ → Vouched
vouched_by r types roles starts order = record { inputs = r.inputs; streams = r.streams; types = types; roles = roles; starts = starts; order = order }

-- the bytes are those of a table, whose numbers these are; r has the table's streams and the order within a turn
pub record Vouches (s look kept : List ℕ) (r : Vouched) : Type 0 where
  pub table : Table
  pub decodes : decode s ≡ decoded table
  pub certified : Certified table look kept
  pub ordered : Ordered (Among (edges table)) (streams table) (of look) (of kept) r.order
  pub inputs_are : r.inputs ≡ table.inputs
  pub streams_are : r.streams ≡ streams table
  pub types_are : r.types ≡ padded table.types
  pub roles_are : r.roles ≡ padded table.roles
  pub starts_are : r.starts ≡ padded (replicate table.inputs 0 ++ starts_of table.equations)

-- the sums of the record's numbers, and of the triggers
pub record Summed (r : Found) (look kept roles : List ℕ) : Type 0 where
  pub words_sum : r.words ≡ total (of kept) r.streams
  pub triggers_sum : r.triggers ≡ total (of roles) r.streams
  pub closing_most : r.closing ≡ most (of look) r.streams

-- the verdict: vouched for with all that, or these are not the numbers of a table of these bytes
abbrev pub Verdict : Option Found → (s look kept types roles starts order : List ℕ) → Type 0
Verdict (Some r) s look kept types roles starts order = Vouches s look kept (vouched_by r types roles starts order) × Summed r look kept roles
Verdict None s look kept types roles starts order = (t : Table) → decode s ≡ decoded t → Certified t look kept → ⊥

-- arrays that nothing was written into yet
pub record Blank (types roles starts order : List ℕ) : Type 0 where
  pub no_types : types ≡ replicate most_streams 0
  pub no_roles : roles ≡ replicate most_streams 0
  pub no_starts : starts ≡ replicate most_streams 0
  pub order_long : length order ≡ most_streams
