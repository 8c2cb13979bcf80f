-- What a call prepares of the table's bytes by its record's numbers, without the square (document 01, "Every call tests the table
-- first" and refusal 10). Assumes nothing.
use Rattle.std.specs.Prelude.{ℕ, ◌-◌, ◌≡◌, List, ◌++◌, length, replicate, Option, Some, None}
use Rattle.limits.specs.Limits.{most_streams}
use Rattle.node.specs.Kinds.{Tabulated}
use Rattle.vouch.specs.Vouching.{Blank}
use Rattle.basis.specs.Firsts.{of}
use Rattle.basis.specs.Sums.{total, most}
use Rattle.basis.specs.Edges.{Among}
use Rattle.records.specs.Kinds.{room_for}
use Rattle.table.specs.Table.{Table, decoded, decode, streams, edges}
use Rattle.table.specs.Answers.{padded, starts_of}
use Rattle.certificate.specs.Certificate.{Ordered}
use Rattle.announce.specs.Announced.{announced}
use Rattle.prepare.specs.declared.Prepared.{Prepared}

-- what a turn goes by: the streams with their types and roles, where each expression starts in the table, the order within a turn, and the
-- announced sums
pub record Brief : Type 0 where
  pub inputs : ℕ
  pub streams : ℕ
  pub types : List ℕ
  pub roles : List ℕ
  pub starts : List ℕ
  pub order : List ℕ
  pub words : ℕ
  pub room : ℕ
  pub closing : ℕ

-- the sums, with what stands in the lent arrays
abbrev pub brief_by : Prepared → (types roles starts order : List ℕ) → Brief
brief_by r types roles starts order =
    record { inputs = r.inputs; streams = r.streams; types = types; roles = roles; starts = starts; order = order; words = r.words; room = r.room; closing = r.closing }

-- what preparing needs: the constant table, a record's numbers, and arrays that nothing was written into yet
pub record CanPrepare (kinds : List (List ℕ)) (look kept types roles starts order : List ℕ) : Type 0 where
  pub tabulated : Tabulated kinds
  pub look_long : length look ≡ most_streams
  pub kept_long : length kept ≡ most_streams
  pub blank : Blank types roles starts order

-- the bytes are those of an accepted table, look and kept are the numbers announced of it, and p holds what a turn goes by
pub record Prepares (s look kept : List ℕ) (p : Brief) : Type 0 where
  pub accepted : (announced s).number ≡ 0
  pub look_is : (announced s).look ≡ look
  pub kept_is : (announced s).kept ≡ kept
  pub words_are : p.words ≡ (announced s).words
  pub room_is : p.room ≡ (announced s).room
  pub closing_is : p.closing ≡ (announced s).closing
  pub words_sum : p.words ≡ total (of kept) p.streams
  pub room_sum : p.room ≡ room_for (p.streams - p.inputs) (total (of p.roles) p.streams)
  pub closing_most : p.closing ≡ most (of look) p.streams
  pub table : Table
  pub decodes : decode s ≡ decoded table
  pub inputs_are : p.inputs ≡ table.inputs
  pub streams_are : p.streams ≡ streams table
  pub types_are : p.types ≡ padded table.types
  pub roles_are : p.roles ≡ padded table.roles
  pub starts_are : p.starts ≡ padded (replicate table.inputs 0 ++ starts_of table.equations)
  pub ordered : Ordered (Among (edges table)) (streams table) (of look) (of kept) p.order

-- prepared, or the numbers are not those announced of an accepted table
abbrev pub Preparing : Option Prepared → (s look kept types roles starts order : List ℕ) → Type 0
Preparing (Some p) s look kept types roles starts order = Prepares s look kept (brief_by p types roles starts order)
Preparing None s look kept types roles starts order = (announced s).number ≡ 0 → (announced s).look ≡ look → (announced s).kept ≡ kept → ⊥
