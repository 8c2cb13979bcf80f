-- Every text of bytes is of a table or stuck, and only one of them: of one table, or at one place. And tables with the same bytes have one text.
-- Assumes nothing.
use Prim.Native.Nat.{ℕ, ◌<◌}
use mathlib.Core.Path.{◌≡◌, sym, ap, ◌∙◌}
use mathlib.Core.Logic.{◌⊎◌, inl, inr}
use mathlib.Core.List.{List}
use lib.ListN.{length, get_or}
use Rattle.shapes.specs.Stuck.{Stuck, texts_of}
use Rattle.shapes.specs.Places.{Lost}
use Rattle.source.specs.Source.{Source, print_source, Ready, source}
use Rattle.source.specs.Bytes.{source_bytes_of}
use Rattle.source.specs.Shape.{Shaped, Shape, of_table, astray}
use Rattle.source.specs.Tables.{table_text}
use Rattle.shapes.proofs.Stuck.{stuck_once}
use Rattle.source.proofs.Source.{read_text, lost_refused}
use Rattle.source.proofs.Once.{source_once}
use Rattle.source.proofs.Back.{bytes_once}

-- a text of bytes is of a table or stuck
pub shape_of : (text : List ℕ) → ((k : ℕ) → k < length text → get_or text k 0 < 256) → Shape text
shape_of text b = by (read_text text b)
  where
    by : texts_of source text ⊎ ((p : ℕ) × Lost table_text text 0 p) → Shape text
    by (inl x) = of_table x.0.0 x.0.1 x.1
    by (inr l) = let r = lost_refused text l.0 l.1 in astray l.0 r.0 r.1

-- it is of one table only
pub of_table_once : (text : List ℕ) (s t : Source) → Ready s → Ready t → text ≡ print_source s → text ≡ print_source t → s ≡ t
of_table_once text s t h i e f = source_once s t h i (sym e ∙ f)

-- it is stuck at one place only
pub astray_once : (text : List ℕ) (p q : ℕ) → Stuck Shaped text p → Stuck Shaped text q → p ≡ q
astray_once text p q h k = stuck_once h k

-- and it is not both
pub not_both : (text : List ℕ) (s : Source) → Ready s → text ≡ print_source s → (Shaped text → ⊥) → ⊥
not_both text s h e n = n ((s, h), e)

-- tables with the same bytes have the same text
pub one_table_one_text : (s t : Source) → Ready s → Ready t → source_bytes_of s ≡ source_bytes_of t → print_source s ≡ print_source t
one_table_one_text s t h i e = ap print_source (bytes_once s t h i e)
