-- What a text is: that of a table as it is written, or stuck at a place. "17 for text not of this shape, at the first byte where no such text
-- can go on, or its length if it ends early" (request C-12). Assumes nothing.
use Rattle.std.specs.Prelude.{ℕ, ◌≡◌, List}
use Rattle.shapes.specs.Stuck.{Texts, Stuck, texts_of}
use Rattle.source.specs.Source.{Source, print_source, Ready, source}

-- the texts of this shape
abbrev pub Shaped : Texts
Shaped = texts_of source

pub data Shape (text : List ℕ) : Type 0 where
  of_table : (s : Source) → Ready s → text ≡ print_source s → Shape text
  astray : (p : ℕ) → (Shaped text → ⊥) → Stuck Shaped text p → Shape text
