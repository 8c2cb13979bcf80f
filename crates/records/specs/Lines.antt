-- The lines of the records (document 01, "The program"): a line for each.
-- Assumes nothing.
use Rattle.std.specs.Prelude.{ℕ, List, [], ◌∷◌, ◌++◌}
use Rattle.basis.specs.Given.{Given}
use Rattle.lines.specs.Lines.{value_line, trigger_line}
use Rattle.records.specs.Reading.{Item, value, trigger, read_items, items_given}

-- "`v stream position value`", "`t stream position` for a trigger"
unfoldable pub item_line : Item → List ℕ
item_line (value y p w) = value_line y p w
item_line (trigger y p) = trigger_line y p

unfoldable pub item_lines : List Item → List ℕ
item_lines [] = []
item_lines (i ∷ is) = item_line i ++ item_lines is

-- the lines of a run of records; what is no record, whole, ends it
unfoldable pub lines_of : List ℕ → List ℕ
lines_of l = item_lines (read_items l)

-- the lines of the values given
abbrev pub lines_given : (roles : List ℕ) → List (Given ℕ) → List ℕ
lines_given roles gs = item_lines (items_given roles gs)
