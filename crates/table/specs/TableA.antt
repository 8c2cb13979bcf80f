-- Table A of document 01, "Examples": its bytes and the table that they hold.
-- Assumes nothing.
use Rattle.std.specs.Prelude.{ℕ, List, [], ◌∷◌, pos, negsuc}
use Rattle.node.specs.declared.Node.TheVariants.{Now, At}
use Rattle.expression.specs.Syntax.{leaf, binary}
use Rattle.table.specs.Table.{Table}

unfoldable pub table_a : List ℕ
table_a =
    0x01 ∷ 0x01 ∷ 0x01 ∷ 0x02 ∷ 0x02 ∷ 0x01 ∷ 0x03 ∷ 0x01 ∷ 0x00 ∷ 0x03 ∷ 0x00 ∷ 0x01
    ∷ 0x04 ∷ 0x01 ∷ 0x25 ∷ 0x13 ∷ 0x00 ∷ 0x14 ∷ 0x00 ∷ 0xFF ∷ 0x00 ∷ 0x00 ∷ 0x00 ∷ 0x00
    ∷ 0x04 ∷ 0x02 ∷ 0x26 ∷ 0x13 ∷ 0x00 ∷ 0x14 ∷ 0x00 ∷ 0x01 ∷ 0x07 ∷ 0x00 ∷ 0x00 ∷ 0x00
    ∷ []

-- "Stream 1 is now(0) - at(0,-1,0); trigger 2 is ahead(now(0), at(0,1,7))."
abbrev pub tree_a : Table
tree_a =
    record {
      edition = 1;
      inputs = 1;
      types = 1 ∷ 1 ∷ 0 ∷ [];
      roles = 0 ∷ 0 ∷ 1 ∷ [];
      equations =
          record { start = 14; expr = binary 0x25 (leaf (Now 0)) (leaf (At 0 (negsuc 0) 0)) }
          ∷ record { start = 26; expr = binary 0x26 (leaf (Now 0)) (leaf (At 0 (pos 1) 7)) }
          ∷ [];
    }
