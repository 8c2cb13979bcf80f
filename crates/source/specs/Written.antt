-- A table as it is written, of the table that the check decodes: what its text is printed of. Assumes nothing.
use Rattle.std.specs.Prelude.{ℕ, zero, suc, ◌+◌, cond, List, [], ◌∷◌, eqb, take, drop}
use Rattle.node.specs.declared.Node.TheVariants.{Constant, Now, At, Operator}
use Rattle.expression.specs.Syntax.{Expr, leaf, unary, binary, ternary}
use Rattle.table.specs.Table.{Table, Decoded, decoded, refused, decode}
use Rattle.table.specs.Table as table
use Rattle.source.specs.Trees.{Two, and, or, add_word, sub_word, ahead, less_word, equal_word, equal_flag, equal_level, add_level, sub_level, mul, div, less_level, Tree, flag, number_word, level, now, past, not, two, choose}
use Rattle.source.specs.Source.{Sort, flags, words, levels, Role, plain, trigger, Output, Equation, Source, print_source}

-- the operator of a kind with two operands
unfoldable pub two_of : ℕ → Two
two_of k =
    cond (eqb k 0x21) and
    (cond (eqb k 0x22) or
    (cond (eqb k 0x24) add_word
    (cond (eqb k 0x25) sub_word
    (cond (eqb k 0x26) ahead
    (cond (eqb k 0x27) less_word
    (cond (eqb k 0x28) equal_word
    (cond (eqb k 0x29) equal_flag
    (cond (eqb k 0x2A) equal_level
    (cond (eqb k 0x2B) add_level
    (cond (eqb k 0x2C) sub_level
    (cond (eqb k 0x2D) mul
    (cond (eqb k 0x2E) div less_level))))))))))))

-- No operator is a leaf.
unfoldable pub tree_of : Expr → Tree
tree_of (leaf (Constant zero x)) = flag x
tree_of (leaf (Constant (suc zero) x)) = number_word x
tree_of (leaf (Constant (suc (suc t)) x)) = level x
tree_of (leaf (Now v)) = now v
tree_of (leaf (At v k d)) = past v k d
tree_of (leaf (Operator k)) = flag 0
tree_of (unary k a) = not (tree_of a)
tree_of (binary k a b) = two (two_of k) (tree_of a) (tree_of b)
tree_of (ternary k a b c) = choose (tree_of a) (tree_of b) (tree_of c)

-- "types are 0 flag, 1 word, 2 level"
unfoldable pub sort_of : ℕ → Sort
sort_of zero = flags
sort_of (suc zero) = words
sort_of (suc (suc t)) = levels

-- "role (0 plain, 1 trigger)"
unfoldable pub role_of : ℕ → Role
role_of zero = plain
role_of (suc r) = trigger

unfoldable pub sorts_of : List ℕ → List Sort
sorts_of [] = []
sorts_of (t ∷ ts) = sort_of t ∷ sorts_of ts

unfoldable pub outputs_of : (types roles : List ℕ) → List Output
outputs_of [] rs = []
outputs_of (t ∷ ts) [] = []
outputs_of (t ∷ ts) (r ∷ rs) = record { sort = sort_of t; role = role_of r } ∷ outputs_of ts rs

-- from the stream y on
unfoldable pub equations_of : ℕ → List table.Equation → List Equation
equations_of y [] = []
equations_of y (q ∷ qs) = record { stream = y; node = tree_of q.expr } ∷ equations_of (y + 1) qs

unfoldable pub source_of : Table → Source
source_of t = record {
  edition = t.edition;
  inputs = sorts_of (take t.inputs t.types);
  outputs = outputs_of (drop t.inputs t.types) (drop t.inputs t.roles);
  equations = equations_of t.inputs t.equations;
}

-- the text of a table's bytes; none where they are refused
unfoldable pub text_by : Decoded → List ℕ
text_by (decoded t) = print_source (source_of t)
text_by (refused n p) = []

unfoldable pub text_of : List ℕ → List ℕ
text_of s = text_by (decode s)
