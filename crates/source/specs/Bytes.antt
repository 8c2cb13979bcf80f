-- The bytes of a table as it is written (document 01, "The table"), whatever its fields say: which of them are refused is the check's.
-- Assumes nothing.
use Rattle.std.specs.Prelude.{ℕ, List, [], ◌∷◌, ◌++◌, length}
use Rattle.node.specs.declared.Node.TheVariants.{Constant, Now, At}
use Rattle.expression.specs.Syntax.{Expr, leaf, unary, binary, ternary}
use Rattle.expression.specs.Generation.{expression_bytes}
use Rattle.source.specs.Trees.{Two, and, or, add_word, sub_word, ahead, less_word, equal_word, equal_flag, equal_level, add_level, sub_level, mul, div, less_level, Tree, flag, number_word, level, now, past, not, two, choose}
use Rattle.source.specs.Source.{Sort, flags, words, levels, Role, plain, trigger, Output, Equation, Source, each}

-- the kinds of the operators with two operands
abbrev pub kind_of : Two → ℕ
kind_of and = 0x21
kind_of or = 0x22
kind_of add_word = 0x24
kind_of sub_word = 0x25
kind_of ahead = 0x26
kind_of less_word = 0x27
kind_of equal_word = 0x28
kind_of equal_flag = 0x29
kind_of equal_level = 0x2A
kind_of add_level = 0x2B
kind_of sub_level = 0x2C
kind_of mul = 0x2D
kind_of div = 0x2E
kind_of less_level = 0x2F

-- document 01's expression: "types are 0 flag, 1 word, 2 level"
abbrev pub expr_of : Tree → Expr
expr_of (flag n) = leaf (Constant 0 n)
expr_of (number_word n) = leaf (Constant 1 n)
expr_of (level d) = leaf (Constant 2 d)
expr_of (now v) = leaf (Now v)
expr_of (past v k d) = leaf (At v k d)
expr_of (not a) = unary 0x20 (expr_of a)
expr_of (two k a b) = binary (kind_of k) (expr_of a) (expr_of b)
expr_of (choose a b c) = ternary 0x23 (expr_of a) (expr_of b) (expr_of c)

unfoldable pub tree_bytes : Tree → List ℕ
tree_bytes t = expression_bytes (expr_of t)

abbrev pub sort_byte_of : Sort → ℕ
sort_byte_of flags = 0
sort_byte_of words = 1
sort_byte_of levels = 2

-- "role (0 plain, 1 trigger)"
abbrev pub role_byte_of : Role → ℕ
role_byte_of plain = 0
role_byte_of trigger = 1

-- "02: input: type", "03: output: type, role", "04: equation of this stream; one expression follows"
abbrev pub in_bytes_of : Sort → List ℕ
in_bytes_of s = 0x02 ∷ sort_byte_of s ∷ []

abbrev pub out_bytes : Output → List ℕ
out_bytes o = 0x03 ∷ sort_byte_of o.sort ∷ role_byte_of o.role ∷ []

abbrev pub eq_bytes : Equation → List ℕ
eq_bytes e = 0x04 ∷ e.stream ∷ tree_bytes e.node

-- "01: edition (1), I, O": I and O are the numbers of lines
abbrev pub head_bytes_of : Source → List ℕ
head_bytes_of s = 0x01 ∷ s.edition ∷ length s.inputs ∷ length s.outputs ∷ []

unfoldable pub source_bytes_of : Source → List ℕ
source_bytes_of s = head_bytes_of s ++ (each in_bytes_of s.inputs ++ (each out_bytes s.outputs ++ each eq_bytes s.equations))
