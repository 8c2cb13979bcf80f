-- The bytes of a table as it is written are never longer than its text, node by node and line by line. Assumes nothing.
use Prim.Native.Nat.{ℕ, ◌+◌, ◌≤◌}
use native.Mathlib.Omega.{arith}
use mathlib.Core.List.{List, [], ◌∷◌, ◌++◌}
use lib.ListN.{length, length-append}
use Rattle.wire.specs.Bytes.{le4}
use Rattle.lines.specs.Lines.{decimal, hex8}
use Rattle.lines.proofs.Decimals.{some_digit}
use Rattle.lines.proofs.Lengths.{hex8_length}
use Rattle.expression.specs.Generation.{constant_bytes, node_bytes, expression_bytes}
use Rattle.source.specs.Words.{close, comma, blank, line_end_of}
use Rattle.source.specs.Trees.{Two, and, or, add_word, sub_word, ahead, less_word, equal_word, equal_flag, equal_level, add_level, sub_level, mul, div, less_level, Tree, two_name_of, signed, print_tree}
use Rattle.source.specs.Trees.{Fits, flag_fits, word_fits, level_fits, now_fits, past_fits, not_fits, two_fits, choose_fits}
use Rattle.source.specs.Source.{Sort, flags, words, levels, Output, Equation, in_text, out_text, eq_text}
use Rattle.source.specs.Bytes.{tree_bytes, in_bytes_of, out_bytes, eq_bytes}

-- a number and the byte behind it
number_long : (n : ℕ) (r : List ℕ) → 1 + length r ≤ length (decimal n ++ r)
number_long n r = omega (arith, length-append (decimal n) r, some_digit n)

-- no name of an operator is shorter than `or(`
name_long : (k : Two) → 3 ≤ length (two_name_of k)
name_long and = omega arith
name_long or = omega arith
name_long add_word = omega arith
name_long sub_word = omega arith
name_long ahead = omega arith
name_long less_word = omega arith
name_long equal_word = omega arith
name_long equal_flag = omega arith
name_long equal_level = omega arith
name_long add_level = omega arith
name_long sub_level = omega arith
name_long mul = omega arith
name_long div = omega arith
name_long less_level = omega arith

-- operands with commas between and a bracket behind
one_long : (u v : List ℕ) → length u ≤ length v → length u ≤ length (v ++ (close ∷ []))
one_long u v h = omega (arith, length-append v (close ∷ []))

more_long : (u v a b : List ℕ) → length u ≤ length v → length a ≤ length b → length (u ++ a) ≤ length (v ++ (comma ∷ b))
more_long u v a b h i = omega (arith, length-append u a, length-append v (comma ∷ b))

-- a node's bytes are no more than its text's
pub tree_shorter : (l : ℕ) (t : Tree) → Fits l t → length (tree_bytes t) ≤ length (print_tree t)
unfolding tree_bytes expression_bytes node_bytes constant_bytes le4
tree_shorter l t (flag_fits h) = omega arith
tree_shorter l t (word_fits {n} h) = omega (arith, number_long n (close ∷ []))
tree_shorter l t (level_fits {d} h) = omega (arith, length-append (hex8 d) (close ∷ []), hex8_length d)
tree_shorter l t (now_fits h) = omega arith
tree_shorter l t (past_fits {v} {k} {d} h g m) =
    omega (arith, length-append (decimal v ++ (comma ∷ [])) (signed k ++ (comma ∷ []) ++ (hex8 d ++ (close ∷ []))), length-append (signed k ++ (comma ∷ [])) (hex8 d ++ (close ∷ [])), length-append (hex8 d) (close ∷ []), hex8_length d)
tree_shorter l t (not_fits {l = j} {a} h) = let n = one_long (tree_bytes a) (print_tree a) (tree_shorter j a h) in omega arith
tree_shorter l t (two_fits {l = j} {k} {a} {b} h i) =
    let n = more_long (tree_bytes a) (print_tree a) (tree_bytes b) (print_tree b ++ (close ∷ [])) (tree_shorter j a h) (one_long (tree_bytes b) (print_tree b) (tree_shorter j b i)) in
    omega (arith, name_long k, length-append (two_name_of k) (print_tree a ++ (comma ∷ (print_tree b ++ (close ∷ [])))))
tree_shorter l t (choose_fits {l = j} {a} {b} {c} h i k) =
    let m = more_long (tree_bytes b) (print_tree b) (tree_bytes c) (print_tree c ++ (close ∷ [])) (tree_shorter j b i) (one_long (tree_bytes c) (print_tree c) (tree_shorter j c k)) in
    let n = more_long (tree_bytes a) (print_tree a) (tree_bytes b ++ tree_bytes c) (print_tree b ++ (comma ∷ (print_tree c ++ (close ∷ [])))) (tree_shorter j a h) m in
    omega (arith, length-append (tree_bytes a ++ tree_bytes b) (tree_bytes c), length-append (tree_bytes a) (tree_bytes b), length-append (tree_bytes a) (tree_bytes b ++ tree_bytes c), length-append (tree_bytes b) (tree_bytes c))

-- an `in` line's bytes are no more than its text's
pub in_shorter : (s : Sort) → length (in_bytes_of s) ≤ length (in_text s)
in_shorter flags = omega arith
in_shorter words = omega arith
in_shorter levels = omega arith

-- nor an `out` line's
pub out_shorter : (o : Output) → length (out_bytes o) ≤ length (out_text o)
out_shorter o = omega arith

-- nor an `eq` line's, if its node fits
pub eq_shorter : (e : Equation) → Fits 15 e.node → length (eq_bytes e) ≤ length (eq_text e)
eq_shorter e h =
    omega (arith, tree_shorter 15 e.node h, length-append (decimal e.stream ++ (blank ∷ [])) (print_tree e.node ++ (line_end_of ∷ [])), length-append (print_tree e.node) (line_end_of ∷ []))
