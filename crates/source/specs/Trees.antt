-- A table's expressions as trees, and how they are printed: "Operators carry 01's names and operand counts" (C-12).
-- Assumes nothing.
use Rattle.std.specs.Prelude.{ℕ, suc, ◌≤◌, List, [], ◌∷◌, ◌++◌, ℤ, pos, negsuc}
use Rattle.lines.specs.Lines.{decimal, hex8}
use Rattle.shapes.specs.Ascii.{ascii}
use Rattle.shapes.specs.Forms.{Form}
use Rattle.source.specs.Words.{close, comma, flag_name, word_name, level_name, now_name, at_name, not_name, and_name, or_name, if_name, add_word_name, sub_word_name, ahead_name}
use Rattle.source.specs.Words.{less_word_name, equal_word_name, equal_flag_name, equal_level_name, add_level_name, sub_level_name, mul_name, div_name, less_level_name}

-- the operators with two operands
pub data Two : Type 0 where
  and : Two
  or : Two
  add_word : Two
  sub_word : Two
  ahead : Two
  less_word : Two
  equal_word : Two
  equal_flag : Two
  equal_level : Two
  add_level : Two
  sub_level : Two
  mul : Two
  div : Two
  less_level : Two

pub data Tree : Type 0 where
  flag : ℕ → Tree
  number_word : ℕ → Tree
  level : ℕ → Tree
  now : ℕ → Tree
  past : (stream : ℕ) (offset : ℤ) (default : ℕ) → Tree
  not : Tree → Tree
  two : Two → Tree → Tree → Tree
  choose : (test then else : Tree) → Tree

-- an operator's name, with the bracket
abbrev pub two_name_of : Two → List ℕ
two_name_of and = and_name
two_name_of or = or_name
two_name_of add_word = add_word_name
two_name_of sub_word = sub_word_name
two_name_of ahead = ahead_name
two_name_of less_word = less_word_name
two_name_of equal_word = equal_word_name
two_name_of equal_flag = equal_flag_name
two_name_of equal_level = equal_level_name
two_name_of add_level = add_level_name
two_name_of sub_level = sub_level_name
two_name_of mul = mul_name
two_name_of div = div_name
two_name_of less_level = less_level_name

-- decimal, no -0
abbrev pub signed : ℤ → List ℕ
signed (pos n) = decimal n
signed (negsuc n) = ascii "-" ++ decimal (suc n)

abbrev pub print_tree : Tree → List ℕ
print_tree (flag n) = flag_name ++ (decimal n ++ (close ∷ []))
print_tree (number_word n) = word_name ++ (decimal n ++ (close ∷ []))
print_tree (level d) = level_name ++ (hex8 d ++ (close ∷ []))
print_tree (now v) = now_name ++ (decimal v ++ (close ∷ []))
print_tree (past v k d) = at_name ++ (decimal v ++ (comma ∷ []) ++ (signed k ++ (comma ∷ []) ++ (hex8 d ++ (close ∷ []))))
print_tree (not a) = not_name ++ (print_tree a ++ (close ∷ []))
print_tree (two k a b) = two_name_of k ++ (print_tree a ++ (comma ∷ (print_tree b ++ (close ∷ []))))
print_tree (choose a b c) = if_name ++ (print_tree a ++ (comma ∷ (print_tree b ++ (comma ∷ (print_tree c ++ (close ∷ []))))))

-- "in the range of their field"
pub data Ranged : ℤ → Type 0 where
  plus : {n : ℕ} → n ≤ 127 → Ranged (pos n)
  minus : {n : ℕ} → suc n ≤ 128 → Ranged (negsuc n)

-- each field in the range of its bytes, and no more than so many levels below the first
pub data Fits : ℕ → Tree → Type 0 where
  flag_fits : {l n : ℕ} → n ≤ 255 → Fits l (flag n)
  word_fits : {l n : ℕ} → n ≤ 4294967295 → Fits l (number_word n)
  level_fits : {l d : ℕ} → d ≤ 4294967295 → Fits l (level d)
  now_fits : {l v : ℕ} → v ≤ 255 → Fits l (now v)
  past_fits : {l v : ℕ} {k : ℤ} {d : ℕ} → v ≤ 255 → Ranged k → d ≤ 4294967295 → Fits l (past v k d)
  not_fits : {l : ℕ} {a : Tree} → Fits l a → Fits (suc l) (not a)
  two_fits : {l : ℕ} {k : Two} {a b : Tree} → Fits l a → Fits l b → Fits (suc l) (two k a b)
  choose_fits : {l : ℕ} {a b c : Tree} → Fits l a → Fits l b → Fits l c → Fits (suc l) (choose a b c)

-- "nodes nest at most 16 levels deep": `tree 15`
abbrev pub tree : ℕ → Form
tree l = record { Of = (t : Tree) × Fits l t; print = λ t. print_tree t.0 }
