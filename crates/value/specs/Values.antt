-- Stream values, their images and readings (document 01, "Values"), and the operators on them ("The table", kinds 20 to 2F).
-- Assumes nothing.
use Rattle.std.specs.Prelude.{ℕ, ◌^◌, ◌<◌, Bool, true, false, cond, not, ◌&&◌, ◌||◌, T, ◌==◌, nat_lt, Float}
use Rattle.std.specs.Bool.{beq}
use Rattle.std.specs.Float.Ieee as Ieee
use Rattle.std.specs.Float.{binary32}
use Rattle.level.specs.Level.{same_level}
use Rattle.value.specs.Words.{add_words_of, sub_words_of, ahead_of}
use Rattle.value.specs.declared.Value.{Value}
use Rattle.value.specs.declared.Value.TheVariants.{Flag, Word, Level}

-- "Each takes one 32-bit word in rows, store and output; a flag is 0 or 1": the image of NaN is 7FC00000
abbrev pub image_of : Value → ℕ
image_of (Flag b) = cond b 1 0
image_of (Word w) = w
image_of (Level x) = Ieee.to_bits binary32 x

-- "types are 0 flag, 1 word, 2 level"
abbrev pub type_of : Value → ℕ
type_of (Flag b) = 0
type_of (Word w) = 1
type_of (Level x) = 2

-- the first where the flag is true, the second where it is not
abbrev pub pick : Bool → Value → Value → Value
pick true a b = a
pick false a b = b

-- a word read as a value of type t: a flag is "true exactly when it isn't 0", a level has one NaN; a type above 2 counts as 2
abbrev pub reading_of : ℕ → ℕ → Value
reading_of t w = pick (t == 0) (Flag (not (w == 0))) (pick (t == 1) (Word w) (Level (Ieee.of_bits binary32 w)))

-- what every value of the program is: a word is below 2 ^ 32, a level is one of binary32
abbrev pub Good : Value → Type 0
Good (Flag b) = Unit {0}
Good (Word w) = w < 2 ^ 32
Good (Level x) = T (Ieee.fits binary32 x)

-- the operand that an operator on flags, on words or on levels takes; of another type, which no accepted table has, it is false, 0 or +0
abbrev pub flag_for : Value → Bool
flag_for (Flag b) = b
flag_for (Word w) = false
flag_for (Level x) = false

abbrev pub word_of : Value → ℕ
word_of (Flag b) = 0
word_of (Word w) = w
word_of (Level x) = 0

abbrev pub level_for : Value → Float
level_for (Flag b) = Ieee.of_bits binary32 0
level_for (Word w) = Ieee.of_bits binary32 0
level_for (Level x) = x

-- the operators but `if`; `no_operator` stands for every other kind
pub data Op : Type 0 where
  not_flag and_flags or_flags add_words sub_words ahead_words less_words equal_words equal_flags equal_levels add_levels sub_levels mul_levels div_levels less_levels no_operator : Op

abbrev pub pick_op : Bool → Op → Op → Op
pick_op true a b = a
pick_op false a b = b

-- the operator of a kind, as the table of kinds has it
unfoldable pub op_of : ℕ → Op
op_of k =
    pick_op (k == 0x20) not_flag
    (pick_op (k == 0x21) and_flags
    (pick_op (k == 0x22) or_flags
    (pick_op (k == 0x24) add_words
    (pick_op (k == 0x25) sub_words
    (pick_op (k == 0x26) ahead_words
    (pick_op (k == 0x27) less_words
    (pick_op (k == 0x28) equal_words
    (pick_op (k == 0x29) equal_flags
    (pick_op (k == 0x2a) equal_levels
    (pick_op (k == 0x2b) add_levels
    (pick_op (k == 0x2c) sub_levels
    (pick_op (k == 0x2d) mul_levels
    (pick_op (k == 0x2e) div_levels
    (pick_op (k == 0x2f) less_levels
    no_operator))))))))))))))

-- its result on flags p q, words m n and levels x y, of which it takes those of its own type; "add, sub, mul, div of levels, one rounding each",
-- "less of levels; false where either is NaN"
abbrev pub on_op : Op → Bool → Bool → ℕ → ℕ → Float → Float → Value
on_op not_flag p q m n x y = Flag (not p)
on_op and_flags p q m n x y = Flag (p && q)
on_op or_flags p q m n x y = Flag (p || q)
on_op add_words p q m n x y = Word (add_words_of m n)
on_op sub_words p q m n x y = Word (sub_words_of m n)
on_op ahead_words p q m n x y = Flag (ahead_of m n)
on_op less_words p q m n x y = Flag (nat_lt m n)
on_op equal_words p q m n x y = Flag (m == n)
on_op equal_flags p q m n x y = Flag (beq p q)
on_op equal_levels p q m n x y = Flag (same_level x y)
on_op add_levels p q m n x y = Level (Ieee.add binary32 x y)
on_op sub_levels p q m n x y = Level (Ieee.sub binary32 x y)
on_op mul_levels p q m n x y = Level (Ieee.mul binary32 x y)
on_op div_levels p q m n x y = Level (Ieee.div binary32 x y)
on_op less_levels p q m n x y = Flag (Ieee.lt x y)
on_op no_operator p q m n x y = Flag false

-- the type of its result
abbrev pub type_of_op : Op → ℕ
type_of_op not_flag = 0
type_of_op and_flags = 0
type_of_op or_flags = 0
type_of_op add_words = 1
type_of_op sub_words = 1
type_of_op ahead_words = 0
type_of_op less_words = 0
type_of_op equal_words = 0
type_of_op equal_flags = 0
type_of_op equal_levels = 0
type_of_op add_levels = 2
type_of_op sub_levels = 2
type_of_op mul_levels = 2
type_of_op div_levels = 2
type_of_op less_levels = 0
type_of_op no_operator = 0

-- the operator of a kind, on the operands of each type
abbrev pub operate_of : ℕ → Bool → Bool → ℕ → ℕ → Float → Float → Value
operate_of k p q m n x y = on_op (op_of k) p q m n x y

-- the operator of a kind, on values: `not` takes a
abbrev pub apply_of : ℕ → Value → Value → Value
apply_of k a b = operate_of k (flag_for a) (flag_for b) (word_of a) (word_of b) (level_for a) (level_for b)

-- kind 23, "if: flag, then, else"
abbrev pub choose_of : Value → Value → Value → Value
choose_of a b c = pick (flag_for a) b c
