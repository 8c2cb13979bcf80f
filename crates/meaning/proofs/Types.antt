-- Values of a type: what a word is read as, what an operator gives and what `if` gives are (document 01, "Values").
-- Assumes nothing.
use Prim.Native.Nat.{ℕ}
use mathlib.Core.Path.{◌≡◌, refl, sym, ap, ◌∙◌}
use mathlib.Core.Bool.{Bool, true, false, not}
use lib.Dec.{eqb}
use lib.Ieee as Ieee
use lib.Ieee.{binary32}
use lib.Ieee.Bits.{of_bits-fits}
use Rattle.level.proofs.Bits.{read_of_image}
use Rattle.value.specs.declared.Value.{Value}
use Rattle.value.specs.declared.Value.TheVariants.{Flag, Word, Level}
use Rattle.value.specs.Values.{reading_of, image_of, op_of, type_of_op, apply_of, choose_of, flag_for, word_of, level_for, pick}
use Rattle.value.proofs.Images.{read_image}
use Rattle.value.proofs.Operators.{op_good, op_type}
use Rattle.meaning.specs.Expressions.{OfType}

pub reading_of_type : (t w : ℕ) → OfType t (reading_of t w)
reading_of_type t w = go (eqb t 0) (eqb t 1) (eqb w 0)
  where
    go : (b d e : Bool) →
        (let x = pick b (Flag (not e)) (pick d (Word w) (Level (Ieee.of_bits binary32 w))) in
        pick b (Flag (not (eqb (image_of x) 0))) (pick d (Word (image_of x)) (Level (Ieee.of_bits binary32 (image_of x)))) ≡ x)
    go true d true = refl
    go true d false = refl
    go false true e = refl
    go false false e = ap Level (read_of_image (Ieee.of_bits binary32 w) (of_bits-fits binary32 w))

pub apply_of_type : (k : ℕ) (a b : Value) → OfType (type_of_op (op_of k)) (apply_of k a b)
apply_of_type k a b =
    ap (λ (t : ℕ). reading_of t (image_of (apply_of k a b))) (sym (op_type (op_of k) (flag_for a) (flag_for b) (word_of a) (word_of b) (level_for a) (level_for b)))
    ∙ read_image (apply_of k a b) (op_good (op_of k) (flag_for a) (flag_for b) (word_of a) (word_of b) (level_for a) (level_for b))

pub choose_of_type : (t : ℕ) (a b c : Value) → OfType t b → OfType t c → OfType t (choose_of a b c)
choose_of_type t a b c p q = go (flag_for a)
  where
    go : (f : Bool) → OfType t (pick f b c)
    go true = p
    go false = q
