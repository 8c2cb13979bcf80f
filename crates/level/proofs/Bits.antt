-- Laws of a level's 32 bits (document 01, "Values").
-- Assumes nothing.
use mathlib.Core.Path.{◌≡◌, refl, sym, ap, ◌∙◌, subst}
use mathlib.Core.Bool.{Bool, true, false, not, ◌&&◌, cond}
use Prim.Native.Nat.{ℕ, ◌/◌, ◌^◌, ◌<◌}
use lib.Dec.{T, eqb}
use lib.Bits.{bit_and, and_mask}
use lib.Pow as Pow
use lib.Ieee.{Float, nan, inf, fin, binary32, of_bits, to_bits, nan_bits, is_nan, fits, ne, div}
use lib.Ieee.Bits.{of_bits-to_bits, to_bits-of_bits, nan_bits_is}
use lib.Ieee.Compare.{differs_from_itself}
use Rattle.level.specs.Level.{one_nan_of}

-- the masks and shifts of is_nan_bits are the fields of the format
pub by_fields : (w : ℕ) → nan_bits binary32 w ≡ eqb (bit_and (w / 2 ^ 23) 255) 255 && not (eqb (bit_and w 8388607) 0)
unfolding nan_bits
by_fields w = rw (and_mask (w / 2 ^ 23) 8, and_mask w 23, Pow.field w 8 23)

-- there is one NaN
only_nan : (x : Float) → is_nan x ≡ true → x ≡ nan
unfolding is_nan
only_nan nan e = refl
only_nan (inf s) e = absurd (subst T (sym e) tt)
only_nan (fin s m d) e = absurd (subst T (sym e) tt)

pub reads_nan : (w : ℕ) → nan_bits binary32 w ≡ true → of_bits binary32 w ≡ nan
reads_nan w e = only_nan (of_bits binary32 w) (sym (nan_bits_is binary32 w) ∙ e)

pub nan_image : to_bits binary32 nan ≡ 0x7fc0_0000
unfolding to_bits
nan_image = refl

pub image_of_nan : (x : Float) → is_nan x ≡ true → to_bits binary32 x ≡ 0x7fc0_0000
image_of_nan x e = ap (to_bits binary32) (only_nan x e) ∙ nan_image

-- std's NaN is that of its image
pub nan_read : of_bits binary32 0x7fc0_0000 ≡ nan
unfolding of_bits
nan_read = refl

-- 0/0 is NaN
pub nan_made : div binary32 (of_bits binary32 0) (of_bits binary32 0) ≡ nan
unfolding div of_bits
nan_made = refl

-- NaN is the one level that differs from itself
pub same_is_no_nan : (x : Float) → ne x x ≡ false → T (not (is_nan x))
unfolding is_nan ne
same_is_no_nan nan e = subst T e tt
same_is_no_nan (inf s) e = tt
same_is_no_nan (fin s m d) e = tt

pub differs_is_nan : (x : Float) → ne x x ≡ true → x ≡ nan
differs_is_nan x e = differs_from_itself x (subst T (sym e) tt)

-- the image of what a word is read as: the word, with the one NaN for every NaN pattern
pub image_of_read : (w : ℕ) → w < 2 ^ 32 → to_bits binary32 (of_bits binary32 w) ≡ one_nan_of w
image_of_read w h = go (nan_bits binary32 w) refl
  where
    go : (b : Bool) → nan_bits binary32 w ≡ b → to_bits binary32 (of_bits binary32 w) ≡ cond b 0x7fc0_0000 w
    go true e = image_of_nan _ (sym (nan_bits_is binary32 w) ∙ e)
    go false e = to_bits-of_bits binary32 w h (subst (λ (b : Bool). T (not b)) (sym e ∙ nan_bits_is binary32 w) tt)

-- and back: a level is what its image is read as
pub read_of_image : (x : Float) → T (fits binary32 x) → of_bits binary32 (to_bits binary32 x) ≡ x
read_of_image = of_bits-to_bits binary32
