-- Laws of images and readings (document 01, "Values").
-- Assumes nothing.
use Rattle.std.proofs.Common.{◌≡◌, ◌^◌, ◌<◌, true, false, T, List, sym, refl, ap, subst, arith}
use lib.Ieee.{binary32}
use lib.Ieee.Bits.{to_bits-lt}
use mir.Val.{Val}
use denote.Laws.{Is}
use denote.Enum.Laws.{owed}
use Rattle.level.proofs.Bits.{read_of_image}
use Rattle.value.specs.Values.{image_of, reading_of, type_of, Good}
use Rattle.value.specs.declared.Value.{Value}
use Rattle.value.specs.declared.Value.TheVariants.{Flag, Word, Level}
use Rattle.value.specs.contracts.Value.{the_type, the_row}
use Rattle.value.proofs.Value.TheLaws.{the_laws}

-- an image read at the value's type gives the value back
pub read_image : (v : Value) → Good v → reading_of (type_of v) (image_of v) ≡ v
read_image (Flag true) g = refl
read_image (Flag false) g = refl
read_image (Word w) g = refl
read_image (Level x) g = ap Level (read_of_image x g)

-- "Each takes one 32-bit word in rows, store and output"
pub image_word : (v : Value) → Good v → image_of v < 2 ^ 32
image_word (Flag true) g = omega arith
image_word (Flag false) g = omega arith
image_word (Word w) g = g
image_word (Level x) g = to_bits-lt binary32 x g

-- what owning a value tells: at a parameter it is `c.good.0`, at a call's result `.ok`
pub good_of : (v : Value) (vs : List Val) → Is the_row v vs → Good v
good_of (Flag b) vs g = tt
good_of (Word w) vs g = (owed the_type the_laws (Word w) vs g).0.1
good_of (Level x) vs g = subst T (sym (owed the_type the_laws (Level x) vs g).0.1) tt
