-- A node can stand before something else at every level, some node can stand there, and where a text leaves it is found from its parts.
-- Assumes nothing.
use Prim.Native.Nat.{ℕ, zero, suc, ◌<◌}
use native.Mathlib.Omega.{arith}
use mathlib.Core.Path.{◌≡◌, refl}
use mathlib.Core.Bool.{true}
use mathlib.Core.Logic.{inl}
use mathlib.Core.List.{List, [], ◌∷◌}
use Rattle.shapes.specs.Forms.{Form, Small, none, Plain, Reads, word, seq}
use Rattle.shapes.specs.Numbers.{number, offset, hex_one}
use Rattle.shapes.specs.Words.{first, picked, one_of, good_names}
use Rattle.source.specs.Nodes.{Args, a_byte, a_word, a_level, a_past, nodes, Entry, name_of, hex8, closing, between, operands, args_form, calls, node}
use Rattle.shapes.proofs.Forms.{word_plain, word_reads, seq_plain, seq_reads}
use Rattle.shapes.proofs.Numbers.{number_plain, number_reads, offset_plain, offset_reads, hex_plain, hex_reads, times_plain, times_some, times_reads}
use Rattle.shapes.proofs.Words.{names_plain, names_reads, small_by_test}

pub close_small : Small (41 ∷ [])
close_small = small_by_test (41 ∷ []) refl

pub comma_small : Small (44 ∷ [])
comma_small = small_by_test (44 ∷ []) refl

pub hex8_some : hex8.Of
hex8_some = times_some 8 hex_one (0, omega arith)

pub hex8_plain : Plain hex8
hex8_plain = times_plain 8 hex_one hex_plain

pub hex8_reads : Reads hex8
hex8_reads = times_reads 8 hex_one hex_plain (0, omega arith) hex_reads

-- what a form gives to one that it stands in
pub record Part (F : Form) : Type 0 where
  pub some : F.Of
  pub plain : Plain F
  pub reads : Reads F

pub then : (F G : Form) → Part F → Part G → Part (seq F λ _. G)
then F G f g = record {
  some = (f.some, g.some);
  plain = seq_plain F (λ _. G) f.plain (λ _. g.plain);
  reads = seq_reads F (λ _. G) f.plain (λ _. g.some) f.reads (λ _. g.reads);
}

pub word_part : (w : List ℕ) → Small w → Part (word w)
word_part w b = record { some = tt; plain = word_plain w b; reads = word_reads w b }

pub number_part : (most stop : ℕ) → stop < 48 → 9 < most → Part (number 0 most stop)
number_part most stop l h = record {
  some = (0, (omega arith, omega arith));
  plain = number_plain 0 most stop l;
  reads = number_reads 0 most stop l (omega arith) (omega arith);
}

pub offset_part : Part (offset 44)
offset_part = record { some = inl (0, (omega arith, omega arith)); plain = offset_plain 44 (omega arith); reads = offset_reads 44 (omega arith) }

pub hex8_part : Part hex8
hex8_part = record { some = hex8_some; plain = hex8_plain; reads = hex8_reads }

pub operands_part : (k : ℕ) (N : Form) → Part N → Part (operands k N)
operands_part zero N f = then N closing f (word_part (41 ∷ []) close_small)
operands_part (suc k) N f =
    then N (seq between λ _. operands k N) f (then between (operands k N) (word_part (44 ∷ []) comma_small) (operands_part k N f))

pub args_part : (a : Args) (N : Form) → Part N → Part (args_form a N)
args_part a_byte N f = number_part 255 41 (omega arith) (omega arith)
args_part a_word N f = number_part 4294967295 41 (omega arith) (omega arith)
args_part a_level N f = then hex8 closing hex8_part (word_part (41 ∷ []) close_small)
args_part a_past N f =
    then (number 0 255 44) (seq (offset 44) λ _. seq hex8 λ _. closing) (number_part 255 44 (omega arith) (omega arith))
    (then (offset 44) (seq hex8 λ _. closing) offset_part (then hex8 closing hex8_part (word_part (41 ∷ []) close_small)))
args_part (nodes k) N f = operands_part k N f

pub calls_part : (e : Entry) (es : List Entry) (N : Form) → good_names name_of (e ∷ es) ≡ true → Part N → Part (calls (e ∷ es) N)
calls_part e es N h f = record {
  some = (first, (args_part e.args N f).some);
  plain = seq_plain (one_of name_of (e ∷ es)) (λ i. args_form (picked i).args N) (names_plain name_of (e ∷ es) h) (λ i. (args_part (picked i).args N f).plain);
  reads = seq_reads (one_of name_of (e ∷ es)) (λ i. args_form (picked i).args N) (names_plain name_of (e ∷ es) h) (λ i. (args_part (picked i).args N f).some)
      (names_reads name_of e es h) (λ i. (args_part (picked i).args N f).reads);
}

-- at every level
pub node_part : (n : ℕ) → Part (node n)
unfolding node
node_part zero = calls_part _ _ (word []) refl (word_part [] none)
node_part (suc n) = calls_part _ _ (node n) refl (node_part n)
