-- The text of a table is read line by line, and where it leaves the shape is found. Assumes nothing.
use Prim.Native.Nat.{ℕ, zero, suc}
use native.Mathlib.Omega.{arith}
use mathlib.Core.Path.{◌≡◌, refl}
use mathlib.Core.Bool.{true}
use mathlib.Core.Logic.{inl}
use mathlib.Core.List.{List, [], ◌∷◌}
use Rattle.shapes.specs.Forms.{Form, Reads, word, seq, alt}
use Rattle.shapes.specs.Numbers.{number}
use Rattle.shapes.specs.Words.{first, one_of, good_names, smallb}
use Rattle.source.specs.Nodes.{node}
use Rattle.source.specs.Tables.{itself, head_line, type_name, in_line, out_line, eq_line, eqs, outs, ins, table_text}
use Rattle.source.specs.Words.{table_word, in_word, out_word, eq_word, line_end_of, type_names, role_names}
use Rattle.shapes.proofs.Forms.{end_reads, seq_reads, alt_reads}
use Rattle.shapes.proofs.Words.{names_plain, names_reads, small_by_test}
use Rattle.source.proofs.Nodes.{Part, then, word_part, number_part, node_part}

names_part : (w : List ℕ) (ws : List (List ℕ)) → good_names itself (w ∷ ws) ≡ true → Part (one_of itself (w ∷ ws))
names_part w ws h = record { some = first; plain = names_plain itself (w ∷ ws) h; reads = names_reads itself w ws h }

fixed : (w : List ℕ) → smallb w ≡ true → Part (word w)
fixed w h = word_part w (small_by_test w h)

types_part : (stop : ℕ) → good_names itself (type_names stop) ≡ true → Part (type_name stop)
types_part stop h = names_part _ _ h

roles_part : Part (one_of itself role_names)
roles_part = names_part _ _ refl

pub head_part : Part head_line
head_part = then (word table_word) (number 0 255 10) (fixed table_word refl) (number_part 255 10 (omega arith) (omega arith))

pub in_part : Part in_line
in_part = then (word in_word) (type_name 10) (fixed in_word refl) (types_part 10 refl)

pub out_part : Part out_line
out_part =
    then (word out_word) (seq (type_name 32) λ _. one_of itself role_names) (fixed out_word refl)
    (then (type_name 32) (one_of itself role_names) (types_part 32 refl) roles_part)

pub eq_part : Part eq_line
eq_part =
    then (word eq_word) (seq (number 0 255 32) λ _. seq (node 15) λ _. word (line_end_of ∷ [])) (fixed eq_word refl)
    (then (number 0 255 32) (seq (node 15) λ _. word (line_end_of ∷ [])) (number_part 255 32 (omega arith) (omega arith))
    (then (node 15) (word (line_end_of ∷ [])) (node_part 15) (fixed (line_end_of ∷ []) refl)))

-- the last lines need not stand before anything
pub record Last (F : Form) : Type 0 where
  pub some : F.Of
  pub reads : Reads F

line : (F G : Form) → Part F → Last G → Last (seq F λ _. G)
line F G f g = record { some = (f.some, g.some); reads = seq_reads F (λ _. G) f.plain (λ _. g.some) f.reads (λ _. g.reads) }

either : (F G : Form) → Last F → Last G → Last (alt F G)
either F G f g = record { some = inl f.some; reads = alt_reads F G f.reads g.reads }

pub eqs_last : (k : ℕ) → Last (eqs k)
unfolding eqs
eqs_last zero = record { some = tt; reads = end_reads }
eqs_last (suc k) = line eq_line (eqs k) eq_part (eqs_last k)

pub outs_last : (n k : ℕ) → Last (outs n k)
unfolding outs
outs_last zero k = eqs_last k
outs_last (suc n) k = either (eqs k) (seq out_line λ _. outs n (suc k)) (eqs_last k) (line out_line (outs n (suc k)) out_part (outs_last n (suc k)))

pub ins_last : (n : ℕ) → Last (ins n)
unfolding ins
ins_last zero = outs_last 255 0
ins_last (suc n) = either (outs 255 0) (seq in_line λ _. ins n) (outs_last 255 0) (line in_line (ins n) in_part (ins_last n))

pub table_last : Last table_text
table_last = line head_line (ins 255) head_part (ins_last 255)
