-- The text of a table, line by line, with its end marked. Assumes nothing.
use Rattle.std.specs.Prelude.{ℕ, zero, suc, List, [], ◌∷◌}
use Rattle.shapes.specs.Forms.{Form, word, seq, alt}
use Rattle.shapes.specs.Numbers.{number}
use Rattle.shapes.specs.Words.{one_of}
use Rattle.source.specs.Words.{blank, line_end_of, type_names, role_names, table_word, in_word, out_word, eq_word}
use Rattle.source.specs.Nodes.{node}

abbrev pub itself : List ℕ → List ℕ
itself w = w

-- `table `, the edition, 0A
abbrev pub head_line : Form
head_line = seq (word table_word) λ _. number 0 255 line_end_of

-- flag, word, level, each with the byte behind
abbrev pub type_name : ℕ → Form
type_name stop = one_of itself (type_names stop)

abbrev pub in_line : Form
in_line = seq (word in_word) λ _. type_name line_end_of

abbrev pub out_line : Form
out_line = seq (word out_word) λ _. seq (type_name blank) λ _. one_of itself role_names

abbrev pub eq_line : Form
eq_line = seq (word eq_word) λ _. seq (number 0 255 blank) λ _. seq (node 15) λ _. word (line_end_of ∷ [])

-- so many `eq` lines, and the end
unfoldable pub eqs : ℕ → Form
eqs zero = word (256 ∷ [])
eqs (suc k) = seq eq_line λ _. eqs k

-- at most n `out` lines, k of them read before; then as many `eq` lines
unfoldable pub outs : (n k : ℕ) → Form
outs zero k = eqs k
outs (suc n) k = alt (eqs k) (seq out_line λ _. outs n (suc k))

-- at most n `in` lines
unfoldable pub ins : ℕ → Form
ins zero = outs 255 0
ins (suc n) = alt (outs 255 0) (seq in_line λ _. ins n)

abbrev pub table_text : Form
table_text = seq head_line λ _. ins 255
