-- The nodes of a table as text, with the levels that are left below: at the last level only the five leaves can stand.
-- Assumes nothing.
use Rattle.std.specs.Prelude.{ℕ, zero, suc, List, [], ◌∷◌}
use Rattle.shapes.specs.Forms.{Form, word, seq}
use Rattle.shapes.specs.Numbers.{number, offset, hex_one, times}
use Rattle.shapes.specs.Words.{picked, one_of}
use Rattle.source.specs.Words.{close, comma, flag_name, word_name, level_name, now_name, at_name, not_name, and_name, or_name, if_name, add_word_name, sub_word_name, ahead_name}
use Rattle.source.specs.Words.{less_word_name, equal_word_name, equal_flag_name, equal_level_name, add_level_name, sub_level_name, mul_name, div_name, less_level_name}

-- what stands between a name's bracket and the closing one
pub data Args : Type 0 where
  a_byte : Args
  a_word : Args
  a_level : Args
  -- stream, offset, default
  a_past : Args
  -- so many nodes, and one more
  nodes : ℕ → Args

pub record Entry : Type 0 where
  -- with the bracket, so that no name begins another
  pub name : List ℕ
  pub args : Args

abbrev pub name_of : Entry → List ℕ
name_of e = e.name

abbrev pub hex8 : Form
hex8 = times 8 hex_one

abbrev pub closing : Form
closing = word (close ∷ [])

abbrev pub between : Form
between = word (comma ∷ [])

-- nodes with commas between
abbrev pub operands : ℕ → Form → Form
operands zero N = seq N λ _. closing
operands (suc k) N = seq N λ _. seq between λ _. operands k N

abbrev pub args_form : Args → Form → Form
args_form a_byte N = number 0 255 close
args_form a_word N = number 0 4294967295 close
args_form a_level N = seq hex8 λ _. closing
args_form a_past N = seq (number 0 255 comma) λ _. seq (offset comma) λ _. seq hex8 λ _. closing
args_form (nodes k) N = operands k N

-- a name of the list, and what it asks for, with N for the nodes below
abbrev pub calls : List Entry → Form → Form
calls es N = seq (one_of name_of es) λ i. args_form (picked i).args N

abbrev pub leaves : List Entry
leaves =
    record { name = flag_name; args = a_byte }
    ∷ record { name = word_name; args = a_word }
    ∷ record { name = level_name; args = a_level }
    ∷ record { name = now_name; args = a_byte }
    ∷ record { name = at_name; args = a_past }
    ∷ []

-- a leaf or an operator
abbrev pub all : List Entry
all =
    record { name = flag_name; args = a_byte }
    ∷ record { name = word_name; args = a_word }
    ∷ record { name = level_name; args = a_level }
    ∷ record { name = now_name; args = a_byte }
    ∷ record { name = at_name; args = a_past }
    ∷ record { name = not_name; args = nodes 0 }
    ∷ record { name = and_name; args = nodes 1 }
    ∷ record { name = or_name; args = nodes 1 }
    ∷ record { name = if_name; args = nodes 2 }
    ∷ record { name = add_word_name; args = nodes 1 }
    ∷ record { name = sub_word_name; args = nodes 1 }
    ∷ record { name = ahead_name; args = nodes 1 }
    ∷ record { name = less_word_name; args = nodes 1 }
    ∷ record { name = equal_word_name; args = nodes 1 }
    ∷ record { name = equal_flag_name; args = nodes 1 }
    ∷ record { name = equal_level_name; args = nodes 1 }
    ∷ record { name = add_level_name; args = nodes 1 }
    ∷ record { name = sub_level_name; args = nodes 1 }
    ∷ record { name = mul_name; args = nodes 1 }
    ∷ record { name = div_name; args = nodes 1 }
    ∷ record { name = less_level_name; args = nodes 1 }
    ∷ []

-- a node with so many levels below it: at most 16 levels are `node 15`
unfoldable pub node : ℕ → Form
node zero = calls leaves (word [])
node (suc n) = calls all (node n)
