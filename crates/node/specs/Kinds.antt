-- The kinds of a table's records, row by row as document 01, "The table", lists them: "one byte of kind, then a body whose length the
-- kind fixes". Assumes nothing.
use Rattle.std.specs.Prelude.{ℕ, ◌<◌, ◌^◌, ◌≡◌, cond, List, [], ◌∷◌, eqb, get_or}

-- What a kind fixes. form: 0 no expression node, 1 constant, 2 now, 3 at, 4 operator. A type is 0 flag, 1 word, 2 level, and 3 stands for the
-- wanted type. `first` is the type of the first operand, `rest` that of the others.
pub record Rule : Type 0 where
  pub form : ℕ
  pub body : ℕ
  pub operands : ℕ
  pub first : ℕ
  pub rest : ℕ
  pub result : ℕ

-- a record that is no expression node: the length of its body
abbrev pub heading : ℕ → Rule
heading b = record { form = 0; body = b; operands = 0; first = 0; rest = 0; result = 0 }

-- a kind that no record has
abbrev pub no_rule : Rule
no_rule = heading 0

-- a constant: the length of its body and its type. Types are 0 flag, 1 word, 2 level.
abbrev pub constant : ℕ → ℕ → Rule
constant b t = record { form = 1; body = b; operands = 0; first = 0; rest = 0; result = t }

-- an operator: n operands of the type a, and a result of the type t
abbrev pub operator : ℕ → ℕ → ℕ → Rule
operator n a t = record { form = 4; body = 0; operands = n; first = a; rest = a; result = t }

-- a row of the document's table
pub record Row : Type 0 where
  pub kind : ℕ
  pub rule : Rule

abbrev pub row : ℕ → Rule → Row
row k r = record { kind = k; rule = r }

unfoldable pub rows : List Row
rows =
    row 0x01 (heading 3)
    ∷ row 0x02 (heading 1)
    ∷ row 0x03 (heading 2)
    ∷ row 0x04 (heading 1)
    ∷ row 0x10 (constant 1 0)
    ∷ row 0x11 (constant 4 1)
    ∷ row 0x12 (constant 4 2)
    ∷ row 0x13 (record { form = 2; body = 1; operands = 0; first = 0; rest = 0; result = 3 })
    ∷ row 0x14 (record { form = 3; body = 6; operands = 0; first = 0; rest = 0; result = 3 })
    ∷ row 0x20 (operator 1 0 0)
    ∷ row 0x21 (operator 2 0 0)
    ∷ row 0x22 (operator 2 0 0)
    ∷ row 0x23 (record { form = 4; body = 0; operands = 3; first = 0; rest = 3; result = 3 })
    ∷ row 0x24 (operator 2 1 1)
    ∷ row 0x25 (operator 2 1 1)
    ∷ row 0x26 (operator 2 1 0)
    ∷ row 0x27 (operator 2 1 0)
    ∷ row 0x28 (operator 2 1 0)
    ∷ row 0x29 (operator 2 0 0)
    ∷ row 0x2A (operator 2 2 0)
    ∷ row 0x2B (operator 2 2 2)
    ∷ row 0x2C (operator 2 2 2)
    ∷ row 0x2D (operator 2 2 2)
    ∷ row 0x2E (operator 2 2 2)
    ∷ row 0x2F (operator 2 2 0)
    ∷ []

-- the rule of the first row with the kind k
unfoldable pub look : List Row → ℕ → Rule
look [] k = no_rule
look (x ∷ xs) k = cond (eqb k x.kind) x.rule (look xs k)

unfoldable pub rule_of : ℕ → Rule
unfolding rows look
rule_of k = look rows k

-- an entry 3 stands for the wanted type: "if: flag, then, else (both of the wanted type)"; a reference has its stream's type, which is tested
-- with its stream
unfoldable pub meant : ℕ → ℕ → ℕ
meant t w = cond (eqb t 3) w t

-- the type of an operand behind the first one, of n operands the first of which is of the type a: "if: flag, then, else (both of the wanted type)"
unfoldable pub rest_of : ℕ → ℕ → ℕ → ℕ
rest_of n a w = cond (eqb n 3) w a

-- the kinds from 00 to the last one
abbrev pub many_kinds : ℕ
many_kinds = 0x30

-- the types that a node of this rule can be of, as a set of bits (1 flag, 2 word, 4 level); none where the rule is of no node
unfoldable pub results_for : Rule → ℕ
results_for r = cond (eqb r.form 0) 0 (cond (eqb r.result 3) 7 (2 ^ r.result))

-- "A constant table by kind: body length, number of operands, operand and result types": the entries of a kind
unfoldable pub entries_of : ℕ → List ℕ
entries_of k = let r = rule_of k in r.body ∷ r.operands ∷ r.first ∷ results_for r ∷ []

-- the constant table has each kind's entries
abbrev pub Tabulated : List (List ℕ) → Type 0
Tabulated kinds = (k : ℕ) → k < many_kinds → get_or kinds k [] ≡ entries_of k
