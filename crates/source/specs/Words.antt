-- The words of a table's text, each once (request C-12). "Operators carry 01's names and operand counts, with the operand type after a dot
-- where a name occurs for several types." Assumes nothing.
use Rattle.std.specs.Prelude.{ℕ, List, [], ◌∷◌, ◌++◌, get_or}
use Rattle.shapes.specs.Ascii.{ascii}

-- the bytes behind and between: `)`, `,`, a blank, and "each ended by byte 0A"
abbrev pub close : ℕ
close = 0x29

abbrev pub comma : ℕ
comma = 0x2C

abbrev pub blank : ℕ
blank = 0x20

abbrev pub line_end_of : ℕ
line_end_of = 0x0A

-- the names of the nodes, with their brackets, so that no name begins another; in the order of their kinds, 10 to 14
abbrev pub flag_name : List ℕ
flag_name = ascii "flag("

abbrev pub word_name : List ℕ
word_name = ascii "word("

abbrev pub level_name : List ℕ
level_name = ascii "level("

abbrev pub now_name : List ℕ
now_name = ascii "now("

abbrev pub at_name : List ℕ
at_name = ascii "at("

-- and 20 to 2F
abbrev pub not_name : List ℕ
not_name = ascii "not("

abbrev pub and_name : List ℕ
and_name = ascii "and("

abbrev pub or_name : List ℕ
or_name = ascii "or("

abbrev pub if_name : List ℕ
if_name = ascii "if("

abbrev pub add_word_name : List ℕ
add_word_name = ascii "add.word("

abbrev pub sub_word_name : List ℕ
sub_word_name = ascii "sub.word("

abbrev pub ahead_name : List ℕ
ahead_name = ascii "ahead("

abbrev pub less_word_name : List ℕ
less_word_name = ascii "less.word("

abbrev pub equal_word_name : List ℕ
equal_word_name = ascii "equal.word("

abbrev pub equal_flag_name : List ℕ
equal_flag_name = ascii "equal.flag("

abbrev pub equal_level_name : List ℕ
equal_level_name = ascii "equal.level("

abbrev pub add_level_name : List ℕ
add_level_name = ascii "add.level("

abbrev pub sub_level_name : List ℕ
sub_level_name = ascii "sub.level("

abbrev pub mul_name : List ℕ
mul_name = ascii "mul("

abbrev pub div_name : List ℕ
div_name = ascii "div("

abbrev pub less_level_name : List ℕ
less_level_name = ascii "less.level("

-- the types, with the byte behind
abbrev pub flag_type : ℕ → List ℕ
flag_type stop = ascii "flag" ++ (stop ∷ [])

abbrev pub word_type : ℕ → List ℕ
word_type stop = ascii "word" ++ (stop ∷ [])

abbrev pub level_type : ℕ → List ℕ
level_type stop = ascii "level" ++ (stop ∷ [])

abbrev pub type_names : ℕ → List (List ℕ)
type_names stop = flag_type stop ∷ word_type stop ∷ level_type stop ∷ []

-- the roles, which end their lines
abbrev pub plain_role : List ℕ
plain_role = ascii "plain\n"

abbrev pub trigger_role : List ℕ
trigger_role = ascii "trigger\n"

abbrev pub role_names : List (List ℕ)
role_names = plain_role ∷ trigger_role ∷ []

-- what the lines begin with
abbrev pub table_word : List ℕ
table_word = ascii "table "

abbrev pub in_word : List ℕ
in_word = ascii "in "

abbrev pub out_word : List ℕ
out_word = ascii "out "

abbrev pub eq_word : List ℕ
eq_word = ascii "eq "

-- all of them, by rows, as the code has them in one table
abbrev pub words : List (List ℕ)
words =
    flag_name
    ∷ word_name
    ∷ level_name
    ∷ now_name
    ∷ at_name
    ∷ not_name
    ∷ and_name
    ∷ or_name
    ∷ if_name
    ∷ add_word_name
    ∷ sub_word_name
    ∷ ahead_name
    ∷ less_word_name
    ∷ equal_word_name
    ∷ equal_flag_name
    ∷ equal_level_name
    ∷ add_level_name
    ∷ sub_level_name
    ∷ mul_name
    ∷ div_name
    ∷ less_level_name
    ∷ (type_names line_end_of ++ (type_names blank ++ (role_names ++ (table_word ∷ in_word ∷ out_word ∷ eq_word ∷ []))))

abbrev pub many_words : ℕ
many_words = 33

-- where the rows of each sort begin
abbrev pub operator_row : ℕ
operator_row = 5

abbrev pub type_row : ℕ
type_row = 21

-- a type with a blank behind it, where a role follows
abbrev pub sort_row_of : ℕ
sort_row_of = 24

abbrev pub role_row_of : ℕ
role_row_of = 27

abbrev pub table_row : ℕ
table_row = 29

abbrev pub in_row : ℕ
in_row = 30

abbrev pub out_row : ℕ
out_row = 31

abbrev pub eq_row : ℕ
eq_row = 32

abbrev pub word_of : ℕ → List ℕ
word_of r = get_or words r []
