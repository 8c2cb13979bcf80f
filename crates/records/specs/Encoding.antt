-- The bytes of the values given (document 01, "A run").
-- Assumes nothing.
use Rattle.std.specs.Prelude.{ℕ, Bool, cond, not, ◌&&◌, List, [], ◌∷◌, ◌++◌, eqb, get_or}
use Rattle.basis.specs.Given.{Given}
use Rattle.wire.specs.Bytes.{le4}
use Rattle.records.specs.Kinds.{kind_value, kind_trigger}

-- "each as record 50 (stream, position in 4 bytes, value word)"
abbrev pub value_record_of : ℕ → ℕ → ℕ → List ℕ
value_record_of y p w = kind_value ∷ y ∷ (le4 p ++ le4 w)

-- "record 51 (stream, position)"
abbrev pub trigger_record_of : ℕ → ℕ → List ℕ
trigger_record_of y p = kind_trigger ∷ y ∷ le4 p

-- "a trigger stream's true value": a trigger's role is 1, a true flag's word isn't 0
abbrev pub raised : (roles : List ℕ) → Given ℕ → Bool
raised roles g = eqb (get_or roles g.stream 0) 1 && not (eqb g.word 0)

-- "a trigger stream's true value is followed by record 51"
unfoldable pub record_of : (roles : List ℕ) → Given ℕ → List ℕ
record_of roles g = value_record_of g.stream g.position g.word ++ cond (raised roles g) (trigger_record_of g.stream g.position) []

unfoldable pub encode : (roles : List ℕ) → List (Given ℕ) → List ℕ
encode roles [] = []
encode roles (g ∷ gs) = record_of roles g ++ encode roles gs
