-- A choice whose second branch is computed only where it is taken. Assumes nothing.
use Rattle.std.specs.Prelude.{Bool, true, false}

-- the first where the test holds, and only otherwise the second
abbrev pub or_else : {A : Type 0} → Bool → A → (Unit {0} → A) → A
or_else true x f = x
or_else false x f = f tt
