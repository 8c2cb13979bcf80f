-- A text in quotation marks as its bytes: each character's code. Assumes nothing.
use Rattle.std.specs.Prelude.{ℕ, List, [], ◌∷◌}
use Prim.Native.Char.{code}
use Prim.Native.String.{String}
use Prim.Native.String as quoted

abbrev pub ascii : String → List ℕ
ascii quoted.[] = []
ascii (quoted.◌∷◌ c s) = code c ∷ ascii s
