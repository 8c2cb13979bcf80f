-- The constant table is determined by what `kind_table` promises of it. Assumes nothing.
use mathlib.Core.Path.{◌≡◌, sym, ◌∙◌}
use mathlib.Core.List.{List, []}
use Prim.Native.Nat.{ℕ, ◌<◌}
use native.Mathlib.Omega.{arith}
use lib.ListN.{length}
use lib.Seq.{ext_get_or}
use Rattle.node.specs.Kinds.{many_kinds, Tabulated}

-- the lengths are those of the array's type
pub tabulated_once : {a b : List (List ℕ)} → length a ≡ many_kinds → length b ≡ many_kinds → Tabulated a → Tabulated b → a ≡ b
tabulated_once {a} {b} p q f g = ext_get_or [] a b (p ∙ sym q) (λ k l. let h : k < many_kinds = omega arith in f k h ∙ sym (g k h))
