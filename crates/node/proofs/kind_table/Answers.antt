-- `kind_table`: a test over the whole table. antt computes the entries of every kind, and they are the constant's.
-- Assumes nothing.
use mathlib.Core.Path.{◌≡◌, refl, ap, ◌∙◌}
use mathlib.Core.List.{List, []}
use Prim.Native.Nat.{ℕ}
use native.Mathlib.Omega.{arith}
use lib.ListN.{get_or}
use Rattle.node.specs.Kinds.{rows, look, rule_of, results_for, entries_of, many_kinds, Tabulated}
use Rattle.node.proofs.Tabulated.{from, from_to}
use Rattle.node.proofs.kind_table.Goals as goal

tabulated : (kinds : List (List ℕ)) → kinds ≡ from entries_of 0 many_kinds → Tabulated kinds
tabulated kinds e k h = ap (λ (l : List (List ℕ)). get_or l k []) e ∙ from_to entries_of many_kinds 0 k k [] h (omega arith)

pub returns : goal.returns
unfolding rows look rule_of results_for entries_of
returns c = tabulated _ refl
