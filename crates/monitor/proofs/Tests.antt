-- The test of a row's words, one input after the other.
-- Assumes nothing.
use Prim.Native.Nat.{ℕ, suc, ◌+◌, ◌-◌, ◌<◌, ◌≤◌}
use mathlib.Core.Path.{◌≡◌}
use mathlib.Core.Bool.{cond, ◌&&◌}
use mathlib.Core.List.{List}
use native.Mathlib.Omega.{arith}
use native.Mathlib.Numerals.{add-one}
use lib.Dec.{ltb, eqb}
use lib.ListN.{get_or}
use Rattle.prepare.specs.PlanFor.{first_bad_of}

pub one_input : (types ws : List ℕ) (n i : ℕ) → i < n → first_bad_of types ws (n - i) i ≡ cond (eqb (get_or types i 0) 0 && ltb 1 (get_or ws i 0)) i (first_bad_of types ws (n - (i + 1)) (i + 1))
unfolding first_bad_of
one_input types ws n i h = let e : n - i ≡ suc (n - suc i) = omega arith in rw (e, add-one)

pub none_bad : (types ws : List ℕ) (n i : ℕ) → n ≤ i → first_bad_of types ws (n - i) i ≡ i
unfolding first_bad_of
none_bad types ws n i h = let e : n - i ≡ 0 = omega arith in rw e
