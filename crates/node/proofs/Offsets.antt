-- An offset of 0, as the code tests it: of a signed number the test says that its bits are 0.
-- Assumes nothing.
use mathlib.Core.Path.{◌≡◌, refl}
use Prim.Native.Nat.{zero, suc}
use native.Mathlib.Omega.{arith}
use lib.IntN.{ℤ, pos, negsuc}
use mir.Syntax.{w8}
use mir.Val.{SFits, of_z}
use Rattle.limits.specs.Refusals.{wrong_field}
use Rattle.node.specs.Node.{zero_fault_of}

pub zero_offset : (k : ℤ) → SFits w8 k → of_z w8 k ≡ 0 → wrong_field ≡ zero_fault_of k
unfolding zero_fault_of
zero_offset (pos zero) f e = refl
zero_offset (pos (suc n)) f e = absurd (omega arith)
zero_offset (negsuc n) f e = absurd (omega (arith, f.sfits))

pub some_offset : (k : ℤ) → (of_z w8 k ≡ 0 → ⊥) → 0 ≡ zero_fault_of k
unfolding zero_fault_of
some_offset (pos zero) f = absurd (f refl)
some_offset (pos (suc n)) f = refl
some_offset (negsuc n) f = refl
