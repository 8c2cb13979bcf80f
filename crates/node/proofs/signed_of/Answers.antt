-- `table::signed_of` meets its contract: antt computes what the code makes of each byte.
-- Assumes nothing.
use borrow.Author.Rules.{rules}
use mathlib.Core.Path.{◌≡◌, refl}
use Prim.Native.Nat.{ℕ, ◌-◌, ◌<◌, ◌≤◌}
use lib.IntN.{ℤ, pos, ◌-ℤ◌}
use mir.Syntax.{w8}
use mir.Val.{to_z, of_z}
use native.Mathlib.Omega.{arith}
use Rattle.node.proofs.Tabulated.{same_on}
use Rattle.node.specs.Node.{signed_of}
use Rattle.node.proofs.signed_of.Goals as goal

abbrev minus : ℕ → ℤ
minus b = pos 0 -ℤ to_z w8 (255 - b)

abbrev less : ℕ → ℤ
less b = to_z w8 (of_z w8 (minus b)) -ℤ pos 1

low : (b : ℕ) → b < 128 → to_z w8 b ≡ signed_of b
unfolding signed_of
low b h = same_on (λ b. to_z w8 b) signed_of 128 0 b (pos 0) refl (omega arith) h

high : (b : ℕ) → 128 ≤ b → b < 256 → to_z w8 (of_z w8 (less b)) ≡ signed_of b
unfolding signed_of
high b h g = same_on (λ b. to_z w8 (of_z w8 (less b))) signed_of 128 128 b (pos 0) refl h g

pub returns-then-b-lt128 : goal.returns-then-b-lt128
returns-then-b-lt128 c = low _ c.if-b-lt128.true

pub returns-else-b-lt128 : goal.returns-else-b-lt128
returns-else-b-lt128 c = high _ c.if-b-lt128.false (search rules)
