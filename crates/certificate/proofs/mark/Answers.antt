-- `mark`: the bit that the code shifts is 2 ^ v, since v is below 32, or 0.
-- Assumes nothing.
use Prim.Native.Nat.{ℕ, ◌*◌, ◌<◌, ◌%◌, ◌^◌}
use mathlib.Core.Bool.{Bool, true, false}
use mathlib.Core.Path.{◌≡◌, ap, ◌∙◌}
use native.Mathlib.Omega.{arith}
use lib.Bits.{bit_or, or_zero_r}
use mir.Val.{bool_byte}
use Rattle.certificate.specs.Tally.{marked}
use Rattle.certificate.proofs.Mask.{one_is}
use Rattle.certificate.proofs.mark.Goals as goal

shifted : (set v : ℕ) (test : Bool) {b : ℕ} → v < 32 → b ≡ bool_byte test → bit_or set ((b * 2 ^ v) % 2 ^ 32) ≡ marked set v test
shifted set v true h e = rw e (ap (bit_or set) (one_is v h))
shifted set v false h e = rw e (ap (bit_or set) (omega arith) ∙ or_zero_r set)

pub returns : goal.returns
returns c = shifted c.args.set c.args.v c.args.test c.requires c.from.ensures
