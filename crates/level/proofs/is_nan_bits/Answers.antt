-- `level::is_nan_bits` meets its contract: each side of the `&&` is the law `by_fields` at what the test found.
-- Assumes nothing.
use Rattle.std.proofs.Common.{arith}
use Rattle.std.proofs.lemmas.Bool.Decides.{nat_tests}
use Rattle.level.proofs.Bits.{by_fields}
use Rattle.level.proofs.is_nan_bits.Goals as goal

pub returns-then-exponent-eq255 : goal.returns-then-exponent-eq255
returns-then-exponent-eq255 c = grind (arith, nat_tests, by_fields c.args.w)

pub returns-else-exponent-eq255 : goal.returns-else-exponent-eq255
returns-else-exponent-eq255 c = grind (arith, nat_tests, by_fields c.args.w)
