-- `level::level_of` meets its contract: a NaN pattern reads as the one NaN.
-- Assumes nothing.
use Rattle.std.proofs.Common.{sym, ◌∙◌}
use Rattle.level.proofs.Bits.{nan_read, reads_nan}
use Rattle.level.proofs.level_of.Goals as goal

pub returns-then-is_nan_bits : goal.returns-then-is_nan_bits
returns-then-is_nan_bits c = nan_read ∙ sym (reads_nan _ (sym c.is_nan_bits.ensures ∙ c.if-is_nan_bits.true))
