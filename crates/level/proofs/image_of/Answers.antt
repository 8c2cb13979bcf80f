-- `level::image_of` meets its contract: there is one NaN, and this is its image.
-- Assumes nothing.
use Rattle.std.proofs.Common.{sym, ◌∙◌}
use Rattle.level.proofs.Bits.{image_of_nan}
use Rattle.level.proofs.image_of.Goals as goal

pub returns-then-is_nan : goal.returns-then-is_nan
returns-then-is_nan c = sym (image_of_nan _ (sym c.is_nan.ensures.value ∙ c.if-is_nan.true))
