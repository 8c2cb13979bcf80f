-- `scan_constant`: a flag above 1, another type, or neither.
-- Assumes nothing.
use mathlib.Core.Path.{◌∙◌}
use Rattle.expression.proofs.Noting.{small_flag, constant_word, constant_type, constant_fine}
use Rattle.expression.proofs.scan_constant.Goals as goal

pub returns-then-word-gt1 : goal.returns-then-word-gt1
returns-then-word-gt1 c = λ ts. c.refused.ensures ∙ constant_word ts _ _ _ _ _ c.if-t-eq-FLAG.true c.if-word-gt1.true

pub returns-then-t-wanted : goal.returns-then-t-wanted
returns-then-t-wanted c = λ ts. c.refused-then-t-wanted.ensures ∙ constant_type ts _ _ _ _ _ (small_flag c.else-t-eq-FLAG.either) c.if-t-wanted.true

pub returns : goal.returns
returns c = λ ts. c.behind.ensures ∙ constant_fine ts _ _ _ _ _ (small_flag c.else-t-eq-FLAG.either) c.if-t-wanted.false
