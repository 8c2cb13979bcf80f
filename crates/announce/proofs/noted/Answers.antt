-- `noted`: an array whose entries are those of the column is the column.
-- Assumes nothing.
use Rattle.std.proofs.Common.{◌≡◌, ℕ, ◌<◌, List, length, get_or, sym, ◌∙◌, arith}
use lib.Seq.{ext_get_or}
use Rattle.limits.specs.Limits.{most_streams}
use Rattle.basis.specs.Rows.{entry, column}
use Rattle.basis.proofs.Rows.{column_at, column_long}
use Rattle.announce.proofs.noted.Goals as goal

whole : (i : ℕ) (rows : List (List ℕ)) (out : List ℕ) → length rows ≡ most_streams → length out ≡ most_streams → ((u : ℕ) → u < most_streams → get_or out u 0 ≡ entry rows u i) → out ≡ column i rows
whole i rows out p q h = ext_get_or 0 out (column i rows) (q ∙ sym (column_long i rows ∙ p)) (λ u l. h u (omega arith) ∙ sym (column_at i rows u))

pub returns : goal.returns
returns c = whole c.args.i c.args.seen.now c.loop-v.out c.told-seen c.loop-v.invariant.0 (λ u h. c.loop-v.invariant.1 u (omega arith))
