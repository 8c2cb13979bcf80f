-- No byte, no text. Assumes nothing.
use mathlib.Core.Path.{refl}
use native.Mathlib.Omega.{arith}
use Rattle.feed.proofs.Heads.{head_empty}
use Rattle.feed.proofs.begin.Goals as goal

pub returns : goal.returns
returns c = λ table store part l. record { read_is = refl; lent = l; at = record { short = omega arith; undecided = head_empty _ refl; held = refl; counted = refl; silent = refl } }
