-- What the digits so far tell. Assumes nothing.
use Rattle.spell.proofs.Numbers.{Digits}
use Rattle.spell.proofs.number_at.Given as goal

abbrev pub invariant-loop-i : goal.invariant-loop-i
invariant-loop-i l = Digits l.least l.most l.text l.at l.what l.i
