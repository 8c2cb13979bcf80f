-- What n digits tell. Assumes nothing.
use Prim.Native.Nat.{◌-◌}
use Rattle.spell.proofs.Hex.{Hexes}
use Rattle.spell.proofs.hex_at.Given as goal

abbrev pub invariant-loop-n : goal.invariant-loop-n
invariant-loop-n l = Hexes l.text l.at l.what l.n (8 - l.n)
