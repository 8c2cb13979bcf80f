use Rattle.std.proofs.Common.{◌≤◌, length, take}
use Rattle.std.specs.Io.KnownBytes.{Appends}
use Rattle.glasspuddle.proofs.put.Given as goal

abbrev pub invariant-loop : goal.invariant-loop
invariant-loop g l = (l.done ≤ length l.text) × Appends (g.O.Write.contents l.initial.to) (g.O.Write.contents l.to) (take l.done l.text)
