use Rattle.std.proofs.Common.{◌≡◌}
use Rattle.std.specs.Io.KnownBytes.{Keeps}
use Rattle.glasspuddle.proofs.read_some.Given as goal

abbrev pub invariant-loop : goal.invariant-loop
invariant-loop g l =
    Keeps (g.I.Read.remaining l.initial.ends.input) (g.I.Read.remaining l.ends.input) × (l.ends.output ≡ l.initial.ends.output)
