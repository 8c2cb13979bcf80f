-- The phases by the bytes that C has for them. Assumes nothing.
use Rattle.std.specs.Prelude.{ℕ, ◌≡◌, ◌<◌, Result, MatchResult}
use Rattle.monitor.specs.declared.Phase.{Phase}
use Rattle.monitor.specs.declared.Phase.TheVariants.{Reading, Draining, Over}
use Rattle.monitor.specs.declared.UnknownPhase.{UnknownPhase}

abbrev pub byte_of : Phase → ℕ
byte_of Reading = 0
byte_of Draining = 1
byte_of Over = 2

-- what a byte is as a phase: the one with this byte; "no byte above the last one is a phase"
abbrev pub IsPhase : ℕ → Result Phase UnknownPhase → Type 0
IsPhase byte r = MatchResult r (λ p. byte_of p ≡ byte) (λ e. (e.0 ≡ byte) × (byte_of Over < byte))

-- what a phase is as a byte
abbrev pub HasByte : Phase → ℕ → Type 0
HasByte p byte = byte ≡ byte_of p
