-- The code's test of a phase is that of the definitions. Assumes nothing.
use mathlib.Core.Path.{◌≡◌, refl}
use denote.Enum.Bare.{sameb}
use Rattle.monitor.specs.declared.Phase.{Phase}
use Rattle.monitor.specs.declared.Phase.TheVariants.{Reading, Draining, Over}
use Rattle.monitor.specs.contracts.Phase.{the_type}
use Rattle.monitor.specs.Refusals.{is_draining_of}

pub draining_test : (p : Phase) → sameb the_type p Draining ≡ is_draining_of p
unfolding is_draining_of
draining_test Reading = refl
draining_test Draining = refl
draining_test Over = refl
