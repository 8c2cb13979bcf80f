-- The phase as a byte, and the byte as a phase.
-- Assumes nothing.
use Prim.Native.Nat.{ℕ, zero, suc, ◌≤◌}
use mathlib.Core.Path.{◌≡◌, refl, sym, ap, ◌∙◌}
use mathlib.Core.Bool.{false}
use native.Mathlib.Omega.{arith}
use lib.Dec.{ltb}
use borrow.Author.Tests.{ltb-false}
use Rattle.monitor.specs.declared.Phase.{Phase}
use Rattle.monitor.specs.declared.Phase.TheVariants.{Reading, Draining, Over}
use Rattle.monitor.specs.Phases.{byte_of}
use Rattle.dock.specs.declared.Record.{Record}
use Rattle.dock.specs.Lent.{over_byte, phase_for, run_of}

-- the byte of a phase is that phase
pub phase_of_number : (p : Phase) → phase_for (byte_of p) ≡ p
unfolding phase_for
phase_of_number Reading = refl
phase_of_number Draining = refl
phase_of_number Over = refl

-- and a byte that is a phase is that phase's byte
pub number_of_phase : (n : ℕ) → n ≤ over_byte → byte_of (phase_for n) ≡ n
unfolding phase_for
number_of_phase zero h = refl
number_of_phase (suc zero) h = refl
number_of_phase (suc (suc zero)) h = refl
number_of_phase (suc (suc (suc n))) h = absurd (omega arith)

-- a phase's byte is no strange one
pub is_phase : (p : Phase) → ltb over_byte (byte_of p) ≡ false
is_phase Reading = refl
is_phase Draining = refl
is_phase Over = refl

-- so a record whose byte is that of a phase is a run's
module _ (d : Record) (p : Phase) (e : byte_of p ≡ d.phase) where
  pub run_known : (d.phase ≤ over_byte) × (record { look = d.look; kept = d.kept; rows = d.rows; phase = p; done = d.done } ≡ run_of d)
  run_known = (
    rw (← e) (ltb-false _ _ (is_phase p)),
    ap (λ (q : Phase). record { look = d.look; kept = d.kept; rows = d.rows; phase = q; done = d.done }) (sym (phase_of_number p) ∙ ap phase_for e),
  )
