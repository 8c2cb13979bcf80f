-- What the scan answers: the scan of a table, or the refusal that the check announces.
-- Assumes nothing.
use Rattle.std.specs.Prelude.{◌≡◌, List, ℕ, Ok, Err}
use mathlib.Core.Path.{refl}
use Rattle.limits.specs.declared.Refusal.{Refusal}
use Rattle.table.specs.Table.{Decoded, decoded, refused, decode}
use Rattle.table.specs.Answers.{Scans}
use Rattle.table.specs.declared.Scan.{Scan}
use Rattle.announce.specs.Announced.{checked_as, announced}
use Rattle.announce.specs.Rows.{Scanned}

module _ (s : List ℕ) where
  taken_by : (d : Decoded) → decode s ≡ d → {c : Scan} → Scans d (Ok c) → Scanned s c
  taken_by (decoded t) e is = record { table = t; decodes = e; scan_is = is }
  taken_by (refused why at) e is = absurd is

  pub scan_taken : {c : Scan} → Scans (decode s) (Ok c) → Scanned s c
  scan_taken = taken_by (decode s) refl

  refused_by : (d : Decoded) → decode s ≡ d → (r : Refusal) → Scans d (Err r) → checked_as (Err r) ≡ announced s
  unfolding announced
  refused_by (decoded t) e r is = absurd is
  refused_by (refused why at) e r is = rw (e, is.0, is.1)

  pub scan_refused : (r : Refusal) → Scans (decode s) (Err r) → checked_as (Err r) ≡ announced s
  scan_refused = refused_by (decode s) refl
