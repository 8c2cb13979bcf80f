-- What the check of a table answers is determined by what the contract says of it. Assumes nothing.
use Prim.Native.Nat.{ℕ}
use mathlib.Core.Path.{◌≡◌, sym, ap, ◌∙◌}
use mathlib.Core.List.{List}
use Rattle.std.specs.Prelude.{Result, Ok, Err}
use Rattle.limits.specs.declared.Refusal.{Refusal}
use Rattle.limits.proofs.Faults.{number_some, fault_once}
use Rattle.announce.specs.declared.Checked.{Checked}
use Rattle.announce.specs.declared.Announced.{Announced}
use Rattle.announce.specs.Announced.{announced, checked_as}
use Rattle.announce.specs.Conditions.{Answers}
use Rattle.announce.proofs.Acceptance.{answers_one}

-- a result is what document 01's numbers say of it: a refusal's number is never 0, and no two faults have the same
pub checked_once : (a b : Result Announced Refusal) → checked_as a ≡ checked_as b → a ≡ b
checked_once (Ok x) (Ok y) h = ap Ok (λ d. record { look = (h d).look; kept = (h d).kept; words = (h d).words; room = (h d).room; closing = (h d).closing })
checked_once (Ok x) (Err f) h = absurd (number_some f.fault (sym (ap (λ (c : Checked). c.number) h)))
checked_once (Err e) (Ok y) h = absurd (number_some e.fault (ap (λ (c : Checked). c.number) h))
checked_once (Err e) (Err f) h = ap Err (λ d. record { fault = fault_once e.fault f.fault (ap (λ (c : Checked). c.number) h) d; place = (h d).place })

-- `check_table`, by each half of its contract
pub check_table_once : (s : List ℕ) {a b : Result Announced Refusal} → checked_as a ≡ announced s → checked_as b ≡ announced s → a ≡ b
check_table_once s {a} {b} p q = checked_once a b (p ∙ sym q)

pub allowed_once : (s : List ℕ) {a b : Result Announced Refusal} → Answers s (checked_as a) → Answers s (checked_as b) → a ≡ b
allowed_once s {a} {b} p q = checked_once a b (answers_one s (checked_as a) (checked_as b) p q)
