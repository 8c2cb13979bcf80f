-- Each call's contract determines its answer, the store and the output (document 01, "What the contracts must exclude").
-- Assumes nothing.
use Rattle.std.proofs.Common.{Result, Ok, Err}
use Prim.Native.Nat.{ℕ, ◌≤◌}
use mathlib.Core.Path.{◌≡◌, refl, sym, ap, ◌∙◌}
use mathlib.Core.List.{List}
use native.Mathlib.Omega.{arith}
use Rattle.limits.specs.declared.Refusal.{Refusal}
use Rattle.limits.proofs.Faults.{number_some, fault_once}
use Rattle.monitor.specs.declared.Run.{Run}
use Rattle.monitor.specs.declared.Answer as code
use Rattle.monitor.specs.declared.Phase.{Phase}
use Rattle.monitor.specs.declared.Phase.TheVariants.{Reading, Draining, Over}
use Rattle.monitor.specs.declared.UnknownPhase.{UnknownPhase}
use Rattle.monitor.specs.Phases.{byte_of, IsPhase}
use Rattle.monitor.specs.Refusals.{Fault, told}
use Rattle.monitor.specs.Calls.{Answer, After, with_outcome, answered, open_call, row_call_of, close_call, drain_call_of, Leaves, Opens}

-- a refusal is what it tells
pub told_once : (e f : Refusal) → told e ≡ told f → e ≡ f
told_once e f h = λ i. record { fault = fault_once e.fault f.fault (ap (λ (x : Fault). x.number) h) i; place = (h i).place }

-- a record and an outcome are what they answer
outcome_once : (r q : Run) (x y : Result ℕ Refusal) → with_outcome r x ≡ with_outcome q y → (r ≡ q) × (x ≡ y)
outcome_once r q (Ok n) (Ok m) h = (ap (λ (a : Answer). a.run) h, ap (λ (a : Answer). Ok a.count) h)
outcome_once r q (Ok n) (Err f) h = absurd (number_some f.fault (sym (ap (λ (a : Answer). a.number) h)))
outcome_once r q (Err e) (Ok m) h = absurd (number_some e.fault (ap (λ (a : Answer). a.number) h))
outcome_once r q (Err e) (Err f) h = (ap (λ (a : Answer). a.run) h, ap Err (told_once e f (λ i. record { number = (h i).number; place = (h i).place })))

pub answered_once : (a b : code.Answer) → answered a ≡ answered b → a ≡ b
answered_once a b h = let p = outcome_once a.run b.run a.outcome b.outcome h in λ i. record { run = p.0 i; outcome = p.1 i }

-- a phase is what its byte says, and so is what a byte is as a phase
phase_same : (p q : Phase) → byte_of p ≡ byte_of q → p ≡ q
phase_same Reading Reading e = refl
phase_same Reading Draining e = absurd (omega arith)
phase_same Reading Over e = absurd (omega arith)
phase_same Draining Reading e = absurd (omega arith)
phase_same Draining Draining e = refl
phase_same Draining Over e = absurd (omega arith)
phase_same Over Reading e = absurd (omega arith)
phase_same Over Draining e = absurd (omega arith)
phase_same Over Over e = refl

at_most_over : (p : Phase) → byte_of p ≤ byte_of Over
at_most_over Reading = omega arith
at_most_over Draining = omega arith
at_most_over Over = omega arith

pub phase_once : (n : ℕ) (a b : Result Phase UnknownPhase) → IsPhase n a → IsPhase n b → a ≡ b
phase_once n (Ok p) (Ok q) x y = ap Ok (phase_same p q (x ∙ sym y))
phase_once n (Ok p) (Err e) x y = let h = at_most_over p in absurd (omega arith)
phase_once n (Err e) (Ok p) x y = let h = at_most_over p in absurd (omega arith)
phase_once n (Err d) (Err e) x y = λ i. Err (record { 0 = (x.0 ∙ sym y.0) i })

-- two results of a call that are one
pub record Same (a b : code.Answer) (st1 st2 out1 out2 : List ℕ) : Type 0 where
  pub answers : a ≡ b
  pub stores : st1 ≡ st2
  pub outputs : out1 ≡ out2

leaves_once : {x : After} (a b : code.Answer) {st1 st2 out1 out2 : List ℕ} → Leaves x (answered a) st1 out1 → Leaves x (answered b) st2 out2 → Same a b st1 st2 out1 out2
leaves_once a b u v =
    record { answers = answered_once a b (u.answer_is ∙ sym v.answer_is); stores = u.store_is ∙ sym v.store_is; outputs = u.output_is ∙ sym v.output_is }

module _ (s st : List ℕ) (a b : code.Answer) {st1 st2 : List ℕ} where
  pub open_determined : Opens (open_call s st) (answered a) st1 → Opens (open_call s st) (answered b) st2 → (a ≡ b) × (st1 ≡ st2)
  open_determined u v = (answered_once a b (u.answer_is ∙ sym v.answer_is), u.store_is ∙ sym v.store_is)

module _ (s : List ℕ) (r : Run) (a b : code.Answer) where
  pub close_determined : answered a ≡ (close_call s r).answer → answered b ≡ (close_call s r).answer → a ≡ b
  close_determined u v = answered_once a b (u ∙ sym v)

  module _ (st out : List ℕ) {st1 st2 out1 out2 : List ℕ} where
    pub row_determined : (ws : List ℕ) → Leaves (row_call_of s r ws st out) (answered a) st1 out1 → Leaves (row_call_of s r ws st out) (answered b) st2 out2 → Same a b st1 st2 out1 out2
    row_determined ws u v = leaves_once a b u v

    pub drain_determined : Leaves (drain_call_of s r st out) (answered a) st1 out1 → Leaves (drain_call_of s r st out) (answered b) st2 out2 → Same a b st1 st2 out1 out2
    drain_determined u v = leaves_once a b u v
