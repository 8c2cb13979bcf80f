-- Store words past the announced number change no answer.
-- Assumes nothing.
use Prim.Native.Nat.{ℕ, ◌+◌, ◌≤◌}
use mathlib.Core.Path.{◌≡◌, refl, sym, ap, ◌∙◌, subst}
use mathlib.Core.Bool.{Bool, true, false, not, cond}
use mathlib.Core.List.{List, [], ◌∷◌, map}
use borrow.Author.Tests.{eqb-true, le-ltb}
use lib.Dec.{eqb}
use lib.ListN.{length}
use Rattle.announce.specs.Announced.{announced}
use Rattle.run.specs.Run as run
use Rattle.run.specs.Run.{Call, Rec, words, turn, store_after, Alike}
use Rattle.run.proofs.Unread as theory
use Rattle.meaning.specs.Plans.{FitsIn}
use Rattle.output.specs.Encoding.{overwritten}
use Rattle.prepare.specs.PlanFor.{plan_for}
use Rattle.prepare.proofs.Accepted.{plan_words, plan_announced}
use Rattle.monitor.specs.declared.Phase.{Phase}
use Rattle.monitor.specs.declared.Phase.TheVariants.{Reading, Draining, Over}
use Rattle.monitor.specs.declared.Run.{Run}
use Rattle.monitor.specs.Refusals.{Fault}
use Rattle.monitor.specs.Turns.{bytes_on}
use Rattle.monitor.specs.Refusals.{refuse_if, after_table, open_fault, row_fault_of, row_refusal, drain_fault_of, drain_refusal}
use Rattle.monitor.specs.Calls.{After, acceptance, accepted_with, refusal, zero_run, open_call, row_call_of, drain_call_of}
use Rattle.demands.specs.Runs.{phase_for, rec_of, bytes_given_of}
use Rattle.demands.specs.Ran.{Ran}
use Rattle.demands.specs.Succession.{Brought, opening, row, closing, draining, call_on, answers_on, store_on}
use Rattle.demands.specs.Demands.{SameWords, Unread}
use Rattle.demands.proofs.Running.{follows}

-- ---- one call

-- the store's length asks no more than that it is as long as announced
open_fault_same : (s : List ℕ) (a b : ℕ) → (announced s).words ≤ a → (announced s).words ≤ b → open_fault s a ≡ open_fault s b
unfolding open_fault
open_fault_same s a b p q = rw (le-ltb _ _ p, le-ltb _ _ q)

row_fault_same : (s : List ℕ) (r : Run) (a b : ℕ) (ws : List ℕ) (space : ℕ) → (announced s).words ≤ a → (announced s).words ≤ b → row_fault_of s r a ws space ≡ row_fault_of s r b ws space
unfolding row_refusal
row_fault_same s r a b ws space p q = rw (le-ltb _ _ p, le-ltb _ _ q)

drain_fault_same : (s : List ℕ) (r : Run) (a b space : ℕ) → (announced s).words ≤ a → (announced s).words ≤ b → drain_fault_of s r a space ≡ drain_fault_of s r b space
unfolding drain_refusal
drain_fault_same s r a b space p q = rw (le-ltb _ _ p, le-ltb _ _ q)

module _ (s : List ℕ) where
  -- what passes every test has passed the table's
  passed_table : (f : Fault) → (after_table s f).number ≡ 0 → (announced s).number ≡ 0
  unfolding after_table
  passed_table f = go (eqb (announced s).number 0) refl
    where
      go : (b : Bool) → eqb (announced s).number 0 ≡ b → (refuse_if (not b) (announced s).number (announced s).place f).number ≡ 0 → (announced s).number ≡ 0
      go true e h = eqb-true _ _ e
      go false e h = h

  -- the same answer and output, and stores with the same announced words
  abbrev Same : After → After → Type 0
  Same x y = (x.answer ≡ y.answer) × (x.output ≡ y.output) × SameWords s x.store y.store

  module _ (st st' : List ℕ) (w : SameWords s st st') where
    same_by : (f g : Fault) (r next : Run) (out a b u v : List ℕ) → f ≡ g → (f.number ≡ 0 → (u ≡ v) × SameWords s a b)
        → Same (cond (eqb f.number 0) (acceptance next a u out) (refusal r f st out)) (cond (eqb g.number 0) (acceptance next b v out) (refusal r g st' out))
    same_by f g r next out a b u v e h = rw (← e) (go (eqb f.number 0) refl)
      where
        go : (c : Bool) → eqb f.number 0 ≡ c → Same (cond c (acceptance next a u out) (refusal r f st out)) (cond c (acceptance next b v out) (refusal r f st' out))
        go true q = let x = h (eqb-true _ _ q) in (ap (λ (l : List ℕ). accepted_with next (length l)) x.0, ap (λ (l : List ℕ). overwritten l out) x.0, x.1)
        go false q = (refl, refl, w)

    turn_same : (n t : ℕ) (ws : List ℕ) → (announced s).number ≡ 0 → (bytes_on s n t ws st ≡ bytes_on s n t ws st') × SameWords s (store_after (plan_for s) n t ws st) (store_after (plan_for s) n t ws st')
    unfolding bytes_on turn
    turn_same n t ws a =
        let p = plan_announced s a in
        let e = plan_words s a in
        let x = theory.turn_same (plan_for s) p.rank (FitsIn p.types) p.is st st' (subst (λ (k : ℕ). Alike k st st') (sym e) w) n t ws (record { rows = 0; phase = run.reading; done = 0 }) in
        (ap (bytes_given_of s) x.0, subst (λ (k : ℕ). Alike k (store_after (plan_for s) n t ws st) (store_after (plan_for s) n t ws st')) e x.1)

    call_same : (k : Brought) → Same (call_on s k st) (call_on s k st')
    unfolding open_call row_call_of drain_call_of
    call_same opening =
        same_by (open_fault s (length st)) (open_fault s (length st')) zero_run _ [] _ _ [] [] (open_fault_same s (length st) (length st') w.long w.long')
        (λ _. (refl, theory.zeroed_alike (announced s).words 0 st st'))
    call_same (row r ws out) =
        same_by (row_fault_of s r (length st) ws (length out)) (row_fault_of s r (length st') ws (length out)) r _ out _ _ _ _ (row_fault_same s r (length st) (length st') ws (length out) w.long w.long')
        (λ e. turn_same (r.rows + 1) r.rows ws (passed_table _ e))
    call_same (closing r) = (refl, refl, w)
    call_same (draining r out) =
        same_by (drain_fault_of s r (length st) (length out)) (drain_fault_of s r (length st') (length out)) r _ out _ _ _ _ (drain_fault_same s r (length st) (length st') (length out) w.long w.long')
        (λ e. turn_same r.rows (r.rows + r.done) [] (passed_table _ e))

  -- ---- all calls

  throughout : (ks : List Brought) (st st' : List ℕ) → SameWords s st st' → (answers_on s ks st ≡ answers_on s ks st') × SameWords s (store_on s ks st) (store_on s ks st')
  unfolding answers_on store_on
  throughout [] st st' w = (refl, w)
  throughout (k ∷ ks) st st' w =
      let x = call_same st st' w k in
      let y = throughout ks (call_on s k st).store (call_on s k st').store x.2 in
      (λ i. (x.0 i, x.1 i) ∷ y.0 i, y.1)

-- ---- two runs

phase_back : run.Phase → Phase
phase_back run.reading = Reading
phase_back run.draining = Draining
phase_back run.over = Over

back_same : (p : Phase) → phase_back (phase_for p) ≡ p
unfolding phase_for phase_back
back_same Reading = refl
back_same Draining = refl
back_same Over = refl

phase_same : (p q : Phase) → phase_for p ≡ phase_for q → p ≡ q
phase_same p q e = sym (back_same p) ∙ ap phase_back e ∙ back_same q

-- the same numbers, and of the record what changes in a run the same
record_same : {r r' : Run} → r.look ≡ r'.look → r.kept ≡ r'.kept → rec_of r ≡ rec_of r' → r ≡ r'
unfolding rec_of
record_same {r} {r'} l k e =
    λ i. record { look = l i; kept = k i; rows = ap (λ (c : Rec). c.rows) e i; phase = phase_same r.phase r'.phase (ap (λ (c : Rec). c.phase) e) i; done = ap (λ (c : Rec). c.done) e i }

module _ (s st₀ st₁ : List ℕ) {ks : List (Call ℕ)} {r r' : Run} {st st' : List ℕ} {log log' : List (List ℕ)} (x : Ran s st₀ ks r st log) (x' : Ran s st₁ ks r' st' log') where
  runs_same : (r ≡ r') × (log ≡ log') × SameWords s st st'
  runs_same =
      let f = follows s st₀ x in
      let g = follows s st₁ x' in
      let a = f.numbered.accepted in
      let p = plan_announced s a in
      let z = theory.two_runs (plan_for s) p.rank (FitsIn p.types) p.is f.theory g.theory in (
        record_same (f.numbered.look_is ∙ sym g.numbered.look_is) (f.numbered.kept_is ∙ sym g.numbered.kept_is) z.record_same,
        f.bytes_are ∙ ap (map (bytes_given_of s)) z.given_same ∙ sym g.bytes_are,
        subst (λ (k : ℕ). Alike k st st') (plan_words s a) z.stores,
      )

pub unread : (s : List ℕ) → Unread s
unread s = record { same_throughout = throughout s; two_runs = runs_same s }
