-- A run of the code is a run of the theory, and so demand 3 holds of it.
-- Assumes nothing.
use Prim.Native.Nat.{ℕ, ◌≤◌}
use mathlib.Core.Path.{◌≡◌, refl, sym, ap, ◌∙◌}
use mathlib.Core.Bool.{Bool, true, false, cond, not}
use mathlib.Core.List.{List, [], ◌∷◌, ◌++◌, map, append-nil}
use native.Mathlib.Omega.{arith}
use borrow.Author.Tests.{eq-eqb, eqb-true, eqb-false, ltb-false}
use lib.Dec.{eqb, ltb}
use lib.ListN.{length, take, drop}
use lib.Seq.{take-append_seam}
use Rattle.value.specs.declared.Value.{Value}
use Rattle.run.specs.Run as run
use Rattle.basis.specs.Given.{Given}
use Rattle.run.specs.Run.{Rec, Call, words, answer, Lent}
use Rattle.run.proofs.Calls.{lent_same}
use Rattle.run.proofs.Demands.{demand3}
use Rattle.meaning.specs.Plans.{FitsIn}
use Rattle.output.specs.Encoding.{Emitted}
use Rattle.announce.specs.Announced.{announced}
use Rattle.prepare.specs.PlanFor.{plan_for}
use Rattle.prepare.proofs.Accepted.{plan_words, plan_announced}
use Rattle.monitor.specs.declared.Run.{Run}
use Rattle.monitor.specs.Refusals.{Fault}
use Rattle.monitor.specs.Calls.{Answer}
use Rattle.monitor.specs.Refusals.{fine, refuse_if, after_table, open_fault}
use Rattle.monitor.specs.Calls.{After, refusal, acceptance, zero_run, open_call}
use Rattle.demands.specs.Runs.{rec_of, Numbered, bytes_given_of}
use Rattle.demands.specs.Ran.{Ran, opened, row, closed, drained, refused_open, refused_row, refused_drain, refused_close, CodeMeets}
use Rattle.demands.specs.Demands.{Untouched}
use Rattle.demands.proofs.Refusing.{refusals}
use Rattle.demands.proofs.Answering.{row_is, drain_is, close_is, open_is}

-- ---- refused calls leave the store

module _ {y : After} {a : Answer} {r : Run} {st lent left after out : List ℕ} where
  refused_leaves : Lent st lent left after → a ≡ y.answer → left ≡ y.store → (a.number ≡ 0 → ⊥) → ((y.answer.number ≡ 0 → ⊥) → Untouched y r lent out) → after ≡ st
  refused_leaves l e f n h = lent_same l (f ∙ (h (λ q. n (ap (λ (z : Answer). z.number) e ∙ q))).store_is)

-- ---- an accepted opening

opening_by : (s : List ℕ) (lent : ℕ) (b d : Bool) → eqb (announced s).number 0 ≡ b → ltb lent (announced s).words ≡ d
    → (refuse_if (not b) (announced s).number (announced s).place (refuse_if d 11 0 fine)).number ≡ 0 → ((announced s).number ≡ 0) × ((announced s).words ≤ lent)
opening_by s lent true false p q h = (eqb-true _ _ p, ltb-false _ _ q)
opening_by s lent true true p q h = absurd (omega (arith, h))
opening_by s lent false d p q h = absurd (eqb-false _ _ p h)

opening_fault : (s : List ℕ) (lent : ℕ) → (open_fault s lent).number ≡ 0 → ((announced s).number ≡ 0) × ((announced s).words ≤ lent)
unfolding open_fault after_table
opening_fault s lent h = opening_by s lent _ _ refl refl h

accepted_fault : (f : Fault) (next : Run) (st st1 : List ℕ) (b : Bool) → eqb f.number 0 ≡ b → (cond b (acceptance next st1 [] []) (refusal zero_run f st [])).answer.number ≡ 0 → f.number ≡ 0
accepted_fault f next st st1 true e h = eqb-true _ _ e
accepted_fault f next st st1 false e h = h

opening_accepted : (s st : List ℕ) → (open_call s st).answer.number ≡ 0 → ((announced s).number ≡ 0) × ((announced s).words ≤ length st)
unfolding open_call
opening_accepted s st h = opening_fault s (length st) (accepted_fault (open_fault s (length st)) _ st _ _ refl h)

-- ---- the bytes of a turn

turn_bytes : {bytes out out1 : List ℕ} {count : ℕ} → Emitted bytes out out1 count → take count out1 ≡ bytes
turn_bytes {bytes} {out} {out1} {count} e = rw (e.counted, e.written) (take-append_seam bytes (drop (length bytes) out))

map_more : (s : List ℕ) (gs : List (List (Given Value))) (g : List (Given Value)) → map (bytes_given_of s) (gs ++ (g ∷ [])) ≡ map (bytes_given_of s) gs ++ (bytes_given_of s g ∷ [])
map_more s [] g = refl
map_more s (h ∷ gs) g = ap (λ (l : List (List ℕ)). bytes_given_of s h ∷ l) (map_more s gs g)

-- ---- the theory's run

pub record Follows (s st₀ : List ℕ) (ks : List (Call ℕ)) (r : Run) (st : List ℕ) (log : List (List ℕ)) : Type 0 where
  pub given : List (List (Given Value))
  pub bytes_are : log ≡ map (bytes_given_of s) given
  pub theory : run.Run (plan_for s) st₀ ks (rec_of r) st given
  pub numbered : Numbered s r

module _ (s st₀ : List ℕ) where
  as_run : {ks : List (Call ℕ)} {c d : Rec} {st st1 : List ℕ} {gs : List (List (Given Value))} → c ≡ d → st1 ≡ st → run.Run (plan_for s) st₀ ks c st gs → run.Run (plan_for s) st₀ ks d st1 gs
  as_run {ks} {gs = gs} e g x = rw (← e, g) x

  stays : {ks : List (Call ℕ)} {r : Run} {st after : List ℕ} {log : List (List ℕ)} → after ≡ st → Follows s st₀ ks r st log → Follows s st₀ ks r after log
  stays e f = record { given = f.given; bytes_are = f.bytes_are; theory = as_run refl e f.theory; numbered = f.numbered }

  still_numbered : {r next : Run} → Numbered s r → (next.look ≡ r.look) × (next.kept ≡ r.kept) → Numbered s next
  still_numbered n q = record { accepted = n.accepted; look_is = q.0 ∙ n.look_is; kept_is = q.1 ∙ n.kept_is }

  pub follows : {ks : List (Call ℕ)} {r : Run} {st : List ℕ} {log : List (List ℕ)} → Ran s st₀ ks r st log → Follows s st₀ ks r st log
  follows (opened o n) =
      let q = opening_accepted s st₀ (sym (ap (λ (z : Answer). z.number) o.answer_is) ∙ n) in
      let h : words (plan_for s) ≤ length st₀ = omega (arith, plan_words s q.0, q.1) in
      let b = open_is s st₀ q.0 h o in
      record { given = []; bytes_are = refl; theory = as_run (sym b.record_is) b.store_is (run.opening h); numbered = b.numbered }
  follows (row {r = r} {st = st} x ws out l n) =
      let f = follows x in
      let i = row_is r f.numbered ws st out l in
      record {
        given = f.given ++ ((answer (plan_for s) (run.row ws (length out)) (rec_of r) st).given ∷ []);
        bytes_are = (λ j. f.bytes_are j ++ (turn_bytes i.output_is j ∷ [])) ∙ sym (map_more s f.given (answer (plan_for s) (run.row ws (length out)) (rec_of r) st).given);
        theory = as_run i.record_is i.store_is (run.taken f.theory (run.row ws (length out)) (i.taken_is ∙ eq-eqb _ _ n));
        numbered = still_numbered f.numbered i.numbers_stay;
      }
  follows (drained {r = r} {st = st} x out l n) =
      let f = follows x in
      let i = drain_is r f.numbered st out l in
      record {
        given = f.given ++ ((answer (plan_for s) (run.drain (length out)) (rec_of r) st).given ∷ []);
        bytes_are = (λ j. f.bytes_are j ++ (turn_bytes i.output_is j ∷ [])) ∙ sym (map_more s f.given (answer (plan_for s) (run.drain (length out)) (rec_of r) st).given);
        theory = as_run i.record_is i.store_is (run.taken f.theory (run.drain (length out)) (i.taken_is ∙ eq-eqb _ _ n));
        numbered = still_numbered f.numbered i.numbers_stay;
      }
  follows (closed {r = r} {st = st} x e n) =
      let f = follows x in
      let i = close_is r f.numbered st e in
      record {
        given = f.given;
        bytes_are = f.bytes_are;
        theory = rw append-nil at (as_run i.record_is i.store_is (run.taken f.theory run.close (i.taken_is ∙ eq-eqb _ _ n)));
        numbered = still_numbered f.numbered i.numbers_stay;
      }
  follows (refused_open {r = r} x q {lent = lent} l o n) = stays (refused_leaves l o.answer_is o.store_is n (refusals q r [] lent []).3) (follows x)
  follows (refused_row x q r' ws out {lent = lent} l o n) = stays (refused_leaves l o.answer_is o.store_is n (refusals q r' ws lent out).0) (follows x)
  follows (refused_drain x q r' out {lent = lent} l o n) = stays (refused_leaves l o.answer_is o.store_is n (refusals q r' [] lent out).1) (follows x)
  follows (refused_close x q r' e n) = follows x

  -- demand 3, of every point that a run of the code can reach
  pub code_meets : {ks : List (Call ℕ)} {r : Run} {st : List ℕ} {log : List (List ℕ)} → Ran s st₀ ks r st log → CodeMeets s st₀ ks r st log
  code_meets x =
      let f = follows x in
      let p = plan_announced s f.numbered.accepted in
      record { given = f.given; bytes_are = f.bytes_are; demand3 = demand3 (plan_for s) p.rank (FitsIn p.types) p.is st₀ f.theory }
