-- Each call of the code on a record of the table answers as the theory does.
-- Assumes nothing.
use Prim.Native.Nat.{ℕ, suc, ◌+◌, ◌<◌, ◌≤◌}
use mathlib.Core.Path.{◌≡◌, refl, sym, ap, ◌∙◌}
use mathlib.Core.Logic.{◌⊎◌, inl, inr}
use mathlib.Core.Bool.{Bool, true, false, cond, not, ◌&&◌}
use mathlib.Core.List.{List, [], ◌++◌}
use native.Mathlib.Omega.{arith}
use native.Mathlib.Numerals.{add-one}
use native.Mathlib.Decide.{dec_lt}
use borrow.Author.Tests.{lt-ltb, le-ltb, le-leb, lt-leb, eq-eqb, ne_eqb}
use lib.Dec.{leb, ltb, eqb}
use lib.ListN.{length, drop, replicate}
use Rattle.basis.proofs.Tests.{lt_or_ge}
use Rattle.limits.specs.Limits.{most_rows}
use Rattle.value.specs.declared.Value.{Value}
use Rattle.run.specs.Run as run
use Rattle.run.specs.Run.{Rec, words, answer, answered, accepts, turn, refuse, store_after, given_on}
use Rattle.records.specs.Encoding.{encode}
use Rattle.output.specs.Encoding.{overwritten}
use Rattle.store.proofs.Clearing.{cleared_opened}
use Rattle.announce.specs.Announced.{announced}
use Rattle.prepare.specs.PlanFor.{table_for, first_bad_of, plan_for}
use Rattle.prepare.proofs.Accepted.{plan_words}
use Rattle.monitor.specs.declared.Phase.{Phase}
use Rattle.monitor.specs.declared.Phase.TheVariants.{Reading, Draining, Over}
use Rattle.monitor.specs.declared.Run.{Run}
use Rattle.monitor.specs.Refusals.{Fault}
use Rattle.monitor.specs.Calls.{Answer}
use Rattle.monitor.specs.Turns.{bytes_on}
use Rattle.monitor.specs.Refusals.{fine, open_fault, refuse_if, phase_agrees, record_agrees_of, of_table_of, is_reading_of, is_draining_of, close_refusal, close_fault_of, row_refusal, row_fault_of, drain_refusal, drain_fault_of}
use Rattle.monitor.specs.Calls.{After, refusal, acceptance, open_call, row_call_of, closed_phase_of, close_call, drained_phase_of, drain_call_of, Leaves, Opens}
use Rattle.monitor.proofs.Refusals.{table_passed, eqbs_same, open_0}
use Rattle.demands.specs.Runs.{phase_for, rec_of, Numbered, bytes_given_of, Agrees, Is, Begins}

leb_not : (a b : ℕ) → leb a b ≡ not (ltb b a)
leb_not a b = go (dec_lt b a)
  where
    go : Dec (b < a) → leb a b ≡ not (ltb b a)
    go (yes h) = rw (lt-ltb _ _ h) (lt-leb _ _ h)
    go (no h) = let k : a ≤ b = omega arith in rw (le-ltb _ _ k) (le-leb _ _ k)

ltb_not : (a b : ℕ) → ltb a b ≡ not (leb b a)
ltb_not a b = go (dec_lt a b)
  where
    go : Dec (a < b) → ltb a b ≡ not (leb b a)
    go (yes h) = rw (lt-leb _ _ h) (lt-ltb _ _ h)
    go (no h) = let k : b ≤ a = omega arith in rw (le-leb _ _ k) (le-ltb _ _ k)

reading_same : (p : Phase) → run.is_reading_of (phase_for p) ≡ is_reading_of p
unfolding is_reading_of phase_for
reading_same Reading = refl
reading_same Draining = refl
reading_same Over = refl

draining_same : (p : Phase) → run.is_draining_of (phase_for p) ≡ is_draining_of p
unfolding is_draining_of phase_for
draining_same Reading = refl
draining_same Draining = refl
draining_same Over = refl

-- the refusals, test by test
row_tests : (t1 t2 t3 t4 t5 t6 t7 : Bool) (b : ℕ) →
    t1 && (not t2 && (t3 && (not t4 && ((t5 && not t6) && not t7))))
    ≡ eqb (refuse_if (not t1) 10 0 (refuse_if t2 11 0 (refuse_if (not t3) 12 0 (refuse_if t4 13 0 (refuse_if (not t5) 14 0 (refuse_if t6 15 b (refuse_if t7 16 0 fine))))))).number 0
row_tests false t2 t3 t4 t5 t6 t7 b = refl
row_tests true true t3 t4 t5 t6 t7 b = refl
row_tests true false false t4 t5 t6 t7 b = refl
row_tests true false true true t5 t6 t7 b = refl
row_tests true false true false false t6 t7 b = refl
row_tests true false true false true true t7 b = refl
row_tests true false true false true false true b = refl
row_tests true false true false true false false b = refl

drain_tests : (t1 t2 t3 t4 : Bool) → t1 && (not t2 && (t3 && not t4)) ≡ eqb (refuse_if (not t1) 10 0 (refuse_if t2 11 0 (refuse_if (not t3) 12 0 (refuse_if t4 16 0 fine)))).number 0
drain_tests false t2 t3 t4 = refl
drain_tests true true t3 t4 = refl
drain_tests true false false t4 = refl
drain_tests true false true true = refl
drain_tests true false true false = refl

close_tests : (t1 t2 : Bool) → t1 && t2 ≡ eqb (refuse_if (not t1) 10 0 (refuse_if (not t2) 12 0 fine)).number 0
close_tests false t2 = refl
close_tests true false = refl
close_tests true true = refl

module _ {s : List ℕ} (r : Run) (x : Numbered s r) where
  agrees_same : (p : Phase) (rows done : ℕ) → run.in_phase (plan_for s) (phase_for p) rows done ≡ phase_agrees p rows done (announced s).closing
  unfolding phase_agrees phase_for plan_for
  agrees_same Reading rows done = refl
  agrees_same Draining rows done = refl
  agrees_same Over rows done = refl

  of_same : run.of_table_of (plan_for s) (rec_of r) ≡ of_table_of r (announced s)
  unfolding of_table_of record_agrees_of rec_of plan_for
  of_same = rw (x.look_is, x.kept_is, eqbs_same (announced s).look, eqbs_same (announced s).kept) (ap (λ (b : Bool). leb r.rows most_rows && b) (agrees_same r.phase r.rows r.done))

  row_accepts : (ws st : List ℕ) (space : ℕ) → accepts (plan_for s) (run.row ws space) (rec_of r) st ≡ eqb (row_fault_of s r (length st) ws space).number 0
  unfolding row_refusal rec_of plan_for
  row_accepts ws st space =
      rw (table_passed s _ x.accepted, of_same, plan_words s x.accepted, leb_not (announced s).words (length st), reading_same r.phase, ltb_not r.rows most_rows, leb_not (announced s).room space)
      (row_tests (of_table_of r (announced s)) (ltb (length st) (announced s).words) (is_reading_of r.phase) (leb most_rows r.rows) (eqb (length ws) (table_for s).inputs)
      (ltb (first_bad_of (table_for s).types ws (table_for s).inputs 0) (table_for s).inputs) (ltb space (announced s).room) (first_bad_of (table_for s).types ws (table_for s).inputs 0))

  drain_accepts : (st : List ℕ) (space : ℕ) → accepts (plan_for s) (run.drain space) (rec_of r) st ≡ eqb (drain_fault_of s r (length st) space).number 0
  unfolding drain_refusal rec_of plan_for
  drain_accepts st space =
      rw (table_passed s _ x.accepted, of_same, plan_words s x.accepted, leb_not (announced s).words (length st), draining_same r.phase, leb_not (announced s).room space)
      (drain_tests (of_table_of r (announced s)) (ltb (length st) (announced s).words) (is_draining_of r.phase) (ltb space (announced s).room))

  close_accepts : (st : List ℕ) → accepts (plan_for s) run.close (rec_of r) st ≡ eqb (close_fault_of s r).number 0
  unfolding close_refusal rec_of plan_for
  close_accepts st = rw (table_passed s _ x.accepted, of_same, reading_same r.phase) (close_tests (of_table_of r (announced s)) (is_reading_of r.phase))

  refused_agrees : (st out : List ℕ) (f : Fault) → eqb f.number 0 ≡ false
      → Agrees s (refuse (plan_for s) (rec_of r) st) r out (record { run = r; number = f.number; place = f.place; count = 0 }) st out
  unfolding encode
  refused_agrees st out f e =
      record { taken_is = sym e; record_is = refl; store_is = refl; output_is = record { counted = refl; written = refl }; numbers_stay = (refl, refl) }

  module _ (st out : List ℕ) (f : Fault) (theory : run.Answer Value ℕ) (next : Run) (st1 bytes : List ℕ) (a : theory.accepted ≡ true) (b : theory.after ≡ rec_of next) (c : st1 ≡ theory.store)
      (d : bytes ≡ bytes_given_of s theory.given) (same : (next.look ≡ r.look) × (next.kept ≡ r.kept)) where
    by_fault : (t : Bool) → eqb f.number 0 ≡ t
        → Agrees s (cond t theory (refuse (plan_for s) (rec_of r) st)) r out (cond t (acceptance next st1 bytes out) (refusal r f st out)).answer (cond t (acceptance next st1 bytes out) (refusal r f st out)).store (cond t (acceptance next st1 bytes out) (refusal r f st out)).output
    by_fault true e =
        record {
          taken_is = a;
          record_is = b;
          store_is = c;
          output_is = record { counted = ap length d; written = ap (λ (l : List ℕ). overwritten l out) d };
          numbers_stay = same;
        }
    by_fault false e = refused_agrees st out f e

  leaves_is : {theory : run.Answer Value ℕ} {out : List ℕ} {y : After} {a : Answer} {st1 out1 : List ℕ} → Leaves y a st1 out1 → Agrees s theory r out y.answer y.store y.output → Agrees s theory r out a st1 out1
  leaves_is l i = rw (l.answer_is, l.store_is, l.output_is) i

  row_after : ◌≡◌ {A = Rec} (record { rows = suc r.rows; phase = run.reading; done = 0 }) (rec_of (record { look = r.look; kept = r.kept; rows = r.rows + 1; phase = Reading; done = 0 }))
  unfolding rec_of phase_for
  row_after = ap (λ (n : ℕ). record { rows = n; phase = run.reading; done = 0 }) (sym (add-one r.rows))

  row_call : (ws st out : List ℕ) → Is s (run.row ws (length out)) r st out (row_call_of s r ws st out).answer (row_call_of s r ws st out).store (row_call_of s r ws st out).output
  unfolding answer answered turn row_call_of bytes_on rec_of
  row_call ws st out =
      rw (row_accepts ws st (length out))
      (by_fault st out (row_fault_of s r (length st) ws (length out)) (answered (plan_for s) (run.row ws (length out)) (rec_of r) st) (record { look = r.look; kept = r.kept; rows = r.rows + 1; phase = Reading; done = 0 })
      (store_after (plan_for s) (r.rows + 1) r.rows ws st) (bytes_on s (r.rows + 1) r.rows ws st) refl row_after
      (ap (λ (n : ℕ). store_after (plan_for s) n r.rows ws st) (add-one r.rows))
      (ap (λ (n : ℕ). bytes_given_of s (given_on (plan_for s) n r.rows ws st)) (add-one r.rows))
      (refl, refl) _ refl)

  -- every row call answers as the theory does
  pub row_is : (ws st out : List ℕ) {a : Answer} {st1 out1 : List ℕ} → Leaves (row_call_of s r ws st out) a st1 out1 → Is s (run.row ws (length out)) r st out a st1 out1
  row_is ws st out l = leaves_is l (row_call ws st out)

  drained_same : (d : ℕ) → phase_for (drained_phase_of (d + 1) (announced s).closing) ≡ cond (ltb (suc d) (announced s).closing) run.draining run.over
  unfolding drained_phase_of phase_for
  drained_same d = rw (add-one d) (go (ltb (suc d) (announced s).closing))
    where
      go : (b : Bool) → phase_for (cond b Draining Over) ≡ cond b run.draining run.over
      go true = refl
      go false = refl

  drain_after : (answered (plan_for s) (run.drain 0) (rec_of r) []).after ≡ rec_of (record { look = r.look; kept = r.kept; rows = r.rows; phase = drained_phase_of (r.done + 1) (announced s).closing; done = r.done + 1 })
  unfolding answered turn rec_of plan_for
  drain_after = λ i. record { rows = r.rows; phase = sym (drained_same r.done) i; done = sym (add-one r.done) i }

  drain_call : (st out : List ℕ) → Is s (run.drain (length out)) r st out (drain_call_of s r st out).answer (drain_call_of s r st out).store (drain_call_of s r st out).output
  unfolding answer answered turn drain_call_of bytes_on rec_of
  drain_call st out =
      rw (drain_accepts st (length out))
      (by_fault st out (drain_fault_of s r (length st) (length out)) (answered (plan_for s) (run.drain (length out)) (rec_of r) st)
      (record { look = r.look; kept = r.kept; rows = r.rows; phase = drained_phase_of (r.done + 1) (announced s).closing; done = r.done + 1 })
      (store_after (plan_for s) r.rows (r.rows + r.done) [] st) (bytes_on s r.rows (r.rows + r.done) [] st) refl drain_after refl refl (refl, refl) _ refl)

  pub drain_is : (st out : List ℕ) {a : Answer} {st1 out1 : List ℕ} → Leaves (drain_call_of s r st out) a st1 out1 → Is s (run.drain (length out)) r st out a st1 out1
  drain_is st out l = leaves_is l (drain_call st out)

  closed_same : (n c : ℕ) → cond (ltb 0 n && ltb 0 c) run.draining run.over ≡ phase_for (closed_phase_of n c)
  unfolding closed_phase_of phase_for
  closed_same n c = go (lt_or_ge 0 n) (lt_or_ge 0 c)
    where
      go : (0 < n) ⊎ (n ≤ 0) → (0 < c) ⊎ (c ≤ 0) → cond (ltb 0 n && ltb 0 c) run.draining run.over ≡ phase_for (cond (eqb n 0) Over (cond (eqb c 0) Over Draining))
      go (inr h) q = let e : n ≡ 0 = omega arith in rw (le-ltb 0 n h, eq-eqb n 0 e)
      go (inl h) (inr k) = let e : c ≡ 0 = omega arith in rw (lt-ltb 0 n h, le-ltb 0 c k, ne_eqb n 0 (λ z. omega (arith, z)), eq-eqb c 0 e)
      go (inl h) (inl k) = rw (lt-ltb 0 n h, lt-ltb 0 c k, ne_eqb n 0 (λ z. omega (arith, z)), ne_eqb c 0 (λ z. omega (arith, z)))

  -- closing lends neither store nor output
  pub close_is : (st : List ℕ) {a : Answer} → a ≡ (close_call s r).answer → Is s run.close r st [] a st []
  unfolding answer answered close_call rec_of plan_for encode
  close_is st e = rw (e, close_accepts st) (go (eqb (close_fault_of s r).number 0) refl)
    where
      go : (t : Bool) → eqb (close_fault_of s r).number 0 ≡ t
          → Agrees s (cond t (answered (plan_for s) run.close (rec_of r) st) (refuse (plan_for s) (rec_of r) st)) r []
          (cond t (acceptance (record { look = r.look; kept = r.kept; rows = r.rows; phase = closed_phase_of r.rows (announced s).closing; done = 0 }) [] [] []) (refusal r (close_fault_of s r) [] [])).answer st []
      go true h =
          record {
            taken_is = refl;
            record_is = λ i. record { rows = r.rows; phase = closed_same r.rows (announced s).closing i; done = 0 };
            store_is = refl;
            output_is = record { counted = refl; written = refl };
            numbers_stay = (refl, refl);
          }
      go false h = refused_agrees st [] (close_fault_of s r) h

-- an accepted opening is the theory's
pub open_is : (s st : List ℕ) {a : Answer} {st1 : List ℕ} → (announced s).number ≡ 0 → words (plan_for s) ≤ length st → Opens (open_call s st) a st1 → Begins s st a st1
unfolding open_call rec_of phase_for plan_for
open_is s st {a} {st1} e h o =
    let w = plan_words s e in
    let f : open_fault s (length st) ≡ fine = open_0 s refl (length st) e (omega (arith, w, h)) in
    let y : open_call s st ≡ acceptance (record { look = (announced s).look; kept = (announced s).kept; rows = 0; phase = Reading; done = 0 }) (replicate (announced s).words 0 ++ drop (announced s).words st) [] [] = rw f refl in
    let g = o.answer_is ∙ ap (λ (z : After). z.answer) y in
    record {
      taken_is = ap (λ (z : Answer). z.number) g;
      numbered = record { accepted = e; look_is = ap (λ (z : Answer). z.run.look) g; kept_is = ap (λ (z : Answer). z.run.kept) g };
      record_is = ap (λ (z : Answer). rec_of z.run) g;
      store_is = o.store_is ∙ ap (λ (z : After). z.store) y ∙ cleared_opened (plan_for s) refl w st;
    }
