-- What a call leaves, by its first fault: refused or accepted.
-- Assumes nothing.
use Prim.Native.Nat.{ℕ, ◌+◌, ◌≤◌, ◌<◌}
use mathlib.Core.Path.{◌≡◌, refl, sym, ap, subst, ◌∙◌}
use mathlib.Core.Bool.{cond}
use mathlib.Core.List.{List, [], ◌++◌}
use lib.Dec.{eqb}
use lib.ListN.{length, drop, replicate}
use native.Mathlib.Omega.{arith}
use borrow.Author.Tests.{eq-eqb, ne_eqb}
use Rattle.limits.specs.Refusals.{foreign_record, short_store}
use Rattle.limits.specs.declared.Refusal.{Refusal}
use Rattle.limits.proofs.Faults.{number_some}
use Rattle.announce.specs.declared.Checked.{Checked}
use Rattle.announce.specs.Announced.{announced}
use Rattle.monitor.specs.declared.Phase.{Phase}
use Rattle.monitor.specs.declared.Phase.TheVariants.{Reading}
use Rattle.monitor.specs.declared.Run.{Run}
use Rattle.monitor.specs.declared.Turn.TheVariants.{Row, Closing}
use Rattle.monitor.specs.declared.Taken.{Taken}
use Rattle.monitor.specs.Turns.{Turned, TurnDone, TurnRefused}
use Rattle.monitor.specs.Refusals.{Fault, fault, fine, told, after_table, open_fault, close_fault_of}
use Rattle.monitor.specs.Calls.{Answer, After, run_with_of, moved_to, accepted_with, refused_with, refusal, acceptance, zero_run, open_call, row_call_of, closed_phase_of, close_call, drained_phase_of, drain_call_of, Leaves, Opens}
use Rattle.monitor.proofs.Refusals.{open_refused, open_11, open_0, row_turn, foreign_close}

unless_refused : {m : ℕ} (a b : After) → (m ≡ 0 → ⊥) → cond (eqb m 0) b a ≡ a
unless_refused a b n = rw (ne_eqb _ _ n)

unless_accepted : {m : ℕ} (a b : After) → m ≡ 0 → cond (eqb m 0) b a ≡ b
unless_accepted a b e = rw (eq-eqb _ _ e)

leaves_as : {x y : After} {a : Answer} {st out : List ℕ} → x ≡ y → Leaves y a st out → Leaves x a st out
leaves_as e l = rw e l

module _ (s : List ℕ) (r : Run) where
  pub close_refused : (e : Refusal) → told e ≡ close_fault_of s r → refused_with r (told e) ≡ (close_call s r).answer
  unfolding close_call
  close_refused e h = rw (← h) (sym (ap (λ (x : After). x.answer) (unless_refused _ _ (number_some e.fault))))

  -- a record whose numbers are not those of an accepted table of these bytes
  pub close_foreign : ((announced s).number ≡ 0 → (announced s).look ≡ r.look → (announced s).kept ≡ r.kept → ⊥) → (e : Refusal) → told e ≡ after_table s (fault foreign_record 0) → refused_with r (told e) ≡ (close_call s r).answer
  close_foreign other e h = close_refused e (h ∙ foreign_close s r other)

  pub close_taken : {phase : Phase} → fine ≡ close_fault_of s r → phase ≡ closed_phase_of r.rows (announced s).closing
      → accepted_with (moved_to r r.rows phase 0) 0 ≡ (close_call s r).answer
  unfolding close_call
  close_taken h ep = rw (← h) (λ i. accepted_with (moved_to r r.rows (ep i) 0) 0)

-- a call that took a turn, or was refused
module _ (s : List ℕ) (r : Run) {st out st1 out1 : List ℕ} where
  pub row_refused : {ws : List ℕ} {e : Refusal} → TurnRefused Row s r ws st out st1 out1 e → Leaves (row_call_of s r ws st out) (refused_with r (told e)) st1 out1
  unfolding row_call_of
  row_refused {e = e} k = rw (← k.fault_is) (leaves_as (unless_refused _ _ (number_some e.fault)) (record { answer_is = refl; store_is = k.store_kept; output_is = k.output_kept }))

  pub row_taken : {ws : List ℕ} {x : Taken} → TurnDone Row s r ws st out st1 out1 x → Leaves (row_call_of s r ws st out) (accepted_with (moved_to r (r.rows + 1) Reading 0) x.count) st1 out1
  unfolding row_call_of
  row_taken {ws} {x} k =
      let v : Turned s (r.rows + 1) r.rows ws st out st1 out1 x.count = subst (λ (t : ℕ). Turned s (r.rows + 1) t ws st out st1 out1 x.count) (row_turn s r (length st) ws (length out) k.passes refl) k.turned in
      rw (← k.passes) (record { answer_is = ap (accepted_with (moved_to r (r.rows + 1) Reading 0)) v.output_is.counted; store_is = v.store_is; output_is = v.output_is.written })

  pub drain_refused : {e : Refusal} → TurnRefused Closing s r [] st out st1 out1 e → Leaves (drain_call_of s r st out) (refused_with r (told e)) st1 out1
  unfolding drain_call_of
  drain_refused {e} k = rw (← k.fault_is) (leaves_as (unless_refused _ _ (number_some e.fault)) (record { answer_is = refl; store_is = k.store_kept; output_is = k.output_kept }))

  pub drain_taken : {x : Taken} {phase : Phase} → TurnDone Closing s r [] st out st1 out1 x → phase ≡ drained_phase_of (r.done + 1) x.closing
      → Leaves (drain_call_of s r st out) (accepted_with (moved_to r r.rows phase (r.done + 1)) x.count) st1 out1
  unfolding drain_call_of
  drain_taken {x} {phase} k ep =
      let v = k.turned in
      let p : phase ≡ drained_phase_of (r.done + 1) (announced s).closing = ep ∙ ap (drained_phase_of (r.done + 1)) k.closing_is in
      rw (← k.passes) (record { answer_is = λ i. accepted_with (moved_to r r.rows (p i) (r.done + 1)) (v.output_is.counted i); store_is = v.store_is; output_is = v.output_is.written })

module _ (s st : List ℕ) {c : Checked} (e : c ≡ announced s) where
  opening_refused : {f : Fault} → open_fault s (length st) ≡ f → (f.number ≡ 0 → ⊥) → Opens (open_call s st) (refused_with zero_run f) st
  unfolding open_call
  opening_refused {f} g n =
      let x : open_call s st ≡ refusal zero_run f st [] = rw g (unless_refused _ _ n) in
      record { answer_is = ap (λ (a : After). a.answer) (sym x); store_is = ap (λ (a : After). a.store) (sym x) }

  pub opening_table : (c.number ≡ 0 → ⊥) → Opens (open_call s st) (refused_with zero_run (fault c.number c.place)) st
  opening_table n = opening_refused (open_refused s e (length st) n) n

  pub opening_short : c.number ≡ 0 → length st < c.words → Opens (open_call s st) (refused_with zero_run (fault short_store 0)) st
  opening_short h l = opening_refused (open_11 s e (length st) h l) refuses
    where
      refuses : ◌≡◌ {A = ℕ} short_store 0 → ⊥
      refuses z = omega arith

  pub opening_taken : {st1 : List ℕ} → c.number ≡ 0 → c.words ≤ length st → st1 ≡ replicate c.words 0 ++ drop c.words st
      → Opens (open_call s st) (accepted_with (run_with_of c.look c.kept 0 Reading 0) 0) st1
  unfolding open_call
  opening_taken {st1} h l g =
      let x : open_call s st ≡ acceptance (run_with_of (announced s).look (announced s).kept 0 Reading 0) (replicate (announced s).words 0 ++ drop (announced s).words st) [] [] =
      rw (open_0 s e (length st) h l) refl in
      record {
        answer_is = (λ i. accepted_with (run_with_of (e i).look (e i).kept 0 Reading 0) 0) ∙ ap (λ (a : After). a.answer) (sym x);
        store_is = g ∙ ap (λ (d : Checked). replicate d.words 0 ++ drop d.words st) e ∙ ap (λ (a : After). a.store) (sym x);
      }
