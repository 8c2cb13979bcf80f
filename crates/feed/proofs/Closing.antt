-- The closing turns behind the rows of an input: the run goes on as demand 3 speaks of it, no closing turn is refused, and behind the last
-- of them all is printed but the last line (document 01, "The program"). Assumes nothing.
use Prim.Native.Nat.{ℕ, zero, suc, ◌+◌, ◌-◌, ◌≤◌, ◌<◌}
use native.Mathlib.Omega.{arith}
use native.Mathlib.Numerals.{add-one}
use native.Mathlib.Nat.{add-zero, add-suc}
use mathlib.Core.Path.{◌≡◌, refl, sym, ap, ap₂, subst, ◌∙◌}
use mathlib.Core.Bool.{Bool, true, false, cond}
use mathlib.Core.List.{List, [], ◌∷◌, ◌++◌, append-nil, append_assoc}
use mathlib.Core.Logic.{⊎_elim}
use borrow.Author.Tests.{ne_eqb, eqb-true, eqb-false, lt-ltb, le-ltb, le-leb, ltb-true, ltb-false}
use lib.Dec.{eqb, ltb}
use lib.ListN.{length, take, length-append, length-replicate}
use Rattle.basis.proofs.Tests.{true_false, lt_or_ge}
use Rattle.limits.specs.Limits.{most_rows, most_words}
use Rattle.limits.specs.Refusals.{accepted}
use Rattle.records.specs.Kinds.{most_room}
use Rattle.table.specs.Table.{Table}
use Rattle.announce.specs.Announced.{announced}
use Rattle.announce.proofs.Room.{room_announced}
use Rattle.run.specs.Run as run
use Rattle.run.specs.Run.{Call, rows_in, closed, drained}
use Rattle.prepare.specs.PlanFor.{table_for}
use Rattle.monitor.specs.declared.Run.{Run}
use Rattle.monitor.specs.declared.Phase.{Phase}
use Rattle.monitor.specs.declared.Phase.TheVariants.{Reading, Draining, Over}
use Rattle.monitor.specs.Refusals.{fine, record_agrees_of, phase_agrees, of_table_of, is_reading_of, is_draining_of, close_refusal, close_fault_of, drain_refusal, drain_fault_of}
use Rattle.monitor.specs.Calls.{After, run_with_of, closed_phase_of, close_call, drained_phase_of, drain_call_of}
use Rattle.monitor.proofs.Refusals.{eqbs_same, table_passed}
use Rattle.demands.specs.Ran as ran
use Rattle.demands.specs.Ran.{Ran}
use Rattle.demands.proofs.Demands.{leaves}
use Rattle.answers.specs.Rows.{Progress, begun, lent, text_of, after_drain, after_drains}
use Rattle.answers.proofs.Answers.{accepted_text}
use Rattle.feed.specs.Printed.{accepted_rows, lines_of_rows, lines_of_turns, turns_left_of, part_line}
use Rattle.feed.specs.Stands.{Behind, come, closed_with, AtClosing}
use Rattle.feed.proofs.Inputs.{announced_words}
use Rattle.feed.proofs.Rows.{rows_within, lines_same}
use Rattle.feed.proofs.Running.{of_table, having_read, store_long, log_lines, log_front, log_last, Reads, reads_rows}

-- ---- the lines of turns

module _ (f g : ℕ → List ℕ) (from : ℕ) where
  pub turns_same : (n : ℕ) → ((j : ℕ) → j < from + n → f j ≡ g j) → lines_of_turns f from n ≡ lines_of_turns g from n
  unfolding lines_of_turns
  turns_same zero same = refl
  turns_same (suc n) same = ap₂ (λ (a b : List ℕ). a ++ b) (turns_same n (λ j h. same j (omega arith))) (same (from + n) (omega arith))

-- ---- the phase after closing, and after a closing turn

is_draining_lem : (p : Phase) → is_draining_of p ≡ true → p ≡ Draining
unfolding is_draining_of
is_draining_lem Reading e = true_false refl (sym e)
is_draining_lem Draining e = refl
is_draining_lem Over e = true_false refl (sym e)

module _ (N c : ℕ) where
  closed_going : is_draining_of (closed_phase_of N c) ≡ true → (0 < N) × (0 < c)
  unfolding closed_phase_of is_draining_of
  closed_going = go (eqb N 0) refl (eqb c 0) refl
    where
      go : (a : Bool) → eqb N 0 ≡ a → (b : Bool) → eqb c 0 ≡ b → is_draining_of (cond a Over (cond b Over Draining)) ≡ true → (0 < N) × (0 < c)
      go true p b q e = true_false refl (sym e)
      go false p true q e = true_false refl (sym e)
      go false p false q e =
          let h : N ≡ 0 → ⊥ = eqb-false N 0 p in
          let k : c ≡ 0 → ⊥ = eqb-false c 0 q in
          (omega arith, omega arith)

  closed_over : is_draining_of (closed_phase_of N c) ≡ false → 0 ≡ turns_left_of N c
  unfolding closed_phase_of is_draining_of
  closed_over = go (eqb N 0) refl (eqb c 0) refl
    where
      go : (a : Bool) → eqb N 0 ≡ a → (b : Bool) → eqb c 0 ≡ b → is_draining_of (cond a Over (cond b Over Draining)) ≡ false → 0 ≡ cond a 0 c
      go true p b q e = refl
      go false p true q e = sym (eqb-true c 0 q)
      go false p false q e = true_false refl e

  module _ (d : ℕ) where
    drained_going : is_draining_of (drained_phase_of d c) ≡ true → d < c
    unfolding drained_phase_of is_draining_of
    drained_going = go (ltb d c) refl
      where
        go : (a : Bool) → ltb d c ≡ a → is_draining_of (cond a Draining Over) ≡ true → d < c
        go true p e = ltb-true d c p
        go false p e = true_false refl (sym e)

    drained_over : 0 < N → d ≤ c → is_draining_of (drained_phase_of d c) ≡ false → d ≡ turns_left_of N c
    unfolding drained_phase_of is_draining_of
    drained_over h k = go (ltb d c) refl
      where
        go : (a : Bool) → ltb d c ≡ a → is_draining_of (cond a Draining Over) ≡ false → d ≡ turns_left_of N c
        go true p e = true_false refl e
        go false p e = rw (ne_eqb N 0 (λ z. omega (arith, z))) (omega (arith, ltb-false d c p))

-- ---- the refusals of closing and its turns

module _ (s : List ℕ) where
  -- the record of a run behind n rows and d closing turns
  abbrev pub having_closed : (n : ℕ) → Phase → (d : ℕ) → Run
  having_closed n phase d = run_with_of (announced s).look (announced s).kept n phase d

  module _ (a : (announced s).number ≡ 0) (n : ℕ) (most : n ≤ most_rows) where
    close_fine : close_fault_of s (having_read s n) ≡ fine
    unfolding close_refusal is_reading_of
    close_fine = table_passed s _ a ∙ rw (of_table s n most)

    closing_of_table : (d : ℕ) → 0 < n → d < (announced s).closing → of_table_of (having_closed n Draining d) (announced s) ≡ true
    unfolding of_table_of record_agrees_of phase_agrees
    closing_of_table d h k = rw (eqbs_same (announced s).look, eqbs_same (announced s).kept, le-leb n most_rows most, lt-ltb 0 n h, lt-ltb d (announced s).closing k)

    -- the store lent is as long as announced, the output as the room, the record is the run's own and in its phase
    turn_fine : (d : ℕ) → 0 < n → d < (announced s).closing → (st : List ℕ) → length st ≡ most_words → drain_fault_of s (having_closed n Draining d) (length st) (length lent) ≡ fine
    unfolding drain_refusal is_draining_of
    turn_fine d h k st l =
        let w : (announced s).words ≤ length st = omega (arith, announced_words s a) in
        let o : (announced s).room ≤ length lent = omega (arith, room_announced s, length-replicate {A = ℕ} most_room 0) in
        table_passed s _ a ∙ rw (closing_of_table d h k, le-ltb _ _ w, le-ltb _ _ o)

-- ---- the run

-- how far some closing turns lead behind the first n rows of the input, `left` bytes of a part row, and `read` bytes in all
pub record Drains (s st₀ bytes : List ℕ) (n left read turns : ℕ) (x : Progress) : Type 0 where
  pub calls : List (Call ℕ)
  pub log : List (List ℕ)
  pub ran : Ran s st₀ calls x.run x.store log
  pub rows_are : rows_in calls ≡ accepted_rows (table_for s) bytes n
  pub shut : closed calls ≡ true
  pub drained_are : drained calls ≡ turns
  pub logged : length log ≡ length (accepted_rows (table_for s) bytes n) + turns
  pub phase : Phase
  pub run_is : x.run ≡ having_closed s (length (accepted_rows (table_for s) bytes n)) phase turns
  pub going : is_draining_of phase ≡ true → (0 < length (accepted_rows (table_for s) bytes n)) × (turns < (announced s).closing)
  pub over : is_draining_of phase ≡ false → turns ≡ turns_left_of (length (accepted_rows (table_for s) bytes n)) (announced s).closing
  pub text_is :
      x.text ≡ (lines_of_rows (log_lines log) (table_for s) bytes n ++ part_line left read) ++ lines_of_turns (log_lines log) (length (accepted_rows (table_for s) bytes n)) turns

module _ (s st₀ bytes : List ℕ) (a : (announced s).number ≡ 0) (long : length st₀ ≡ most_words) (n left read : ℕ) where
  abbrev N : ℕ
  N = length (accepted_rows (table_for s) bytes n)

  few : N ≤ most_rows
  few = rows_within (table_for s) bytes n

  closes : {x : Progress} → Reads s st₀ bytes n x → Drains s st₀ bytes n left read 0 (closed_with s read left x)
  unfolding close_call lines_of_turns
  closes {x} r =
      let f = close_fine s a N few in
      let c : (close_call s x.run).answer.number ≡ 0 = rw (r.run_is, f) refl in
      let k : (close_call s x.run).answer.run ≡ having_closed s N (closed_phase_of N (announced s).closing) 0 = rw (r.run_is, f) refl in
      record {
        calls = run.close ∷ r.calls;
        log = r.log;
        ran = ran.closed r.ran refl c;
        rows_are = append-nil (rows_in r.calls) ∙ r.rows_are;
        shut = refl;
        drained_are = r.undrained;
        logged = omega (arith, r.logged);
        phase = closed_phase_of N (announced s).closing;
        run_is = k;
        going = closed_going N (announced s).closing;
        over = closed_over N (announced s).closing;
        text_is = sym (append-nil _ ∙ ap (λ (l : List ℕ). l ++ part_line left read) (sym r.text_is));
      }

  -- one closing turn more
  module _ (d : ℕ) (x : Progress) (r : Drains s st₀ bytes n left read d x) (e : is_draining_of x.run.phase ≡ true) where
    going_on : is_draining_of r.phase ≡ true
    going_on = rw r.run_is at e

    some : 0 < N
    some = (r.going going_on).0

    left_over : d < (announced s).closing
    left_over = (r.going going_on).1

    run_on : x.run ≡ having_closed s N Draining d
    run_on = r.run_is ∙ ap (λ (p : Phase). having_closed s N p d) (is_draining_lem r.phase going_on)

    abbrev after : After
    after = drain_call_of s x.run x.store lent

    abbrev bs : List ℕ
    bs = take after.answer.count after.output

    fault_fine : drain_fault_of s x.run (length x.store) (length lent) ≡ fine
    fault_fine = rw run_on (turn_fine s a N few d some left_over x.store (store_long s st₀ r.ran ∙ long))

    taken : after.answer.number ≡ 0
    unfolding drain_call_of
    taken = rw fault_fine

    run_after : after.answer.run ≡ having_closed s N (drained_phase_of (suc d) (announced s).closing) (suc d)
    unfolding drain_call_of
    run_after = rw (fault_fine, run_on, add-one d)

    earlier : (j : ℕ) → j < N + d → log_lines r.log j ≡ log_lines (r.log ++ (bs ∷ [])) j
    earlier j h = sym (log_front r.log bs j (omega (arith, r.logged)))

    text_on : x.text ++ text_of after ≡ (lines_of_rows (log_lines (r.log ++ (bs ∷ []))) (table_for s) bytes n ++ part_line left read) ++ lines_of_turns (log_lines (r.log ++ (bs ∷ []))) N (suc d)
    unfolding lines_of_turns
    text_on =
        ap₂ (λ (u v : List ℕ). u ++ v)
        (r.text_is
        ∙ ap₂ (λ (u v : List ℕ). (u ++ part_line left read) ++ v)
        (lines_same (log_lines r.log) (log_lines (r.log ++ (bs ∷ []))) (table_for s) bytes n (λ j h. earlier j (omega arith)))
        (turns_same (log_lines r.log) (log_lines (r.log ++ (bs ∷ []))) N d earlier))
        (accepted_text after.answer.place bs taken ∙ sym (log_last r.log bs (N + d) r.logged))
        ∙ append_assoc (lines_of_rows (log_lines (r.log ++ (bs ∷ []))) (table_for s) bytes n ++ part_line left read) _ _

    next_turn : Drains s st₀ bytes n left read (suc d) (after_drain s x)
    next_turn = record {
      calls = run.drain (length lent) ∷ r.calls;
      log = r.log ++ (bs ∷ []);
      ran = ran.drained r.ran lent (leaves after) taken;
      rows_are = append-nil (rows_in r.calls) ∙ r.rows_are;
      shut = r.shut;
      drained_are = ap suc r.drained_are;
      logged = omega (arith, r.logged, length-append r.log (bs ∷ []));
      phase = drained_phase_of (suc d) (announced s).closing;
      run_is = run_after;
      going = λ g. (some, drained_going N (announced s).closing (suc d) g);
      over = drained_over N (announced s).closing (suc d) some left_over;
      text_is = text_on;
    }

  -- some closing turns
  drains_turns : {x : Progress} → Reads s st₀ bytes n x → (d : ℕ) → ((i : ℕ) → i < d → is_draining_of (after_drains s i (closed_with s read left x)).run.phase ≡ true)
      → Drains s st₀ bytes n left read d (after_drains s d (closed_with s read left x))
  unfolding after_drains
  drains_turns r zero e = closes r
  drains_turns r (suc d) e = next_turn d _ (drains_turns r d (λ i h. e i (omega arith))) (e d (omega arith))

-- ---- closing turns one after another

-- the text before the first of them stands before theirs
drains_from : (s : List ℕ) (n : ℕ) (r : Run) (st said : List ℕ)
    → after_drains s n (come r st said) ≡ come (after_drains s n (begun r st)).run (after_drains s n (begun r st)).store (said ++ (after_drains s n (begun r st)).text)
unfolding after_drains
drains_from s zero r st said = ap (come r st) (sym (append-nil said))
drains_from s (suc n) r st said =
    let x = after_drains s n (begun r st) in
    ap (after_drain s) (drains_from s n r st said)
    ∙ ap (come (after_drain s x).run (after_drain s x).store) (append_assoc said x.text (text_of (drain_call_of s x.run x.store lent)))

drains_plus : (s : List ℕ) (m n : ℕ) (x : Progress) → after_drains s (m + n) x ≡ after_drains s n (after_drains s m x)
unfolding after_drains
drains_plus s m zero x = rw add-zero refl
drains_plus s m (suc n) x = rw add-suc (ap (after_drain s) (drains_plus s m n x))

module _ {b : List ℕ} {r : Run} {table store : List ℕ} {n : ℕ} {said : List ℕ} (c : AtClosing b r table store n said) where
  abbrev s : List ℕ
  s = take n table

  abbrev behind : Behind b table n c.part c.before
  behind = c.behind

  abbrev t : Table
  t = table_for s

  read_rows : Reads s behind.store behind.rows behind.count c.before
  read_rows = subst (Reads s behind.store behind.rows behind.count) (sym behind.come_is) (reads_rows s behind.store behind.rows behind.accepted behind.store_long behind.count)

  -- where the program is in the closing turns
  pub closing_run : Drains s behind.store behind.rows behind.count (length c.part) (length b) c.turns (come r store said)
  closing_run =
      rw c.come_is
      (drains_turns s behind.store behind.rows behind.accepted behind.store_long behind.count (length c.part) (length b) read_rows c.turns c.draining)

  -- No closing turn is refused: 11 and 16 can't occur, for the store and the output are as long as any table announces; nor can 10 and 12.
  pub no_turn_refused : is_draining_of r.phase ≡ true → (drain_call_of s r store lent).answer.number ≡ accepted
  no_turn_refused e =
      taken s behind.store behind.rows behind.accepted behind.store_long behind.count (length c.part) (length b) c.turns (come r store said) closing_run e

  module _ (m : ℕ) (going : (i : ℕ) → i < m → is_draining_of (after_drains s i (begun r store)).run.phase ≡ true) where
    abbrev x : Progress
    x = after_drains s m (begun r store)

    abbrev first : Progress
    first = closed_with s (length b) (length c.part) c.before

    come_on : (i : ℕ) → after_drains s (c.turns + i) first ≡ come (after_drains s i (begun r store)).run (after_drains s i (begun r store)).store (said ++ (after_drains s i (begun r store)).text)
    come_on i = drains_plus s c.turns i first ∙ ap (after_drains s i) (sym c.come_is) ∙ drains_from s i r store said

    draining_on : (i : ℕ) → i < c.turns + m → is_draining_of (after_drains s i first).run.phase ≡ true
    draining_on i h = ⊎_elim (c.draining i) (λ g.
        let e : c.turns + (i - c.turns) ≡ i = omega arith in
        subst (λ (k : ℕ). is_draining_of (after_drains s k first).run.phase ≡ true) e (ap (λ (y : Progress). is_draining_of y.run.phase) (come_on (i - c.turns)) ∙ going (i - c.turns) (omega arith)))
        (lt_or_ge i c.turns)

    pub closing_more : AtClosing b x.run table x.store n (said ++ x.text)
    closing_more = record {
      part = c.part;
      before = c.before;
      behind = behind;
      turns = c.turns + m;
      draining = draining_on;
      come_is = sym (come_on m);
    }

turns_done : {b : List ℕ} {r : Run} {table store : List ℕ} {n : ℕ} {said : List ℕ} (c : AtClosing b r table store n said) → r.done ≡ c.turns
turns_done c = ap (λ (y : Run). y.done) (closing_run c).run_is

-- while it drains there is a closing turn left
pub turn_left : {b : List ℕ} {r : Run} {table store : List ℕ} {n : ℕ} {said : List ℕ} (c : AtClosing b r table store n said) → is_draining_of r.phase ≡ true
    → r.done < (announced (take n table)).closing
turn_left c e =
    let k = closing_run c in
    omega (arith, turns_done c, k.going (ap (λ (y : Run). is_draining_of y.phase) (sym k.run_is) ∙ e))

pub done_grows : {b : List ℕ} {r : Run} {table store : List ℕ} {n : ℕ} {said : List ℕ} (c : AtClosing b r table store n said)
    (m : ℕ) (going : (i : ℕ) → i < m → is_draining_of (after_drains (take n table) i (begun r store)).run.phase ≡ true)
    → (after_drains (take n table) m (begun r store)).run.done ≡ r.done + m
unfolding closing_more
done_grows c m going = turns_done (closing_more c m going) ∙ ap (λ (k : ℕ). k + m) (sym (turns_done c))
