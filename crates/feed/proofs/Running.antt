-- The rows of an input, answered one after another, are a run as demand 3 speaks of it; its rows are the input's accepted ones, and its
-- text is the lines of what its turns gave (document 01, "The program"). Assumes nothing.
use Prim.Native.Nat.{ℕ, zero, suc, ◌*◌, ◌≤◌, ◌<◌}
use native.Mathlib.Omega.{arith}
use mathlib.Core.Path.{◌≡◌, refl, sym, ap, ap₂, ◌∙◌}
use mathlib.Core.Bool.{Bool, true, false}
use mathlib.Core.List.{List, [], ◌∷◌, ◌++◌}
use mathlib.Core.Logic.{◌⊎◌, inl, inr}
use borrow.Author.Tests.{eq-eqb, eqb-false, le-ltb, le-leb}
use lib.Dec.{eqb, ltb, leb}
use lib.ListN.{length, take, get_or, length-append, length-replicate, get_or-append}
use lib.Seq.{get_or_at}
use Rattle.limits.specs.Limits.{most_rows, most_words}
use Rattle.limits.specs.Refusals.{accepted, row_limit, wrong_flag}
use Rattle.records.specs.Kinds.{most_room}
use Rattle.records.specs.Lines.{lines_of}
use Rattle.table.specs.Table.{Table}
use Rattle.announce.specs.Announced.{announced}
use Rattle.announce.proofs.Room.{room_announced}
use Rattle.run.specs.Run as run
use Rattle.run.specs.Run.{Call, rows_in, closed, drained}
use Rattle.run.proofs.Runs.{sound}
use Rattle.meaning.specs.Plans.{FitsIn}
use Rattle.prepare.specs.PlanFor.{table_for, plan_for, first_bad_of}
use Rattle.prepare.proofs.Accepted.{plan_announced}
use Rattle.monitor.specs.declared.Run.{Run}
use Rattle.monitor.specs.Refusals.{Fault}
use Rattle.monitor.specs.declared.Phase.TheVariants.{Reading}
use Rattle.monitor.specs.Refusals as monitor
use Rattle.monitor.specs.Refusals.{fine, refuse_if, record_agrees_of, phase_agrees, of_table_of, is_reading_of, row_fault_of}
use Rattle.monitor.specs.Calls.{After, run_with_of, refusal, open_call, row_call_of}
use Rattle.monitor.proofs.Refusals.{eqbs_same, table_passed, open_0}
use Rattle.demands.specs.Ran.{Ran, opened, row}
use Rattle.demands.proofs.Running.{follows}
use Rattle.demands.proofs.Demands.{leaves}
use Rattle.answers.proofs.Words.{length_words}
use Rattle.answers.specs.Rows.{Progress, begun, lent, text_of, after_row, after_rows}
use Rattle.answers.proofs.Answers.{accepted_text, refused_text}
use Rattle.feed.specs.Printed.{row_size, row_at, row_refusal, is_taken, accepted_rows, lines_of_rows}
use Rattle.feed.proofs.Inputs.{announced_words}
use Rattle.feed.proofs.Rows.{row_taken, row_skipped, rows_within, lines_same}

-- ---- the refusals of the program's rows

module _ (s : List ℕ) where
  -- the record of a run that has taken n rows
  abbrev pub having_read : ℕ → Run
  having_read n = run_with_of (announced s).look (announced s).kept n Reading 0

  pub of_table : (n : ℕ) → n ≤ most_rows → of_table_of (having_read n) (announced s) ≡ true
  unfolding of_table_of record_agrees_of phase_agrees
  of_table n h = rw (eqbs_same (announced s).look, eqbs_same (announced s).kept, le-leb n most_rows h)

  -- the store lent is as long as announced, the output as the room, a row has I words, and the record is the run's own
  row_fault_lem : (announced s).number ≡ 0 → (n : ℕ) → n ≤ most_rows → (ws st : List ℕ) → length ws ≡ (table_for s).inputs → length st ≡ most_words
      → row_fault_of s (having_read n) (length st) ws (length lent) ≡ row_refusal (table_for s) n ws
  unfolding row_refusal monitor.row_refusal is_reading_of
  row_fault_lem a n h ws st w l =
      let k : (announced s).words ≤ length st = omega (arith, announced_words s a) in
      let o : (announced s).room ≤ length lent = omega (arith, room_announced s, length-replicate {A = ℕ} most_room 0) in
      table_passed s _ a ∙ rw (of_table n h, le-ltb _ _ k, eq-eqb _ _ w, le-ltb _ _ o)

-- accepted, "row limit reached", "input flag word above 1"
abbrev pub RowNumber : ℕ → Type 0
RowNumber n = (n ≡ accepted) ⊎ ((n ≡ row_limit) ⊎ (n ≡ wrong_flag))

refusal_number : (t : Table) (n : ℕ) (ws : List ℕ) → RowNumber (row_refusal t n ws).number
unfolding row_refusal
refusal_number t n ws = go (leb most_rows n) (ltb (first_bad_of t.types ws t.inputs 0) t.inputs)
  where
    go : (a b : Bool) → RowNumber (refuse_if a row_limit 0 (refuse_if b wrong_flag (first_bad_of t.types ws t.inputs 0) fine)).number
    go true b = inr (inl refl)
    go false true = inr (inr refl)
    go false false = inl refl

-- ---- the run

-- a run's store keeps its length
pub store_long : (s st₀ : List ℕ) {ks : List (Call ℕ)} {r : Run} {st : List ℕ} {log : List (List ℕ)} → Ran s st₀ ks r st log → length st ≡ length st₀
store_long s st₀ x =
    let f = follows s st₀ x in
    let p = plan_announced s f.numbered.accepted in
    (sound (plan_for s) p.rank (FitsIn p.types) p.is st₀ f.theory).sized

-- the lines of what turn j gave
abbrev pub log_lines : List (List ℕ) → ℕ → List ℕ
log_lines log j = lines_of (get_or log j [])

-- how far the first n rows of the input lead from an opening on the store st₀
pub record Reads (s st₀ bytes : List ℕ) (n : ℕ) (x : Progress) : Type 0 where
  pub calls : List (Call ℕ)
  pub log : List (List ℕ)
  pub ran : Ran s st₀ calls x.run x.store log
  pub rows_are : rows_in calls ≡ accepted_rows (table_for s) bytes n
  pub unclosed : closed calls ≡ false
  pub undrained : drained calls ≡ 0
  pub logged : length log ≡ length (accepted_rows (table_for s) bytes n)
  pub run_is : x.run ≡ having_read s (length (accepted_rows (table_for s) bytes n))
  pub text_is : x.text ≡ lines_of_rows (log_lines log) (table_for s) bytes n

-- one turn more leaves the lines of the turns before it
pub log_front : (log : List (List ℕ)) (bs : List ℕ) (j : ℕ) → j < length log → log_lines (log ++ (bs ∷ [])) j ≡ log_lines log j
log_front log bs j h = ap lines_of (get_or-append log (bs ∷ []) [] j h)

pub log_last : (log : List (List ℕ)) (bs : List ℕ) (j : ℕ) → length log ≡ j → log_lines (log ++ (bs ∷ [])) j ≡ lines_of bs
log_last log bs j h = ap lines_of (get_or_at log bs [] [] j h)

module _ (s st₀ bytes : List ℕ) (a : (announced s).number ≡ 0) (long : length st₀ ≡ most_words) where
  abbrev t : Table
  t = table_for s

  opened_run : Reads s st₀ bytes 0 (begun (open_call s st₀).answer.run (open_call s st₀).store)
  unfolding open_call accepted_rows lines_of_rows
  opened_run =
      let f = open_0 s refl (length st₀) a (omega (arith, announced_words s a)) in
      record {
        calls = [];
        log = [];
        ran = opened (record { answer_is = refl; store_is = refl }) (rw f refl);
        rows_are = refl;
        unclosed = refl;
        undrained = refl;
        logged = refl;
        run_is = rw f refl;
        text_is = refl;
      }

  module _ (n : ℕ) (x : Progress) (r : Reads s st₀ bytes n x) where
    abbrev rows : List (List ℕ)
    rows = accepted_rows t bytes n

    abbrev ws : List ℕ
    ws = row_at t bytes n

    abbrev after : After
    after = row_call_of s x.run ws x.store lent

    fault_is : row_fault_of s x.run (length x.store) ws (length lent) ≡ row_refusal t (length rows) ws
    fault_is =
        rw r.run_is
        (row_fault_lem s a (length rows) (rows_within t bytes n) ws x.store (length_words bytes (n * row_size t) t.inputs) (store_long s st₀ r.ran ∙ long))

    number_is : eqb (row_fault_of s x.run (length x.store) ws (length lent)).number 0 ≡ is_taken t (length rows) ws
    number_is = ap (λ (f : Fault). eqb f.number 0) fault_is

    -- an accepted row
    module _ (e : is_taken t (length rows) ws ≡ true) where
      taken : after.answer.number ≡ 0
      unfolding row_call_of
      taken = rw (number_is ∙ e)

      abbrev bs : List ℕ
      bs = take after.answer.count after.output

      run_on : after.answer.run ≡ having_read s (length (accepted_rows t bytes (suc n)))
      unfolding row_call_of
      run_on =
          rw (number_is ∙ e, row_taken t bytes n e, length-append rows (ws ∷ []), r.run_is)

      text_on : x.text ++ text_of after ≡ lines_of_rows (log_lines (r.log ++ (bs ∷ []))) t bytes (suc n)
      unfolding lines_of_rows
      text_on =
          ap₂ (λ (u v : List ℕ). u ++ v)
          (r.text_is ∙ lines_same (log_lines r.log) (log_lines (r.log ++ (bs ∷ []))) t bytes n (λ j h. sym (log_front r.log bs j (omega (arith, r.logged)))))
          (accepted_text after.answer.place bs taken ∙ sym (log_last r.log bs (length rows) r.logged) ∙ rw e)

      accepted_row : Reads s st₀ bytes (suc n) (after_row s ws x)
      accepted_row = record {
        calls = run.row ws (length lent) ∷ r.calls;
        log = r.log ++ (bs ∷ []);
        ran = row r.ran ws lent (leaves after) taken;
        rows_are = ap (λ (l : List (List ℕ)). l ++ (ws ∷ [])) r.rows_are ∙ sym (row_taken t bytes n e);
        unclosed = r.unclosed;
        undrained = r.undrained;
        logged = rw (row_taken t bytes n e) (omega (arith, r.logged, length-append r.log (bs ∷ []), length-append rows (ws ∷ [])));
        run_is = run_on;
        text_is = text_on;
      }

    -- a refused one
    module _ (e : is_taken t (length rows) ws ≡ false) where
      refuses : after ≡ refusal x.run (row_refusal t (length rows) ws) x.store lent
      unfolding row_call_of
      refuses = rw (number_is ∙ e, fault_is)

      skipped : after.answer.number ≡ 0 → ⊥
      skipped h = eqb-false _ _ e (sym (ap (λ (y : After). y.answer.number) refuses) ∙ h)

      refused_row : Reads s st₀ bytes (suc n) (after_row s ws x)
      unfolding lines_of_rows
      refused_row = record {
        calls = r.calls;
        log = r.log;
        ran = rw refuses r.ran;
        rows_are = r.rows_are ∙ sym (row_skipped t bytes n e);
        unclosed = r.unclosed;
        undrained = r.undrained;
        logged = rw (row_skipped t bytes n e) r.logged;
        run_is = rw (row_skipped t bytes n e) (ap (λ (y : After). y.answer.run) refuses ∙ r.run_is);
        text_is =
            ap₂ (λ (u v : List ℕ). u ++ v) r.text_is
            (refused_text after.answer.place (take after.answer.count after.output) skipped ∙ rw (refuses, e));
      }

    next_row : Reads s st₀ bytes (suc n) (after_row s ws x)
    next_row = go (is_taken t (length rows) ws) refl
      where
        go : (b : Bool) → is_taken t (length rows) ws ≡ b → Reads s st₀ bytes (suc n) (after_row s ws x)
        go true e = accepted_row e
        go false e = refused_row e

  -- the first n rows of the input
  pub reads_rows : (n : ℕ) → Reads s st₀ bytes n (after_rows s bytes t.inputs n (begun (open_call s st₀).answer.run (open_call s st₀).store))
  unfolding after_rows
  reads_rows zero = opened_run
  reads_rows (suc n) = next_row n _ (reads_rows n)

  -- Of the refusals of a row, only 13 and 15 occur in the program: 11 and 16 can't, for its store and its output are as long as any table
  -- announces; nor can 10, 12 and 14.
  pub only_13_or_15 : (n : ℕ) (x : Progress) → x ≡ after_rows s bytes t.inputs n (begun (open_call s st₀).answer.run (open_call s st₀).store)
      → RowNumber (row_call_of s x.run (row_at t bytes n) x.store lent).answer.number
  only_13_or_15 n x e = go (is_taken t (length (accepted_rows t bytes n)) (row_at t bytes n)) refl
    where
      r : Reads s st₀ bytes n x
      r = rw e (reads_rows n)

      go : (b : Bool) → is_taken t (length (accepted_rows t bytes n)) (row_at t bytes n) ≡ b → RowNumber (row_call_of s x.run (row_at t bytes n) x.store lent).answer.number
      go true h = inl (taken n x r h)
      go false h = rw (refuses n x r h) (refusal_number t (length (accepted_rows t bytes n)) (row_at t bytes n))
