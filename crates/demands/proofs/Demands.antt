-- The two demands hold.
-- Assumes nothing.
use Prim.Native.Nat.{ℕ, ◌+◌, ◌≤◌, ◌<◌}
use native.Mathlib.Omega.{arith}
use mathlib.Core.Path.{◌≡◌, refl, sym, ap, ◌∙◌, subst}
use mathlib.Core.Bool.{true, false}
use mathlib.Core.Logic.{◌⊎◌, ⊎_elim}
use mathlib.Core.List.{List, [], ◌∷◌, ◌++◌, map, flatten, append-nil}
use borrow.Author.Tests.{eq-eqb, eqb-true, leb-true, le-ltb}
use lib.Dec.{leb}
use lib.ListN.{length, get_or}
use Rattle.basis.proofs.Tests.{and_true, true_false}
use Rattle.limits.specs.Limits.{most_rows}
use Rattle.wire.specs.Bytes.{AllBytes, AllWords}
use Rattle.records.specs.Reading.{read_items, read_back_of, items_given}
use Rattle.value.specs.declared.Value.{Value}
use Rattle.value.specs.Values.{image_of}
use Rattle.table.specs.Table.{Table, streams}
use Rattle.announce.specs.Announced.{announced}
use Rattle.table.proofs.Generation.{generated_decodes}
use Rattle.announce.proofs.Acceptance.{accepted_decodes, accepted_conditions, conditions_accepted}
use Rattle.run.specs.Run as run
use Rattle.run.specs.Run.{Call, words, rows_in, closed, drained, answer, owed, owed_before}
use Rattle.run.specs.Demands.{given_for}
use Rattle.run.proofs.Runs.{sound}
use Rattle.meaning.specs.Tables.{Meant, TableModel}
use Rattle.meaning.specs.Plans.{FitsIn}
use Rattle.meaning.proofs.Accepted.{accepted_means}
use Rattle.prepare.specs.PlanFor.{table_in, table_for, WellFormedRow, look_for, kept_for, plan_for}
use Rattle.prepare.proofs.Rows.{row_fits, fits_row}
use Rattle.prepare.proofs.Accepted.{plan_words, PlanAnnounced, plan_announced}
use Rattle.monitor.specs.declared.Run.{Run}
use Rattle.monitor.specs.Refusals.{after_table, open_fault}
use Rattle.monitor.specs.Calls.{After, open_call, row_call_of, close_call, drain_call_of, Leaves}
use Rattle.demands.specs.Runs.{rec_of, bytes_given_of}
use Rattle.demands.specs.Ran.{Ran, CodeMeets}
use Rattle.demands.proofs.Refusing.{refusals}
use Rattle.demands.proofs.Answering.{row_is, drain_is, close_is}
use Rattle.demands.proofs.Running.{Follows, follows, code_meets}
use Rattle.demands.specs.Demands.{Opening, Refused, Demand3, DEMAND2, DEMAND3}
use Rattle.demands.proofs.Back.{log_long, items_at, given_once}
use Rattle.demands.proofs.Unread.{unread}

-- ---- demand 2

module _ (s : List ℕ) (n : (announced s).number ≡ 0) where
  meant : Meant (table_for s) (look_for s)
  meant =
      let d = accepted_decodes s n in
      let a = d.announces in
      subst (λ (t : Table). Meant t (look_for s)) (sym (ap table_in d.decodes))
      (accepted_means s d.table d.decodes (look_for s) (kept_for s) (record { below = a.loops; ahead = a.numbers.look_ahead_lem; keeps = a.numbers.kept_values }))

pub demand_2 : DEMAND2
demand_2 s = record {
  accepted_exactly = (accepted_conditions s, conditions_accepted s);
  the_table = λ a. ap table_in (generated_decodes s a.table a.grammar);
  one_model = λ n rows. (meant s n).demand2.one rows;
  however_it_goes_on = λ n. (meant s n).demand2.prefix;
}

-- ---- demand 3: opening

opening : (s : List ℕ) → Opening s
unfolding open_call open_fault after_table
opening s st a h = rw (eq-eqb _ _ (conditions_accepted s a), le-ltb _ _ h)

-- ---- demand 3: a run

pub leaves : (y : After) → Leaves y y.answer y.store y.output
leaves y = record { answer_is = refl; store_is = refl; output_is = refl }

module _ (s st₀ : List ℕ) {ks : List (Call ℕ)} {r : Run} {st : List ℕ} {log : List (List ℕ)} (x : Ran s st₀ ks r st log) where
  here : Follows s st₀ ks r st log
  here = follows s st₀ x

  accepted : (announced s).number ≡ 0
  accepted = here.numbered.accepted

  plan : PlanAnnounced s
  plan = plan_announced s accepted

  meets : CodeMeets s st₀ ks r st log
  meets = code_meets s st₀ x

  words_are : words (plan_for s) ≡ (announced s).words
  words_are = plan_words s accepted

  row_taken : (ws out : List ℕ) → (answer (plan_for s) (run.row ws (length out)) (rec_of r) st).accepted ≡ true → (row_call_of s r ws st out).answer.number ≡ 0
  row_taken ws out h = eqb-true _ _ (sym (row_is r here.numbered ws st out (leaves (row_call_of s r ws st out))).taken_is ∙ h)

  drain_taken : (out : List ℕ) → (answer (plan_for s) (run.drain (length out)) (rec_of r) st).accepted ≡ true → (drain_call_of s r st out).answer.number ≡ 0
  drain_taken out h = eqb-true _ _ (sym (drain_is r here.numbered st out (leaves (drain_call_of s r st out))).taken_is ∙ h)

  close_taken : (answer (plan_for s) run.close (rec_of r) st).accepted ≡ true → (close_call s r).answer.number ≡ 0
  close_taken h = eqb-true _ _ (sym (close_is r here.numbered st refl).taken_is ∙ h)

  no_other_row : (ws other out : List ℕ) → (row_call_of s r ws other out).answer.number ≡ 0 → (closed ks ≡ false) × (length (rows_in ks) < most_rows) × WellFormedRow (table_for s) ws × ((announced s).room ≤ length out)
  unfolding plan_for
  no_other_row ws other out n =
      let o = meets.demand3.takes_only_rows ws (length out) other ((row_is r here.numbered ws other out (leaves (row_call_of s r ws other out))).taken_is ∙ eq-eqb _ _ n) in
      (o.0, o.1, fits_row (table_for s) ws o.2, o.3)

  closes_once : (close_call s r).answer.number ≡ 0 → closed ks ≡ false
  closes_once n = meets.demand3.closes_once st ((close_is r here.numbered st refl).taken_is ∙ eq-eqb _ _ n)

  turns_left : (other out : List ℕ) → (drain_call_of s r other out).answer.number ≡ 0 → (0 < length (rows_in ks)) × (drained ks < (announced s).closing)
  unfolding plan_for
  turns_left other out n =
      let o = meets.demand3.takes_only_drains (length out) other ((drain_is r here.numbered other out (leaves (drain_call_of s r other out))).taken_is ∙ eq-eqb _ _ n) in
      (o.1, o.2)

  -- the bytes of the rows taken, however they go on
  bytes_given : (more : List (List ℕ)) → (closed ks ≡ true → more ≡ []) → (σ : ℕ → ℕ → Value) → TableModel (table_for s) (rows_in ks ++ more) σ
      → log ≡ map (bytes_given_of s) (owed_before (plan_for s) σ (length (rows_in ks ++ more)) (length (rows_in ks) + drained ks))
  unfolding plan_for
  bytes_given more c σ m = meets.bytes_are ∙ ap (map (bytes_given_of s)) (meets.demand3.gives more c σ m)

  bytes_so_far : (σ : ℕ → ℕ → Value) → TableModel (table_for s) (rows_in ks) σ → log ≡ map (bytes_given_of s) (owed_before (plan_for s) σ (length (rows_in ks)) (length (rows_in ks) + drained ks))
  bytes_so_far σ m = rw append-nil at (bytes_given [] (λ e. refl) σ (rw append-nil m))

  rows_few : length (rows_in ks) ≤ most_rows
  unfolding plan_for
  rows_few =
      let q = sound (plan_for s) plan.rank (FitsIn plan.types) plan.is st₀ here.theory in
      omega (arith, q.counted, leb-true (rec_of r).rows most_rows (and_true (leb (rec_of r).rows most_rows) _ q.table).0)

  turns_done : length log ≡ length (rows_in ks) + drained ks
  turns_done =
      let one = (demand_2 s).one_model accepted (rows_in ks) in
      log_long s one.values (length (rows_in ks)) (length (rows_in ks) + drained ks) log (bytes_so_far one.values one.model)

  module _ (bytes : AllBytes s) (words : (i : ℕ) → AllWords (get_or (rows_in ks) i [])) where
    triggers : (t : ℕ) → read_items (get_or log t []) ≡ items_given (table_for s).roles (read_back_of (get_or log t []))
    triggers =
        let one = (demand_2 s).one_model accepted (rows_in ks) in
        items_at s accepted bytes (rows_in ks) words rows_few one.values one.model (length (rows_in ks) + drained ks) log (bytes_so_far one.values one.model)

    once : (σ : ℕ → ℕ → Value) → TableModel (table_for s) (rows_in ks) σ → (y j : ℕ) → (table_for s).inputs ≤ y → y < streams (table_for s) → j < length (rows_in ks) → j + look_for s y < length log
        → (given_for y j (read_back_of (get_or log (j + look_for s y) [])) ≡ image_of (σ y j) ∷ []) × (given_for y j (flatten (map read_back_of log)) ≡ image_of (σ y j) ∷ [])
    once σ m y j o l h t = given_once s accepted bytes (rows_in ks) words rows_few σ m (length (rows_in ks) + drained ks) log (bytes_so_far σ m) y j o l h (omega (arith, turns_done))

  module _ (c : closed ks ≡ true) (z : (length (rows_in ks) ≡ 0) ⊎ (drained ks ≡ (announced s).closing)) where
    no_more : (other out : List ℕ) → (drain_call_of s r other out).answer.number ≡ 0 → ⊥
    no_more other out n = let d = turns_left other out n in ⊎_elim (λ e. omega (arith, d.0)) (λ e. omega (arith, d.1)) z

    all_refused : (ws other out : List ℕ) → Refused (row_call_of s r ws other out) × Refused (close_call s r) × Refused (drain_call_of s r other out)
    all_refused ws other out =
        let x = refusals s r ws other out in
        let no_row : (row_call_of s r ws other out).answer.number ≡ 0 → ⊥ = λ n. true_false c (no_other_row ws other out n).0 in
        let no_close : (close_call s r).answer.number ≡ 0 → ⊥ = λ n. true_false c (closes_once n) in
        ((no_row, (x.0 no_row).count_is), (no_close, (x.2 no_close).count_is), (no_more other out, (x.1 (no_more other out)).count_is))

    all_done : (y j : ℕ) → y < streams (table_for s) → j < length (rows_in ks) → j + look_for s y < length log
    unfolding plan_for
    all_done y j l h = omega (arith, turns_done, meets.demand3.ends z y j l h)

    none_owed : (σ : ℕ → ℕ → Value) (t : ℕ) → length log ≤ t → owed (plan_for s) σ (length (rows_in ks)) t ≡ []
    unfolding plan_for
    none_owed σ t h = meets.demand3.finished z σ t (omega (arith, turns_done))

  running : Demand3 s st₀ ks r st log
  unfolding plan_for
  running = record {
    takes_rows = λ c l ws out w h. row_taken ws out (meets.demand3.takes_rows c l ws (length out) (row_fits (table_for s) ws w) h);
    no_other_row = no_other_row;
    takes_closing = λ c. close_taken (meets.demand3.takes_close c);
    takes_turns = λ c n d out h. drain_taken out (meets.demand3.takes_drains c n d (length out) h);
    no_further_turn = λ c z. no_more c z st;
    gives = bytes_given;
    once = once;
    triggers = triggers;
    nothing_owed = λ c z. (all_done c z, none_owed c z, all_refused c z);
    words_stay = rw (← words_are) meets.demand3.rest;
  }

pub demand_3 : DEMAND3
demand_3 = record { opening = opening; refusals = refusals; running = running; words_unread = unread }
