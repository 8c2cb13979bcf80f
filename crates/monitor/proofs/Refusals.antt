-- The refusals of the calls, in order: each test in its place, and what an accepted call knows.
-- Assumes nothing.
use Prim.Native.Nat.{ℕ, zero, suc, ◌+◌, ◌<◌, ◌≤◌}
use mathlib.Core.Path.{◌≡◌, refl, sym, ap, subst, ◌∙◌}
use mathlib.Core.Bool.{Bool, true, false, cond, not, ◌&&◌}
use mathlib.Core.List.{List, [], ◌∷◌}
use native.Mathlib.Omega.{arith}
use borrow.Author.Tests.{lt-ltb, le-ltb, eq-eqb, ne_eqb, eqb-true, eqb-false, ltb-false, ltb-true, leb-false}
use lib.Dec.{leb, ltb, eqb}
use lib.ListN.{length, get_or}
use Rattle.basis.proofs.Tests.{true_false, and_true}
use Rattle.limits.specs.Limits.{most_rows}
use Rattle.limits.specs.Refusals.{foreign_record, short_store, wrong_phase, row_limit, row_length_of, wrong_flag, short_output}
use Rattle.table.specs.Table.{Decoded}
use Rattle.announce.specs.declared.Checked.{Checked}
use Rattle.announce.specs.Announced.{announced}
use Rattle.prepare.specs.PlanFor.{table_in, table_for, first_bad_of}
use Rattle.prepare.specs.declared.Prepared.{Prepared}
use Rattle.prepare.specs.Preparing.{brief_by, Prepares}
use Rattle.prepare.proofs.Held.{types_held}
use Rattle.monitor.specs.declared.Phase.{Phase}
use Rattle.monitor.specs.declared.Phase.TheVariants.{Reading, Draining, Over}
use Rattle.monitor.specs.declared.Run.{Run}
use Rattle.monitor.specs.declared.Turn.{Turn}
use Rattle.monitor.specs.declared.Turn.TheVariants.{Row, Closing}
use Rattle.monitor.specs.Refusals.{Fault, fault, fine, refuse_if, after_table, eqbs, phase_agrees, record_agrees_of, of_table_of, is_reading_of, is_draining_of, open_fault, close_refusal, close_fault_of, row_refusal, row_fault_of, drain_refusal, drain_fault_of, agrees_with, row_tests_of, drain_tests_of, close_tests_of, turn_fault_of, turn_tests}

-- ---- the table and the record's numbers

pub eqbs_same : (l : List ℕ) → eqbs l l ≡ true
unfolding eqbs
eqbs_same [] = refl
eqbs_same (x ∷ l) = rw (eq-eqb x x refl) (eqbs_same l)

same_eqbs : (l m : List ℕ) → eqbs l m ≡ true → m ≡ l
unfolding eqbs
same_eqbs [] [] e = refl
same_eqbs [] (y ∷ m) e = true_false refl (sym e)
same_eqbs (x ∷ l) [] e = true_false refl (sym e)
same_eqbs (x ∷ l) (y ∷ m) e = let h = and_true (eqb x y) (eqbs l m) e in λ i. sym (eqb-true x y h.0) i ∷ same_eqbs l m h.1 i

module _ (s : List ℕ) where
  pub table_passed : (f : Fault) → (announced s).number ≡ 0 → after_table s f ≡ f
  unfolding after_table
  table_passed f e = rw (eq-eqb _ _ e)

  pub table_refused : (f : Fault) → ((announced s).number ≡ 0 → ⊥) → fault (announced s).number (announced s).place ≡ after_table s f
  unfolding after_table
  table_refused f n = rw (ne_eqb _ _ n)

  module _ (r : Run) (no : (announced s).number ≡ 0 → (announced s).look ≡ r.look → (announced s).kept ≡ r.kept → ⊥) where
    not_of_table : (announced s).number ≡ 0 → of_table_of r (announced s) ≡ false
    unfolding of_table_of
    not_of_table e = go (eqbs r.look (announced s).look) (eqbs r.kept (announced s).kept) refl refl
      where
        go : (a b : Bool) → eqbs r.look (announced s).look ≡ a → eqbs r.kept (announced s).kept ≡ b
            → a && (b && record_agrees_of r.phase r.rows r.done (announced s).closing) ≡ false
        go false b p q = refl
        go true false p q = refl
        go true true p q = absurd (no e (same_eqbs _ _ p) (same_eqbs _ _ q))

    -- a record with other numbers: the table's own refusal, or 10
    pub foreign_refused : (f : Bool → Fault) → f false ≡ fault foreign_record 0 → after_table s (fault foreign_record 0) ≡ after_table s (f (of_table_of r (announced s)))
    unfolding after_table
    foreign_refused f e = go (eqb (announced s).number 0) refl
      where
        go : (b : Bool) → eqb (announced s).number 0 ≡ b
            → refuse_if (not b) (announced s).number (announced s).place (fault foreign_record 0) ≡ refuse_if (not b) (announced s).number (announced s).place (f (of_table_of r (announced s)))
        go false h = refl
        go true h = sym (ap f (not_of_table (eqb-true _ _ h)) ∙ e)

first_bad_same : (ts us ws : List ℕ) → ((v : ℕ) → get_or ts v 0 ≡ get_or us v 0) → (k x : ℕ) → first_bad_of ts ws k x ≡ first_bad_of us ws k x
unfolding first_bad_of
first_bad_same ts us ws h zero x = refl
first_bad_same ts us ws h (suc k) x = λ i. cond (eqb (h x i) 0 && ltb 1 (get_or ws x 0)) x (first_bad_same ts us ws h k (suc x) i)

-- ---- by what is prepared: the record's numbers are those announced

module _ {s : List ℕ} (r : Run) (q : Prepared) {types roles starts order : List ℕ} (x : Prepares s r.look r.kept (brief_by q types roles starts order)) where
  of_table : of_table_of r (announced s) ≡ agrees_with r q
  unfolding of_table_of
  of_table =
      rw (x.look_is, x.kept_is, eqbs_same r.look, eqbs_same r.kept)
      (ap (record_agrees_of r.phase r.rows r.done) (sym x.closing_is))

  pub close_prepared : close_fault_of s r ≡ close_tests_of r q
  close_prepared = table_passed s _ x.accepted ∙ ap (λ (b : Bool). close_refusal b r.phase) of_table

  pub drain_prepared : (lent space : ℕ) → drain_fault_of s r lent space ≡ drain_tests_of r q lent space
  drain_prepared lent space =
      table_passed s _ x.accepted ∙ (λ i. drain_refusal (of_table i) r.phase (sym x.words_are i) (sym x.room_is i) lent space)

  inputs_same : (table_for s).inputs ≡ q.inputs
  inputs_same = ap (λ (d : Decoded). (table_in d).inputs) x.decodes ∙ sym x.inputs_are

  types_same : (v : ℕ) → get_or (table_for s).types v 0 ≡ get_or types v 0
  types_same v = ap (λ (d : Decoded). get_or (table_in d).types v 0) x.decodes ∙ types_held x v

  bad_same : (ws : List ℕ) → first_bad_of (table_for s).types ws (table_for s).inputs 0 ≡ first_bad_of types ws q.inputs 0
  bad_same ws = first_bad_same (table_for s).types types ws types_same (table_for s).inputs 0 ∙ ap (λ (n : ℕ). first_bad_of types ws n 0) inputs_same

  pub row_prepared : (lent : ℕ) (ws : List ℕ) (space : ℕ) → row_fault_of s r lent ws space ≡ row_tests_of r q types lent ws space
  row_prepared lent ws space =
      table_passed s _ x.accepted
      ∙ (λ i. row_refusal (of_table i) r.phase r.rows (sym x.words_are i) (sym x.room_is i) (inputs_same i) (bad_same ws i) lent (length ws) space)

  pub turn_prepared : (k : Turn) (lent : ℕ) (ws : List ℕ) (space : ℕ) → turn_fault_of k s r lent ws space ≡ turn_tests k r q types lent ws space
  turn_prepared Row lent ws space = row_prepared lent ws space
  turn_prepared Closing lent ws space = drain_prepared lent space

-- ---- the table's own refusal, and opening

module _ (s : List ℕ) {c : Checked} (e : c ≡ announced s) where
  pub open_refused : (lent : ℕ) → (c.number ≡ 0 → ⊥) → open_fault s lent ≡ fault c.number c.place
  unfolding open_fault
  open_refused lent n = rw e (sym (table_refused s _ (λ h. n (ap (λ (d : Checked). d.number) e ∙ h))))

  passed : c.number ≡ 0 → (announced s).number ≡ 0
  passed h = ap (λ (d : Checked). d.number) (sym e) ∙ h

  -- a record that is not of the table
  pub foreign_10 : c.number ≡ 0 → fault foreign_record 0 ≡ after_table s (fault foreign_record 0)
  foreign_10 h = sym (table_passed s (fault foreign_record 0) (passed h))

  pub foreign_table : (c.number ≡ 0 → ⊥) → fault c.number c.place ≡ after_table s (fault foreign_record 0)
  foreign_table n = rw e (table_refused s (fault foreign_record 0) (λ h. n (ap (λ (d : Checked). d.number) e ∙ h)))

  pub open_11 : (lent : ℕ) → c.number ≡ 0 → lent < c.words → open_fault s lent ≡ fault short_store 0
  unfolding open_fault
  open_11 lent h g = let k : lent < (announced s).words = subst (λ (d : Checked). lent < d.words) e g in table_passed s _ (passed h) ∙ rw (lt-ltb _ _ k)

  pub open_0 : (lent : ℕ) → c.number ≡ 0 → c.words ≤ lent → open_fault s lent ≡ fine
  unfolding open_fault
  open_0 lent h g = let k : (announced s).words ≤ lent = subst (λ (d : Checked). d.words ≤ lent) e g in table_passed s _ (passed h) ∙ rw (le-ltb _ _ k)

-- ---- a row

module _ (o : Bool) (phase : Phase) (rows words room inputs bad lent given space : ℕ) where
  -- what an accepted row call knows
  pub record RowAccepted : Type 0 where
    pub store_long : words ≤ lent
    pub rows_left : rows < most_rows
    pub row_length : given ≡ inputs
    pub output_long : room ≤ space
    pub agrees : o ≡ true
    pub is_reading : is_reading_of phase ≡ true

  row_by : (t1 t2 t3 t4 t5 t6 t7 : Bool) → o ≡ t1 → ltb lent words ≡ t2 → is_reading_of phase ≡ t3 → leb most_rows rows ≡ t4 → eqb given inputs ≡ t5 → ltb space room ≡ t7
      → (refuse_if (not t1) foreign_record 0 (refuse_if t2 short_store 0 (refuse_if (not t3) wrong_phase 0 (refuse_if t4 row_limit 0 (refuse_if (not t5) row_length_of 0 (refuse_if t6 wrong_flag bad (refuse_if t7 short_output 0 fine))))))).number ≡ 0 → RowAccepted
  row_by true false true false true false false p1 p2 p3 p4 p5 p7 h =
      record { store_long = ltb-false _ _ p2; rows_left = leb-false _ _ p4; row_length = eqb-true _ _ p5; output_long = ltb-false _ _ p7; agrees = p1; is_reading = p3 }
  row_by true false true false true false true p1 p2 p3 p4 p5 p7 h = absurd (omega arith)
  row_by true false true false true true t7 p1 p2 p3 p4 p5 p7 h = absurd (omega arith)
  row_by true false true false false t6 t7 p1 p2 p3 p4 p5 p7 h = absurd (omega arith)
  row_by true false true true t5 t6 t7 p1 p2 p3 p4 p5 p7 h = absurd (omega arith)
  row_by true false false t4 t5 t6 t7 p1 p2 p3 p4 p5 p7 h = absurd (omega arith)
  row_by true true t3 t4 t5 t6 t7 p1 p2 p3 p4 p5 p7 h = absurd (omega arith)
  row_by false t2 t3 t4 t5 t6 t7 p1 p2 p3 p4 p5 p7 h = absurd (omega arith)

  pub row_accepted : {f : Fault} → f ≡ row_refusal o phase rows words room inputs bad lent given space → f.number ≡ 0 → RowAccepted
  unfolding row_refusal
  row_accepted e h = row_by _ _ _ _ _ (ltb bad inputs) _ refl refl refl refl refl refl (ap (λ (g : Fault). g.number) (sym e) ∙ h)

-- ---- draining

module _ (o : Bool) (phase : Phase) (words room lent space : ℕ) where
  -- what an accepted draining call knows
  pub record DrainAccepted : Type 0 where
    pub store_long : words ≤ lent
    pub output_long : room ≤ space
    pub agrees : o ≡ true
    pub is_draining_lem : is_draining_of phase ≡ true

  drain_by : (t1 t2 t3 t4 : Bool) → o ≡ t1 → ltb lent words ≡ t2 → is_draining_of phase ≡ t3 → ltb space room ≡ t4
      → (refuse_if (not t1) foreign_record 0 (refuse_if t2 short_store 0 (refuse_if (not t3) wrong_phase 0 (refuse_if t4 short_output 0 fine)))).number ≡ 0 → DrainAccepted
  drain_by true false true false p1 p2 p3 p4 h = record { store_long = ltb-false _ _ p2; output_long = ltb-false _ _ p4; agrees = p1; is_draining_lem = p3 }
  drain_by true false true true p1 p2 p3 p4 h = absurd (omega arith)
  drain_by true false false t4 p1 p2 p3 p4 h = absurd (omega arith)
  drain_by true true t3 t4 p1 p2 p3 p4 h = absurd (omega arith)
  drain_by false t2 t3 t4 p1 p2 p3 p4 h = absurd (omega arith)

  pub drain_accepted : {f : Fault} → f ≡ drain_refusal o phase words room lent space → f.number ≡ 0 → DrainAccepted
  unfolding drain_refusal
  drain_accepted e h = drain_by _ _ _ _ refl refl refl refl (ap (λ (g : Fault). g.number) (sym e) ∙ h)

-- a reading record has no closing turn done
pub none_done : (phase : Phase) (rows done closing : ℕ) → record_agrees_of phase rows done closing ≡ true → is_reading_of phase ≡ true → done ≡ 0
unfolding is_reading_of record_agrees_of phase_agrees
none_done Reading rows done closing h q = eqb-true _ _ (and_true (leb rows most_rows) (eqb done 0) h).1
none_done Draining rows done closing h q = true_false refl (sym q)
none_done Over rows done closing h q = true_false refl (sym q)

-- a draining record has closing turns left
pub turns_left : (phase : Phase) (rows done closing : ℕ) → record_agrees_of phase rows done closing ≡ true → is_draining_of phase ≡ true → done < closing
unfolding is_draining_of record_agrees_of phase_agrees
turns_left Reading rows done closing h q = true_false refl (sym q)
turns_left Draining rows done closing h q =
    ltb-true _ _ (and_true (ltb 0 rows) (ltb done closing) (and_true (leb rows most_rows) (ltb 0 rows && ltb done closing) h).1).1
turns_left Over rows done closing h q = true_false refl (sym q)

-- and at least one row
pub rows_some : (phase : Phase) (rows done closing : ℕ) → record_agrees_of phase rows done closing ≡ true → is_draining_of phase ≡ true → 0 < rows
unfolding is_draining_of record_agrees_of phase_agrees
rows_some Reading rows done closing h q = true_false refl (sym q)
rows_some Draining rows done closing h q =
    ltb-true _ _ (and_true (ltb 0 rows) (ltb done closing) (and_true (leb rows most_rows) (ltb 0 rows && ltb done closing) h).1).0
rows_some Over rows done closing h q = true_false refl (sym q)

-- ---- what an accepted call knows of the record

-- where a call is accepted, what its tests after the table's say
past_table : (s : List ℕ) {f : Fault} (g : Fault) → f ≡ after_table s g → f.number ≡ 0 → g.number ≡ 0
unfolding after_table
past_table s {f} g e h = go (eqb (announced s).number 0) refl (ap (λ (k : Fault). k.number) (sym e) ∙ h)
  where
    go : (b : Bool) → eqb (announced s).number 0 ≡ b → (refuse_if (not b) (announced s).number (announced s).place g).number ≡ 0 → g.number ≡ 0
    go true q k = k
    go false q k = absurd (eqb-false _ _ q k)

phase_of_table : (r : Run) (c : Checked) → of_table_of r c ≡ true → record_agrees_of r.phase r.rows r.done c.closing ≡ true
unfolding of_table_of
phase_of_table r c h = (and_true (eqbs r.kept c.kept) (record_agrees_of r.phase r.rows r.done c.closing) (and_true (eqbs r.look c.look) (eqbs r.kept c.kept && record_agrees_of r.phase r.rows r.done c.closing) h).1).1

module _ (s : List ℕ) (r : Run) (lent : ℕ) (ws : List ℕ) (space : ℕ) {f : Fault} where
  module _ (e : f ≡ row_fault_of s r lent ws space) (h : f.number ≡ 0) where
    pub row_left : r.rows < most_rows
    row_left = (row_accepted _ _ _ _ _ _ _ _ _ _ refl (past_table s _ e h)).rows_left

    pub row_turn : r.rows + r.done ≡ r.rows
    row_turn =
        let a = row_accepted _ _ _ _ _ _ _ _ _ _ refl (past_table s _ e h) in
        let z : r.done ≡ 0 = none_done r.phase r.rows r.done (announced s).closing (phase_of_table r (announced s) a.agrees) a.is_reading in
        omega (arith, z)

  pub drain_left : f ≡ drain_fault_of s r lent space → f.number ≡ 0 → r.done < (announced s).closing
  drain_left e h =
      let a = drain_accepted _ _ _ _ _ _ refl (past_table s _ e h) in
      turns_left r.phase r.rows r.done (announced s).closing (phase_of_table r (announced s) a.agrees) a.is_draining_lem

-- ---- a record that is not of the table

row_10 : (phase : Phase) (rows words room inputs bad lent given space : ℕ) → row_refusal false phase rows words room inputs bad lent given space ≡ fault foreign_record 0
unfolding row_refusal
row_10 phase rows words room inputs bad lent given space = refl

drain_10 : (phase : Phase) (words room lent space : ℕ) → drain_refusal false phase words room lent space ≡ fault foreign_record 0
unfolding drain_refusal
drain_10 phase words room lent space = refl

close_10 : (phase : Phase) → close_refusal false phase ≡ fault foreign_record 0
unfolding close_refusal
close_10 phase = refl

module _ (s : List ℕ) (r : Run) (no : (announced s).number ≡ 0 → (announced s).look ≡ r.look → (announced s).kept ≡ r.kept → ⊥) where
  pub foreign_row : (lent : ℕ) (ws : List ℕ) (space : ℕ) → after_table s (fault foreign_record 0) ≡ row_fault_of s r lent ws space
  foreign_row lent ws space =
      let c = announced s in
      let t = table_for s in
      foreign_refused s r no (λ b. row_refusal b r.phase r.rows c.words c.room t.inputs (first_bad_of t.types ws t.inputs 0) lent (length ws) space) (row_10 _ _ _ _ _ _ _ _ _)

  pub foreign_drain : (lent space : ℕ) → after_table s (fault foreign_record 0) ≡ drain_fault_of s r lent space
  foreign_drain lent space =
      let c = announced s in
      foreign_refused s r no (λ b. drain_refusal b r.phase c.words c.room lent space) (drain_10 _ _ _ _ _)

  pub foreign_turn : (k : Turn) (lent : ℕ) (ws : List ℕ) (space : ℕ) → after_table s (fault foreign_record 0) ≡ turn_fault_of k s r lent ws space
  foreign_turn Row lent ws space = foreign_row lent ws space
  foreign_turn Closing lent ws space = foreign_drain lent space

  pub foreign_close : after_table s (fault foreign_record 0) ≡ close_fault_of s r
  foreign_close = foreign_refused s r no (λ b. close_refusal b r.phase) (close_10 _)
