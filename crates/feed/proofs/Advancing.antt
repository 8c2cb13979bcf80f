-- Laws of a step: what a stage's functions did is how the program goes on. Assumes nothing.
use Prim.Native.Nat.{ℕ, zero, suc, ◌+◌, ◌*◌, ◌≤◌, ◌<◌}
use native.Mathlib.Nat.{suc-mul, zero-mul}
use native.Mathlib.Omega.{arith}
use mathlib.Core.Path.{◌≡◌, refl, sym, ap, ◌∙◌}
use mathlib.Core.List.{List, ◌++◌}
use lib.ListN.{length, take}
use Rattle.limits.specs.Limits.{most_words}
use Rattle.basis.specs.Written.{Wrote}
use Rattle.lines.specs.Lines.{refusal_line}
use Rattle.lines.proofs.Lengths.{wrote_within}
use Rattle.announce.specs.Announced.{announced}
use Rattle.prepare.specs.PlanFor.{table_for}
use Rattle.monitor.specs.declared.Run.{Run}
use Rattle.monitor.specs.Calls.{Answer}
use Rattle.monitor.specs.Calls.{open_call, Opens}
use Rattle.answers.specs.Rows.{begun, after_rows, Reached, Taken, Answered}
use Rattle.feed.specs.Head.{Stopped, Refused, Table as Tabled}
use Rattle.feed.specs.declared.Stage.TheVariants.{Head, Table, Rows, Shut}
use Rattle.feed.specs.Head.{input_head}
use Rattle.feed.specs.Printed.{printed}
use Rattle.feed.specs.Stands.{AtHead, AtTable, Held, FromHead, FromTable, FromRows}
use Rattle.feed.proofs.Stages.{head_bytes, head_more, head_table, table_whole, whole_long, table_opened, part_whole, rows_whole}
use Rattle.feed.proofs.Texts.{printed_refused, printed_table}
use Rattle.feed.proofs.Inputs.{opened_number, opened_place, some_input}

-- ---- the head

module _ {part piece part1 : List ℕ} {have : ℕ} (h : Held part have piece 1 part1) where
  pub head_stopped : {text1 : List ℕ} → input_head (take (have + 1) part1) ≡ Stopped → FromHead part have piece (record { stage = Head (have + 1); used = 1; at = 0 }) part1 text1
  head_stopped e table store = record { some = omega arith; within = h.within; fits = omega arith; onward = λ b said x. head_more x h e }

  pub head_tabled : {text1 : List ℕ} {n : ℕ} → input_head (take (have + 1) part1) ≡ Tabled n → FromHead part have piece (record { stage = Table n 0; used = 1; at = 0 }) part1 text1
  head_tabled e table store = record { some = omega arith; within = h.within; fits = omega arith; onward = λ b said x. head_table x h table e }

  pub head_refused : {text text1 : List ℕ} {k p at : ℕ} → input_head (take (have + 1) part1) ≡ Refused k p → Wrote text 0 (refusal_line k p) text1 at
      → FromHead part have piece (record { stage = Shut; used = 1; at = at }) part1 text1
  head_refused {text} {text1} {k} {p} {at} e w table store = record { some = omega arith; within = h.within; fits = wrote_within (omega arith) w; onward = shut }
    where
      shut : (b said : List ℕ) → AtHead b part have said → (more : List ℕ) → printed ((b ++ take 1 piece) ++ more) ≡ said ++ take at text1
      shut b said x more =
          printed_refused (b ++ take 1 piece) more (ap input_head (sym (head_bytes x h)) ∙ e) ∙ sym w.front ∙ ap (λ (l : List ℕ). l ++ take at text1) (sym x.silent)

-- ---- the table

module _ {table piece table1 : List ℕ} {n have m : ℕ} (h : Held table have piece m table1) (some : 0 < m) where
  module _ (whole : have + m ≡ n) (store : List ℕ) (long : length store ≡ most_words) {a : Answer} {store1 : List ℕ} (o : Opens (open_call (take n table1) store) a store1) where
    pub table_refused : {text text1 : List ℕ} {at : ℕ} → (a.number ≡ 0 → ⊥) → Wrote text 0 (refusal_line a.number a.place) text1 at
        → FromTable table n have piece (record { stage = Shut; used = m; at = at }) table1 store1 text1
    table_refused {text} {text1} {at} f w part = record { some = some; within = h.within; fits = wrote_within (omega arith) w; onward = shut }
      where
        shut : (b said : List ℕ) → AtTable b table n have said → (more : List ℕ) → printed ((b ++ take m piece) ++ more) ≡ said ++ take at text1
        shut b said x more =
            ap (λ (l : List ℕ). printed (l ++ more)) (table_whole x h whole)
            ∙ printed_table x.head x.head_is x.head_long (take n table1) more (whole_long x h whole) (λ e. f (opened_number (take n table1) store long o ∙ e))
            ∙ rw (← opened_number (take n table1) store long o, ← opened_place (take n table1) store long o f) (sym w.front) ∙ ap (λ (l : List ℕ). l ++ take at text1) (sym x.silent)

    pub table_taken : {text1 : List ℕ} → a.number ≡ 0 → FromTable table n have piece (record { stage = Rows n 0 a.run; used = m; at = 0 }) table1 store1 text1
    table_taken f part =
        let acc : (announced (take n table1)).number ≡ 0 = sym (opened_number (take n table1) store long o) ∙ f in
        record { some = some; within = h.within; fits = omega arith; onward = λ b said x. table_opened x h whole part store long acc (some_input (take n table1) acc) o }

-- ---- rows

-- where a whole row is there, one is taken; where no more is there, no more
some_row : {p : List ℕ} {inputs k used : ℕ} → Taken p inputs k used → 4 * inputs ≤ length p → 0 < used
some_row {used = zero} t l = absurd (omega (arith, t.some refl))
some_row {used = suc used} t l = omega arith

one_row : {p : List ℕ} {inputs k used : ℕ} → Taken p inputs k used → length p ≡ 4 * inputs → k ≡ 1
one_row {inputs = inputs} {k = zero} t e = absurd (omega (arith, some_row t (omega arith), t.used_is, zero-mul (4 * inputs)))
one_row {inputs = inputs} {k = suc zero} t e = refl
one_row {inputs = inputs} {k = suc (suc k)} t e =
    absurd (omega (arith, some_row t (omega arith), t.whole, t.used_is, e, suc-mul (suc k) (4 * inputs), suc-mul k (4 * inputs)))

module _ {part piece part1 : List ℕ} {have m : ℕ} (h : Held part have piece m part1) (some : 0 < m) {table : List ℕ} {n : ℕ} {store : List ℕ} {run : Run} where
  pub row_taken : {run1 : Run} {store1 text text1 : List ℕ} {inputs row used at : ℕ} → inputs ≡ (table_for (take n table)).inputs → row ≡ 4 * inputs → have + m ≡ row
      → length (take row part1) ≡ row → Answered (take n table) (take row part1) inputs (begun run store) run1 store1 text text1 used at
      → FromRows run table store part n have piece (record { stage = Rows n 0 run1; used = m; at = at }) store1 part1 text1
  row_taken {run1} {store1} {text} {text1} {inputs} {row} {used} {at} i e w c g =
      let one : g.rows ≡ 1 = one_row g.taken (c ∙ e) in
      let f : Reached (after_rows (take n table) (take (have + m) part1) (table_for (take n table)).inputs 1 (begun run store)) run1 store1 text 0 text1 at =
      rw (w, ← i, ← one) g.reached in
      record { some = some; within = h.within; fits = wrote_within (omega arith) g.reached.wrote; onward = λ b said x. part_whole x h (w ∙ e ∙ ap (λ (j : ℕ). 4 * j) i) f }

pub rows_taken : {table piece part : List ℕ} {n have : ℕ} {run run1 : Run} {store store1 text text1 : List ℕ} {inputs used at : ℕ} → have ≡ 0 → inputs ≡ (table_for (take n table)).inputs
    → 4 * inputs ≤ length piece → Answered (take n table) piece inputs (begun run store) run1 store1 text text1 used at
    → FromRows run table store part n have piece (record { stage = Rows n 0 run1; used = used; at = at }) store1 part text1
rows_taken {used = used} z i l g =
    let u = rw i at g.taken in
    let f = rw i at g.reached in
    rw z (record { some = some_row g.taken l; within = g.taken.whole; fits = wrote_within (omega arith) g.reached.wrote; onward = λ b said x. rows_whole x g.rows used u f })
