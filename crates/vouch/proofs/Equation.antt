-- One equation: what the scan noted of it are the extremes of its references, so that noting the row notes its edges.
-- Assumes nothing.
use Rattle.std.proofs.Common.{Result, Ok, Err, is_err}
use mathlib.Core.Path.{◌≡◌, refl, sym, ap, ◌∙◌, subst}
use mathlib.Core.Bool.{Bool, true, false}
use mathlib.Core.List.{List, ◌++◌}
use Prim.Native.Nat.{ℕ, ◌+◌, ◌≤◌, ◌<◌}
use native.Mathlib.Omega.{arith}
use borrow.Author.Tests.{eq-eqb, eqb-true}
use lib.Dec.{eqb}
use lib.ListN.{length, get_or}
use Rattle.basis.specs.Rows.{column}
use Rattle.basis.proofs.Rows.{column_at, column_long}
use Rattle.limits.specs.declared.Fault.{Fault}
use Rattle.limits.specs.Faults.{Tested}
use Rattle.limits.proofs.Faults.{number_some}
use Rattle.basis.proofs.Tests.{true_false}
use Rattle.limits.specs.Limits.{most_table, most_streams, most_levels}
use Rattle.basis.specs.Edges.{Edge, Among}
use Rattle.expression.specs.Syntax.{Expr}
use Rattle.expression.specs.Grammar.{Parsed, good, bad, parse}
use Rattle.basis.specs.Notes.{rising, falling}
use Rattle.expression.specs.References.{references, noted, Refers, Extremes}
use Rattle.expression.specs.Seen.{seen_rise, seen_fall, Seen, Unnoted}
use Rattle.expression.specs.Scanning.{places, Scanning}
use Rattle.expression.proofs.Sound.{good_right}
use Rattle.expression.proofs.Scan.{scan_ended, scan_refused}
use Rattle.expression.proofs.Extremes.{extremes}
use Rattle.table.specs.Records.{if_fine, equation_fault_of}
use Rattle.table.specs.Table.{equation_at}
use Rattle.certificate.specs.Tally.{Row, Tally, Lacks}
use Rattle.certificate.specs.Forgotten.{rises, falls, Forgotten}
use Rattle.certificate.proofs.Forgetting.{forgotten_unnoted, none_past}

bad_good : {X : Type 0} {a b n : ℕ} {e : Expr} → bad a b ≡ good e n → X
bad_good q = let z : ◌≡◌ {A = ℕ} 0 1 = cc in absurd (omega arith)

fine_parsed : (b : Bool) (f : Unit {0} → Parsed) (why place : ℕ) {n : ℕ} {e : Expr} → if_fine b f (bad why place) ≡ good e n → (b ≡ true) × (f tt ≡ good e n)
fine_parsed true f why place q = (refl, q)
fine_parsed false f why place q = bad_good q

-- what a test's answer tells of the fault that it looks for
pub fault_found : (r : Result (Unit {0}) Fault) {n : ℕ} → true ≡ is_err r → Tested r n → n ≡ 0 → ⊥
fault_found (Ok x) e h z = true_false (sym e) refl
fault_found (Err f) e h z = number_some f (sym h ∙ z)

pub none_found : (r : Result (Unit {0}) Fault) {n : ℕ} → false ≡ is_err r → Tested r n → n ≡ 0
none_found (Ok x) e h = h
none_found (Err f) e h = true_false refl (sym e)

module _ (ts s : List ℕ) (y at : ℕ) where
  -- an equation that is read: its record has no fault, and its expression follows
  equation_read : {e : Expr} {n : ℕ} → equation_at ts s y at ≡ good e n → (eqb (equation_fault_of s at y) 0 ≡ true) × (parse most_levels ts s (get_or ts y 0) (at + 2) ≡ good e n)
  unfolding equation_at
  equation_read q = fine_parsed (eqb (equation_fault_of s at y) 0) (λ _. parse most_levels ts s (get_or ts y 0) (at + 2)) (equation_fault_of s at y) at q

  -- none is read where its record has a fault
  pub faulty_equation : {look : ℕ → ℕ} → (equation_fault_of s at y ≡ 0 → ⊥) → (e : Expr) (n : ℕ) → equation_at ts s y at ≡ good e n → Lacks look (references y e)
  faulty_equation z e n q = absurd (z (eqb-true _ _ (equation_read q).0))

  -- the references of an equation lead from its stream to streams of the table
  equation_refers : {e : Expr} {n : ℕ} → equation_at ts s y at ≡ good e n → Refers y (length ts) (references y e)
  equation_refers q = (good_right ts s most_levels (get_or ts y 0) (at + 2) (equation_read q).1).refers y

  -- its record has no fault, and its expression was scanned
  module _ (z : equation_fault_of s at y ≡ 0) {w : ℕ} (ew : w ≡ get_or ts y 0) {seen seen₁ : List (List ℕ)} {r : ℕ} (short : length s ≤ most_table) (x : Scanning (parse most_levels ts s w (at + 2)) s ts seen seen₁ r) where
    parsed_as : equation_at ts s y at ≡ parse most_levels ts s w (at + 2)
    unfolding equation_at
    parsed_as = rw (eq-eqb _ _ z, ew)

    pub no_equation : {look : ℕ → ℕ} → places ≤ r → (e : Expr) (n : ℕ) → equation_at ts s y at ≡ good e n → Lacks look (references y e)
    no_equation h e n q = bad_good (sym (scan_refused short x h).parsed ∙ sym parsed_as ∙ q)

    module _ {S : ℕ} (long : length ts ≡ S) (few : S ≤ most_streams) (start : Seen ts seen) (un : Unnoted seen) where
      refers_in : {e : Expr} {n : ℕ} → equation_at ts s y at ≡ good e n → Refers y S (references y e)
      refers_in {e} q = subst (λ (n : ℕ). Refers y n (references y e)) long (equation_refers q)

      extreme : {e : Expr} {n : ℕ} → equation_at ts s y at ≡ good e n → (v : ℕ) → v < most_streams → Extremes (references y e) y v (rises seen₁ v) (falls seen₁ v)
      extreme {e} {n} q v l =
          let i : length (column seen_rise seen) ≡ most_streams = column_long seen_rise seen ∙ start.shape.long in
          let j : length (column seen_fall seen) ≡ most_streams = column_long seen_fall seen ∙ start.shape.long in
          let a : get_or (noted rising e (column seen_rise seen)) v 0 ≡ rises seen₁ v = ap (λ (c : List ℕ). get_or c v 0) (sym (x.rises e n (sym parsed_as ∙ q))) ∙ column_at seen_rise seen₁ v in
          let b : get_or (noted falling e (column seen_fall seen)) v 0 ≡ falls seen₁ v = ap (λ (c : List ℕ). get_or c v 0) (sym (x.falls e n (sym parsed_as ∙ q))) ∙ column_at seen_fall seen₁ v in
          rw (← a, ← b) (extremes e (refers_in q) (column seen_rise seen) (column seen_fall seen) v (omega arith) (omega arith) (column_at seen_rise seen v ∙ (un v l).0) (column_at seen_fall seen v ∙ (un v l).1))

      row_of : {e : Expr} {n : ℕ} → equation_at ts s y at ≡ good e n → Row (references y e) y (rises seen₁) (falls seen₁) S
      row_of q = record { refers = refers_in q; extremes = λ v l. extreme q v (omega arith) }

      -- an edge of its row has no slack
      pub lacking_row : {look : ℕ → ℕ} → ((rs : List Edge) → Row rs y (rises seen₁) (falls seen₁) S → Lacks look rs) → (e : Expr) (n : ℕ) → equation_at ts s y at ≡ good e n → Lacks look (references y e)
      lacking_row note e n q = note (references y e) (row_of q)

      -- the expression was read
      module _ (h : r < places) where
        pub read : (e : Expr) × (equation_at ts s y at ≡ good e r)
        read = let d = scan_ended short x h in (d.expr, parsed_as ∙ d.parsed)

        pub read_behind : r ≤ length s
        read_behind = (scan_ended short x h).behind

        -- its row was noted
        pub noted_row : {look : ℕ → ℕ} {t m t' m' : List ℕ} →
            ((rs es : List Edge) → Row rs y (rises seen₁) (falls seen₁) S → Tally (Among es) look t m → Tally (Among (rs ++ es)) look t' m') →
            (es : List Edge) → Tally (Among es) look t m → Tally (Among (references y read.0 ++ es)) look t' m'
        noted_row note es = note (references y read.0) es (row_of read.1)

        -- and forgotten
        pub clean_again : {seen₂ : List (List ℕ)} → Forgotten S seen₁ seen₂ → Unnoted seen₂
        clean_again f = forgotten_unnoted f (row_of read.1) (λ v a b. none_past (refers_in read.1) a (extreme read.1 v b))
