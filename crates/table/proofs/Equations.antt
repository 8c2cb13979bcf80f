-- The equations, one after the other, and what holds of those that are read.
-- Assumes nothing.
use Rattle.std.proofs.Common.{Result, Ok, Err}
use mathlib.Core.Path.{◌≡◌, refl, ap, ◌∙◌, subst}
use mathlib.Core.List.{List, [], ◌∷◌, ◌++◌, append_assoc, append-nil}
use mathlib.Core.Logic.{⊎_elim}
use Prim.Native.Nat.{ℕ, zero, suc, ◌+◌, ◌-◌, ◌*◌, ◌≤◌, ◌<◌}
use native.Mathlib.Omega.{arith}
use native.Mathlib.Numerals.{add-one}
use native.Mathlib.Nat.{pos_of_ne-zero}
use borrow.Author.Tests.{eq-eqb, ne_eqb, eqb-true, eqb-false}
use lib.Dec.{eqb}
use lib.ListN.{length, get_or, take, set, replicate}
use lib.Seq.{take-suc-set}
use Rattle.limits.specs.Faults.{number_for}
use Rattle.limits.specs.declared.Fault.{Fault}
use Rattle.limits.specs.declared.Refusal.{Refusal}
use Rattle.limits.proofs.Faults.{number_some}
use Rattle.table.specs.declared.Solved.{Solved}
use Rattle.limits.specs.Limits.{most_table, most_streams, most_levels}
use Rattle.basis.specs.Rows.{entry}
use Rattle.basis.proofs.Tests.{lt_or_ge}
use Rattle.expression.specs.Syntax.{Expr}
use Rattle.expression.specs.Grammar.{Parsed, good, bad, parse}
use Rattle.table.proofs.Arrays.{zeros_front}
use Rattle.expression.specs.Seen.{seen_type, Seen}
use Rattle.expression.specs.Scanning.{places, Outcome, Scanning}
use Rattle.expression.proofs.Scan.{scans_bad, scan_ended, scan_refused}
use Rattle.expression.proofs.Sound.{bad_blamed}
use Rattle.table.proofs.Faults.{equation_room, equation_low}
use Rattle.table.proofs.Streams.{fine_case}
use Rattle.table.specs.Records.{equation_fault_of}
use Rattle.table.specs.Table.{Equation, Equations, equated, unfit, joined, with_expr, equation_at, equations_at_of}
use Rattle.table.specs.Answers.{padded, starts_of, Solves}
use Rattle.table.specs.Sound.{RecordRefusal}

-- what holds of an equation that is read: its expression starts in the table, behind its record
pub record EquationFits (ts s : List ℕ) (y : ℕ) (q : Equation) : Type 0 where
  pub end : ℕ
  pub parsed : parse most_levels ts s (get_or ts y 0) q.start ≡ good q.expr end
  pub starts : q.start ≤ length s

abbrev EquationSound : List ℕ → List ℕ → ℕ → ℕ → Parsed → Type 0
EquationSound ts s y at (good e m) = EquationFits ts s y (record { start = at + 2; expr = e })
EquationSound ts s y at (bad why place) = RecordRefusal why

equation_sound : (ts s : List ℕ) (y at : ℕ) → EquationSound ts s y at (equation_at ts s y at)
unfolding equation_at
equation_sound ts s y at =
    fine_case (EquationSound ts s y at) (eqb (equation_fault_of s at y) 0) _ _
    (λ p. go (equation_room s at y (eqb-true _ _ p)) (parse most_levels ts s (get_or ts y 0) (at + 2)) refl)
    (λ p. (pos_of_ne-zero (eqb-false _ _ p), equation_low s at y))
  where
    go : at + 2 ≤ length s → (x : Parsed) → parse most_levels ts s (get_or ts y 0) (at + 2) ≡ x → EquationSound ts s y at x
    go h (good e m) q = record { end = m; parsed = q; starts = h }
    go h (bad why place) q = omega (arith, (bad_blamed ts s most_levels (get_or ts y 0) (at + 2) q).number)

-- ---- one equation, as it is scanned

-- the type in y's row is the type of y, over whatever streams these are the rows of
pub wanted_type : {types ts : List ℕ} {seen : List (List ℕ)} (y : ℕ) → Seen types seen → y < length types → get_or types y 0 < 3 → Seen ts seen → entry seen y seen_type ≡ get_or ts y 0
wanted_type {types} {ts} y a l w b = ⊎_elim (b.types y) (λ g. absurd (omega (arith, a.types y l, a.few, b.past y g (omega (arith, l, a.few))))) (lt_or_ge y (length ts))

module _ (s : List ℕ) (y at : ℕ) {ts : List ℕ} {seen : List (List ℕ)} where
  pub equation_scanned : {seen' : List (List ℕ)} {w r : ℕ} → w ≡ get_or ts y 0 → equation_fault_of s at y ≡ 0 → Scanning (parse most_levels ts s w (at + 2)) s ts seen seen' r → Scanning (equation_at ts s y at) s ts seen seen' r
  unfolding equation_at
  equation_scanned e z x = rw (eq-eqb _ _ z, ← e) x

  pub equation_refused : (f : Fault) → equation_fault_of s at y ≡ number_for f → at ≤ length s → Seen ts seen → Scanning (equation_at ts s y at) s ts seen seen (number_for f * places + at)
  unfolding equation_at
  equation_refused f p h l =
      let z = number_some f in
      let e : equation_at ts s y at ≡ bad (number_for f) at = rw (p, ne_eqb _ _ z) in
      scans_bad e (pos_of_ne-zero z) (omega (arith, p, equation_low s at y)) h (λ j h g. refl) l

-- the equations from that of the stream y on
pub data EquationsFit (ts s : List ℕ) : ℕ → List Equation → Type 0 where
  none : {y : ℕ} → EquationsFit ts s y []
  more : {y : ℕ} {q : Equation} {qs : List Equation} → EquationFits ts s y q → EquationsFit ts s (y + 1) qs → EquationsFit ts s y (q ∷ qs)

abbrev pub EquationsSound : List ℕ → List ℕ → ℕ → ℕ → Equations → Type 0
EquationsSound ts s n y (equated qs m) = (length qs ≡ n) × EquationsFit ts s y qs
EquationsSound ts s n y (unfit why place) = RecordRefusal why

module _ (ts s : List ℕ) (n y at : ℕ) where
  one_more : {q : Equation} → EquationFits ts s y q → (d : Equations) → EquationsSound ts s n (y + 1) d → EquationsSound ts s (suc n) y (joined q d)
  one_more f (equated qs m) h = (ap suc h.0, more f h.1)
  one_more f (unfit why place) h = h

  then_more : (p : Parsed) → EquationSound ts s y at p → (f : ℕ → Equations) → ((m : ℕ) → EquationsSound ts s n (y + 1) (f m)) → EquationsSound ts s (suc n) y (with_expr p λ e m. joined (record { start = at + 2; expr = e }) (f m))
  then_more (good e m) h f g = one_more h (f m) (g m)
  then_more (bad why place) h f g = h

pub equations_sound : (ts s : List ℕ) (n y at : ℕ) → EquationsSound ts s n y (equations_at_of n y ts s at)
unfolding equations_at_of
equations_sound ts s zero y at = (refl, none)
equations_sound ts s (suc n) y at =
    then_more ts s n y at (equation_at ts s y at) (equation_sound ts s y at) (λ m. equations_at_of n (y + 1) ts s m) (λ m. equations_sound ts s n (y + 1) m)

-- what answers for the equations behind q answers for q and these
solved_joined : (l : List ℕ) (q : Equation) (qs : Equations) (r : Result Solved Refusal) → Solves (l ++ q.start ∷ []) qs r → Solves l (joined q qs) r
unfolding starts_of
solved_joined l q (equated qs n) (Ok x) p = p ∙ ap (λ (m : List ℕ). record { place = n; starts = padded m }) (append_assoc l (q.start ∷ []) (starts_of qs))
solved_joined l q (equated qs n) (Err r) p = absurd p
solved_joined l q (unfit why place) r p = p

-- no equation is read yet
pub equations_first : (from : ℕ) (q : Equations) (r : Result Solved Refusal) → from ≤ most_streams → Solves (take from (replicate most_streams 0)) q r → Solves (replicate from 0) q r
equations_first from q r h p = subst (λ (l : List ℕ). Solves l q r) (zeros_front from most_streams h) p

-- what is left of the equations of the streams below n at the stream y
module _ (ts s : List ℕ) (at y n : ℕ) where
  pub no_equation : n ≤ y → equations_at_of (n - y) y ts s at ≡ equated [] at
  unfolding equations_at_of
  no_equation h = let e : n - y ≡ 0 = omega arith in rw e

  pub one_equation : {e : Expr} {m : ℕ} → y < n → equation_at ts s y at ≡ good e m → equations_at_of (n - y) y ts s at ≡ joined (record { start = at + 2; expr = e }) (equations_at_of (n - (y + 1)) (y + 1) ts s m)
  unfolding equations_at_of
  one_equation h q = let e : n - y ≡ suc (n - (y + 1)) = omega arith in rw (e, q)

  pub wrong_equation : {why place : ℕ} → y < n → equation_at ts s y at ≡ bad why place → equations_at_of (n - y) y ts s at ≡ unfit why place
  unfolding equations_at_of
  wrong_equation h q = let e : n - y ≡ suc (n - (y + 1)) = omega arith in rw (e, q)

  pub equations_end : (l : List ℕ) {starts : List ℕ} → n ≤ y → starts ≡ padded l → Solves l (equations_at_of (n - y) y ts s at) (Ok (record { place = at; starts = starts }))
  unfolding starts_of
  equations_end l h e = rw (no_equation h, e, append-nil l)

  module _ {code : ℕ} {seen seen' : List (List ℕ)} (short : length s ≤ most_table) (h : y < n) (x : Scanning (equation_at ts s y at) s ts seen seen' code) where
    pub equations_wrong : (l : List ℕ) (r : Refusal) → Outcome code (Err r) → Solves l (equations_at_of (n - y) y ts s at) (Err r)
    equations_wrong l r o =
        let f = scan_refused short x o.0 in
        let w : f.why ≡ number_for r.fault = omega (arith, f.is, f.within, o.1, o.2) in
        let p : f.place ≡ r.place = omega (arith, f.is, f.within, o.1, o.2) in
        rw (wrong_equation h f.parsed) (w, p)

    front : (starts : List ℕ) → y < length starts → take (y + 1) (set starts y (at + 2)) ≡ take y starts ++ (at + 2) ∷ []
    front starts g = rw add-one (take-suc-set starts y (at + 2) g)

    module _ {next : ℕ} (o : Outcome code (Ok next)) where
      pub equations_more : (starts : List ℕ) → y < length starts → (r : Result Solved Refusal)
          → Solves (take (y + 1) (set starts y (at + 2))) (equations_at_of (n - (y + 1)) (y + 1) ts s next) r → Solves (take y starts) (equations_at_of (n - y) y ts s at) r
      equations_more starts g r p =
          let e = scan_ended short x o.0 in
          let q : Equation = record { start = at + 2; expr = e.expr } in
          rw (one_equation h e.parsed)
          (solved_joined (take y starts) q (equations_at_of (n - (y + 1)) (y + 1) ts s code) r (rw (o.1, front starts g) at p))

      pub read_behind : next ≤ length s
      read_behind = omega (arith, o.1, (scan_ended short x o.0).behind)
