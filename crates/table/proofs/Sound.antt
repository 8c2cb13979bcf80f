-- Every table that is decoded is sound, and every refusal has a number of 1 to 6 or 9.
-- Assumes nothing.
use mathlib.Core.Path.{◌≡◌, refl, sym, ◌∙◌, subst}
use mathlib.Core.Logic.{inl, inr, ⊎_elim}
use mathlib.Core.List.{List, [], ◌∷◌}
use Prim.Native.Nat.{ℕ, zero, suc, ◌+◌, ◌-◌, ◌≤◌, ◌<◌}
use native.Mathlib.Omega.{arith}
use native.Mathlib.Nat.{le_of_suc-le-suc, not-suc-le-zero}
use lib.Dec.{eqb}
use lib.IntN.{ℤ}
use lib.ListN.{length, get_or}
use Rattle.limits.specs.Refusals.{bytes_after}
use Rattle.basis.specs.Edges.{Has}
use Rattle.basis.proofs.Edges.{has_either}
use Rattle.basis.proofs.Tests.{pick_case}
use Rattle.expression.specs.References.{references, Ranged}
use Rattle.expression.proofs.References.{no_edge}
use Rattle.expression.proofs.Sound.{good_right}
use Rattle.table.proofs.Streams.{HeadsFit, Headed, heads_fit}
use Rattle.table.proofs.Equations.{EquationFits, EquationsFit, none, more, EquationsSound, equations_sound}
use Rattle.table.specs.Records.{Declared, declares, wrong, heads}
use Rattle.table.specs.Table.{Equation, Table, Decoded, decoded, refused, Equations, equated, unfit, equations_at_of, with_heads_of, with_equations_of, table_of, decode, edges_from, edges}
use Rattle.table.specs.Sound.{Stands, Sound, TableRefusal}

module _ (ts s : List ℕ) where
  -- the k-th equation from that of the stream i on is y's
  fit_at : (d : Equation) (i : ℕ) (qs : List Equation) → EquationsFit ts s i qs → (k y : ℕ) → i + k ≡ y → k < length qs → EquationFits ts s y (get_or qs k d)
  fit_at d i [] none k y e h = absurd (not-suc-le-zero h)
  fit_at d i (q ∷ qs) (more f r) zero y e h = let a : i ≡ y = omega arith in subst (λ (y : ℕ). EquationFits ts s y q) a f
  fit_at d i (q ∷ qs) (more f r) (suc k) y e h = fit_at d (i + 1) qs r k y (omega arith) (le_of_suc-le-suc h)

  -- an edge of these equations leaves one of their streams
  edge_leads : (i : ℕ) (qs : List Equation) → EquationsFit ts s i qs → (y v : ℕ) (k : ℤ) → Has y v k (edges_from i qs) → ((i ≤ y) × (y < i + length qs)) × ((v < length ts) × Ranged k)
  unfolding edges_from
  edge_leads i [] none y v k h = no_edge refl h
  edge_leads i (q ∷ qs) (more f r) y v k h =
      ⊎_elim
      (λ a. let l = (good_right ts s 16 (get_or ts i 0) q.start f.parsed).refers i y v k a in (omega (arith, l.from), (l.below, l.ranged)))
      (λ b. let l = edge_leads (i + 1) qs r y v k b in (omega (arith, l.0), l.1))
      (has_either (references i q.expr) h)

abbrev DecodedSound : List ℕ → Decoded → Type 0
DecodedSound s (decoded t) = Sound s t
DecodedSound s (refused why place) = TableRefusal why

module _ (s ts rs : List ℕ) (f : HeadsFit s ts rs) where
  abbrev table : List Equation → Table
  table qs = record { edition = get_or s 1 0; inputs = get_or s 2 0; types = ts; roles = rs; equations = qs }

  module _ (qs : List Equation) (l : length qs ≡ length ts - get_or s 2 0) (g : EquationsFit ts s (get_or s 2 0) qs) where
    outputs_are : get_or s 2 0 + length qs ≡ length ts
    outputs_are = omega (arith, f.streams.types_are)

    each_stands : (y : ℕ) → get_or s 2 0 ≤ y → y < length ts → Stands s (table qs) y
    each_stands y lo hi =
        let e = fit_at ts s _ (get_or s 2 0) qs g (y - get_or s 2 0) y (omega arith) (omega (arith, outputs_are)) in
        record { end = e.end; parsed = e.parsed; starts = omega (arith, e.starts, f.bytes) }

    each_edge : (y v : ℕ) (k : ℤ) → Has y v k (edges (table qs)) → ((get_or s 2 0 ≤ y) × (y < length ts)) × ((v < length ts) × Ranged k)
    unfolding edges
    each_edge y v k h = let e = edge_leads ts s (get_or s 2 0) qs g y v k h in (omega (arith, e.0, outputs_are), e.1)

    table_sound : Sound s (table qs)
    table_sound =
        record {
          bytes = f.bytes;
          first_edition = f.head.first_edition;
          some_input = f.head.some_input;
          some_output = omega (arith, f.streams.types_are, f.head.some_output);
          few = omega (arith, f.streams.types_are, f.head.few);
          outputs = outputs_are;
          each_role = f.streams.roles_are ∙ sym f.streams.types_are;
          type_is = λ v. (f.streams.each_fits v).type_is;
          role_is = λ v. (f.streams.each_fits v).role_is;
          trigger_is_flag = λ v. (f.streams.each_fits v).trigger_is_flag;
          input_is_plain = λ v h. f.streams.input_is_plain v (omega arith);
          stands = each_stands;
          edge_within = each_edge;
        }

  with_equations : (x : Equations) → EquationsSound ts s (length ts - get_or s 2 0) (get_or s 2 0) x
      → DecodedSound s (with_equations_of x λ qs e. mathlib.Core.Bool.cond (eqb e (length s)) (decoded (table qs)) (refused bytes_after e))
  with_equations (equated qs e) g =
      pick_case (DecodedSound s) (eqb e (length s)) _ _ (λ _. table_sound qs g.0 g.1) (λ _. inr refl)
  with_equations (unfit why place) g = inl g

with_heads : (s : List ℕ) (d : Declared) → Headed s d → DecodedSound s (with_heads_of d λ ts rs n. table_of s ts rs n)
unfolding table_of
with_heads s (declares ts rs n) f =
    with_equations s ts rs f (equations_at_of (length ts - get_or s 2 0) (get_or s 2 0) ts s n) (equations_sound ts s (length ts - get_or s 2 0) (get_or s 2 0) n)
with_heads s (wrong why place) f = inl f

decode_sound : (s : List ℕ) → DecodedSound s (decode s)
unfolding decode
decode_sound s = with_heads s (heads s) (heads_fit s)

pub sound : (s : List ℕ) {t : Table} → decode s ≡ decoded t → Sound s t
sound s e = subst (DecodedSound s) e (decode_sound s)

pub refusal_number : (s : List ℕ) {why place : ℕ} → decode s ≡ refused why place → TableRefusal why
refusal_number s e = subst (DecodedSound s) e (decode_sound s)
