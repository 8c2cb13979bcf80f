-- The verdict on the whole table, behind its heading.
-- Assumes nothing.
use mathlib.Core.Path.{◌≡◌, refl, sym, ap, ◌∙◌, subst}
use Rattle.std.proofs.Common.{Err}
use mathlib.Core.List.{List, ◌++◌}
use Prim.Native.Nat.{ℕ, ◌<◌}
use native.Mathlib.Omega.{arith}
use native.Mathlib.Decide.{ℕ_discrete}
use lib.ListN.{length, get_or, take, replicate}
use lib.Seq.{get_or-take}
use Rattle.basis.specs.Firsts.{of}
use Rattle.basis.specs.Edges.{Among}
use Rattle.walks.specs.Walks.{Within, Right}
use Rattle.limits.specs.declared.Refusal.{Refusal}
use Rattle.table.specs.declared.Heading.{Heading}
use Rattle.table.specs.Table.{Equation, Table, decoded, refused, Equations, equated, unfit, edges_from, decode, streams, edges}
use Rattle.table.specs.Records.{heads}
use Rattle.table.specs.Answers.{padded, Headings, starts_of}
use Rattle.table.proofs.Decoding.{Opens, decode_unheaded, opened_inputs, opened_streams, behind_heading, decode_unfit, decode_more, decode_equated}
use Rattle.table.proofs.Sound.{sound}
use Rattle.certificate.specs.Certificate.{Ordered}
use Rattle.vouch.specs.Vouching.{Bounded, Certified, Vouches}
use Rattle.vouch.specs.Steps.{Judges}

not_refused : {X : Type 0} (s : List ℕ) {t : Table} {why place : ℕ} → decode s ≡ refused why place → decode s ≡ decoded t → X
not_refused s p q = let z : ◌≡◌ {A = ℕ} 0 1 = cc in absurd (omega arith)

-- a refused heading
pub no_heading : (s : List ℕ) {look kept : List ℕ} {r : Refusal} {lt lr : List ℕ} → Headings (get_or s 2 0) (heads s) (Err r) lt lr → (t : Table) → decode s ≡ decoded t → Certified t look kept → ⊥
no_heading s p t e x = not_refused s (decode_unheaded s p) e

-- the edges of a decoded table lie between its streams
pub edges_within : (s : List ℕ) {t : Table} → decode s ≡ decoded t → Within (Among (edges t)) (streams t)
edges_within s e y v k h = let w = (sound s e).edge_within y v k h in (w.0.1, w.1.0)

module _ {s : List ℕ} {h : Heading} {lt lr : List ℕ} (o : Opens s h lt lr) where
  -- the table of the heading and of some equations
  abbrev headed : List Equation → Table
  headed qs = record { edition = get_or s 1 0; inputs = get_or s 2 0; types = o.types; roles = o.roles; equations = qs }

  behind_decoded : (t : Table) → decode s ≡ decoded t → (qs : List Equation) × (behind_heading o ≡ equated qs (length s)) × (headed qs ≡ t)
  behind_decoded t e = go (behind_heading o) refl
    where
      at_end_lem : (qs : List Equation) (n : ℕ) → behind_heading o ≡ equated qs n → Dec (n ≡ length s) → (qs : List Equation) × (behind_heading o ≡ equated qs (length s)) × (headed qs ≡ t)
      at_end_lem qs n q (yes p) = (qs, q ∙ ap (equated qs) p, let d = decode_equated o q p in cc)
      at_end_lem qs n q (no p) = not_refused s (decode_more o q p) e

      go : (x : Equations) → behind_heading o ≡ x → (qs : List Equation) × (behind_heading o ≡ equated qs (length s)) × (headed qs ≡ t)
      go (equated qs n) q = at_end_lem qs n q (ℕ_discrete n (length s))
      go (unfit why place) q = not_refused s (decode_unfit o q) e

  -- the heading's inputs and streams are the table's
  as_headed : (P : ℕ → ℕ → Type 0) → P (get_or s 2 0) (length o.types) → P h.inputs h.streams
  as_headed P x = subst (P h.inputs) (sym (opened_streams o)) (subst (λ (i : ℕ). P i (length o.types)) (sym (opened_inputs o)) x)

  -- numbers out of bounds
  pub out_of_bounds : {look kept : List ℕ} → (Bounded look kept h.streams → ⊥) → (t : Table) → decode s ≡ decoded t → Certified t look kept → ⊥
  out_of_bounds {look} {kept} f t e x =
      let b = behind_decoded t e in
      f (subst (Bounded look kept) (ap (λ (t : Table). streams t) (sym b.2) ∙ sym (opened_streams o)) x.bounded)

  -- equations whose numbers these are not
  pub not_judged : {look kept : List ℕ} →
      ((qs : List Equation) → behind_heading o ≡ equated qs (length s) → Within (Among (edges_from h.inputs qs)) h.streams → Right (Among (edges_from h.inputs qs)) h.streams (of look) (of kept) → ⊥) →
      (t : Table) → decode s ≡ decoded t → Certified t look kept → ⊥
  unfolding edges
  not_judged {look} {kept} f t e x =
      let b = behind_decoded t e in
      f b.0 b.1
      (as_headed (λ i n. Within (Among (edges_from i b.0)) n) (subst (λ (t : Table). Within (Among (edges_from t.inputs t.equations)) (streams t)) (sym b.2) (edges_within s e)))
      (as_headed (λ i n. Right (Among (edges_from i b.0)) n (of look) (of kept)) (subst (λ (t : Table). Right (Among (edges_from t.inputs t.equations)) (streams t) (of look) (of kept)) (sym b.2) x.right))

  module _ {look kept starts order : List ℕ} (b : Bounded look kept h.streams) (j : Judges (behind_heading o) (length s) h.inputs h.streams (of look) (of kept) starts order) where
    decodes : decode s ≡ decoded (headed j.equations)
    decodes = decode_equated o j.is refl

    in_order : Ordered (Among (edges (headed j.equations))) (streams (headed j.equations)) (of look) (of kept) order
    unfolding edges
    in_order = (rw (opened_inputs o, opened_streams o) at j.ordered) (edges_within s decodes)

    pub judged : Vouches s look kept (record { inputs = h.inputs; streams = h.streams; types = lt; roles = lr; starts = starts; order = order })
    judged = record {
      table = headed j.equations;
      decodes = decodes;
      certified = record { right = in_order.right; bounded = rw (opened_streams o) at b };
      ordered = in_order;
      inputs_are = opened_inputs o;
      streams_are = opened_streams o;
      types_are = o.types_are;
      roles_are = o.roles_are;
      starts_are = j.starts_are ∙ ap (λ (i : ℕ). padded (replicate i 0 ++ starts_of j.equations)) (opened_inputs o);
    }

-- the types of the first n streams
pub first_types : (types : List ℕ) (n : ℕ) → ((v : ℕ) → get_or (take n types) v 0 < 3) → (v : ℕ) → v < n → get_or types v 0 < 3
first_types types n f v l = subst (λ (t : ℕ). t < 3) (get_or-take n types v 0 l) (f v)
