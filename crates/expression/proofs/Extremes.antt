-- What two arrays hold once an expression's references are noted in them: the largest and the smallest weight to each stream. One law
-- over the measure. Assumes nothing.
use mathlib.Core.Path.{◌≡◌, refl, sym, ap, ◌∙◌}
use mathlib.Core.Bool.{Bool, true, false}
use mathlib.Core.List.{List, [], ◌∷◌, ◌++◌}
use mathlib.Core.Logic.{◌⊎◌, inl, inr, ⊎_elim}
use Prim.Native.Nat.{ℕ, ◌+◌, ◌≤◌, ◌<◌}
use native.Mathlib.Omega.{arith}
use borrow.Author.Tests.{ltb-true, ltb-false, eqb-true, eqb-false}
use lib.Dec.{ltb, eqb}
use lib.IntN.{ℤ, pos}
use lib.ListN.{length, get_or, set, length-set}
use lib.Seq.{get_or-set_same, get_or-set_other, set_out}
use Rattle.basis.specs.Notes.{rising, falling}
use Rattle.limits.specs.Limits.{rise_of_zero, fall_of_zero}
use Rattle.basis.specs.Edges.{Edge, Has, here, later}
use Rattle.basis.specs.Parts.{up, down}
use Rattle.basis.proofs.Edges.{has_before, has_after, has_either}
use Rattle.basis.proofs.Tests.{pick_case, lt_or_ge}
use Rattle.node.specs.declared.Node.{Node}
use Rattle.node.specs.declared.Node.TheVariants.{Constant, Now, At, Operator}
use Rattle.expression.specs.Syntax.{Expr, leaf, unary, binary, ternary}
use Rattle.expression.specs.References.{edge, node_references, references, raised, node_noted, noted, Refers, Extremes}
use Rattle.expression.proofs.Measures.{rising_is, falling_is}
use Rattle.expression.proofs.References.{no_edge}

-- the array b holds what a held and the edges from y of a list, by the measure m
pub record Notes (m : ℤ → ℕ) (y : ℕ) (es : List Edge) (a b : List ℕ) : Type 0 where
  pub size : length b ≡ length a
  pub keeps : (v : ℕ) → get_or a v 0 ≤ get_or b v 0
  pub covers : (v : ℕ) (k : ℤ) → v < length a → Has y v k es → m k ≤ get_or b v 0
  pub comes : (v : ℕ) → (get_or b v 0 ≡ get_or a v 0) ⊎ ((k : ℤ) × Has y v k es × (get_or b v 0 ≡ m k))

-- an entry after a write is what is written, or what it was
set_entry : (a : List ℕ) (v x u : ℕ) → ((get_or (set a v x) u 0 ≡ get_or a u 0) × (u ≡ v → length a ≤ v)) ⊎ ((u ≡ v) × (get_or (set a v x) u 0 ≡ x))
set_entry a v x u = go (eqb u v) refl
  where
    go : (b : Bool) → eqb u v ≡ b → ((get_or (set a v x) u 0 ≡ get_or a u 0) × (u ≡ v → length a ≤ v)) ⊎ ((u ≡ v) × (get_or (set a v x) u 0 ≡ x))
    go true e = let q = eqb-true u v e in ⊎_elim (λ l. inr (q, ap (λ (i : ℕ). get_or (set a v x) i 0) q ∙ get_or-set_same a v x 0 l)) (λ g. inl (ap (λ (l : List ℕ). get_or l u 0) (set_out a v x g), λ _. g)) (lt_or_ge v (length a))
    go false e = inl (get_or-set_other a v u x 0 (eqb-false u v e), λ q. absurd (eqb-false u v e q))

module _ (m : ℤ → ℕ) (y : ℕ) where
  notes_none : (a : List ℕ) → Notes m y [] a a
  notes_none a = record { size = refl; keeps = λ v. omega arith; covers = λ v k h x. no_edge refl x; comes = λ v. inl refl }

  notes_then : {es fs : List Edge} {a b c : List ℕ} → Notes m y es a b → Notes m y fs b c → Notes m y (es ++ fs) a c
  notes_then {es} {fs} {a} {b} {c} p q = record {
    size = q.size ∙ p.size;
    keeps = λ v. omega (arith, p.keeps v, q.keeps v);
    covers = λ v k h x. ⊎_elim (λ l. omega (arith, p.covers v k h l, q.keeps v)) (λ r. q.covers v k (omega (arith, p.size)) r) (has_either es x);
    comes = λ v. ⊎_elim (λ e. ⊎_elim (λ f. inl (e ∙ f)) (λ f. inr (f.0, has_before fs f.1, e ∙ f.2)) (p.comes v)) (λ f. inr (f.0, has_after es f.1, f.2)) (q.comes v);
  }

  one_edge_is : {v u : ℕ} {k j : ℤ} → Has y u j (edge y v k ∷ []) → (v ≡ u) × (k ≡ j)
  one_edge_is (here p q e) = (q, e)
  one_edge_is (later h) = no_edge refl h

  notes_raised : (v : ℕ) (k : ℤ) (a : List ℕ) → Notes m y (edge y v k ∷ []) a (raised v (m k) a)
  unfolding raised
  notes_raised v k a = pick_case (Notes m y (edge y v k ∷ []) a) (ltb (get_or a v 0) (m k)) (set a v (m k)) a less enough
    where
      less : ltb (get_or a v 0) (m k) ≡ true → Notes m y (edge y v k ∷ []) a (set a v (m k))
      less p = record {
        size = length-set a v (m k);
        keeps = λ u. ⊎_elim (λ e. omega (arith, e.0)) (λ e. omega (arith, ltb-true (get_or a v 0) (m k) p, e.1, ap (λ (i : ℕ). get_or a i 0) e.0)) (set_entry a v (m k) u);
        covers = λ u j l h. let o = one_edge_is h in ⊎_elim (λ e. absurd (omega (arith, e.1 (sym o.0)))) (λ e. omega (arith, e.1, ap m o.1)) (set_entry a v (m k) u);
        comes = λ u. ⊎_elim (λ e. inl e.0) (λ e. inr (k, here refl (sym e.0) refl, e.1)) (set_entry a v (m k) u);
      }

      enough : ltb (get_or a v 0) (m k) ≡ false → Notes m y (edge y v k ∷ []) a a
      enough p = record {
        size = refl;
        keeps = λ u. omega arith;
        covers = λ u j l h. let o = one_edge_is h in omega (arith, ltb-false (get_or a v 0) (m k) p, ap (λ (i : ℕ). get_or a i 0) o.0, ap m o.1);
        comes = λ u. inl refl;
      }

  node_notes : (n : Node) (a : List ℕ) → Notes m y (node_references y n) a (node_noted m n a)
  unfolding node_references node_noted
  node_notes (Constant t x) a = notes_none a
  node_notes (Now v) a = notes_raised v (pos 0) a
  node_notes (At v k d) a = notes_raised v k a
  node_notes (Operator k) a = notes_none a

  pub noted_notes : (e : Expr) (a : List ℕ) → Notes m y (references y e) a (noted m e a)
  unfolding references noted
  noted_notes (leaf n) a = node_notes n a
  noted_notes (unary k e) a = noted_notes e a
  noted_notes (binary k e f) a = notes_then (noted_notes e a) (noted_notes f _)
  noted_notes (ternary k e f g) a = notes_then (notes_then (noted_notes e a) (noted_notes f _)) (noted_notes g _)

-- noted in two arrays that hold nothing for v, the references to v have their extremes there
module _ {y streams : ℕ} (e : Expr) (r : Refers y streams (references y e)) (a b : List ℕ) (v : ℕ) (la : v < length a) (lb : v < length b) (za : get_or a v 0 ≡ 0) (zb : get_or b v 0 ≡ 0) where
  rises : Notes rising y (references y e) a (noted rising e a)
  rises = noted_notes rising y e a

  falls : Notes falling y (references y e) b (noted falling e b)
  falls = noted_notes falling y e b

  between : (k : ℤ) → Has y v k (references y e) → (rise_of_zero + up k ≤ get_or (noted rising e a) v 0 + down k) × (fall_of_zero + down k ≤ get_or (noted falling e b) v 0 + up k)
  between k h =
      let g = (r y v k h).ranged in
      (omega (arith, rises.covers v k la h, rising_is g), omega (arith, falls.covers v k lb h, falling_is g))

  largest : 1 ≤ get_or (noted rising e a) v 0 → (k : ℤ) × Has y v k (references y e) × (get_or (noted rising e a) v 0 + down k ≡ rise_of_zero + up k)
  largest h = ⊎_elim (λ q. absurd (omega arith)) (λ q. (q.0, q.1, omega (arith, q.2, rising_is (r y v q.0 q.1).ranged))) (rises.comes v)

  smallest : 1 ≤ get_or (noted falling e b) v 0 → (k : ℤ) × Has y v k (references y e) × (get_or (noted falling e b) v 0 + up k ≡ fall_of_zero + down k)
  smallest h = ⊎_elim (λ q. absurd (omega arith)) (λ q. (q.0, q.1, omega (arith, q.2, falling_is (r y v q.0 q.1).ranged))) (falls.comes v)

  pub extremes : Extremes (references y e) y v (get_or (noted rising e a) v 0) (get_or (noted falling e b) v 0)
  extremes = record {
    none = λ z k h. let g = (r y v k h).ranged in absurd (omega (arith, between k h));
    together = ((λ h. let x = largest h in let g = (r y v x.0 x.1).ranged in omega (arith, between x.0 x.1)), (λ h. let x = smallest h in let g = (r y v x.0 x.1).ranged in omega (arith, between x.0 x.1)));
    between = between;
    largest = largest;
    smallest = smallest;
  }
