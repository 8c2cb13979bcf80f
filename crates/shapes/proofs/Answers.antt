-- What a reader answers is determined: one thing and one place behind it, or one place of a fault, and never both.
-- So two readers that meet the same contract answer the same. Assumes nothing.
use Prim.Native.Nat.{ℕ, suc, ◌+◌, ◌≤◌}
use native.Mathlib.Omega.{arith}
use mathlib.Core.Path.{◌≡◌, refl, sym, ap, ◌∙◌}
use mathlib.Core.Logic.{◌⊎◌, inl, inr}
use mathlib.Core.List.{List, ◌++◌}
use lib.ListN.{length, drop, get_or}
use Rattle.shapes.specs.Forms.{Form, Parts, here, next, Fault, Plain}
use Rattle.shapes.specs.Stuck.{ended}
use Rattle.shapes.specs.Places.{Got, Lost}
use Rattle.shapes.proofs.Forms.{parts_more, parts_before}

no_parts : (u s : List ℕ) (k : ℕ) → Parts u s k → get_or u k 0 ≡ get_or s k 0 → ⊥
no_parts u s k (here n) e = n e
no_parts u s k (next {u = u'} {s = s'} {k = j} h) e = no_parts u' s' j h e

-- texts that part stay different with whatever follows
pub parts_differ : (u s r t : List ℕ) (k : ℕ) → Parts u s k → u ++ r ≡ s ++ t → ⊥
parts_differ u s r t k h e = no_parts (u ++ r) (s ++ t) k (parts_more r (parts_before t h)) (ap (λ (l : List ℕ). get_or l k 0) e)

pub got_once : (F : Form) (text : List ℕ) (at : ℕ) (x y : F.Of) (i j : ℕ) → Plain F → Got F text at x i → Got F text at y j → (x ≡ y) × (i ≡ j)
got_once F text at x y i j f g h = by (f.apart x y)
  where
    by : (x ≡ y) ⊎ ((k : ℕ) × Parts (F.print x) (F.print y) k) → (x ≡ y) × (i ≡ j)
    by (inl e) = (e, g.ends ∙ ap (λ (z : F.Of). at + length (F.print z)) e ∙ sym h.ends)
    by (inr w) = absurd (parts_differ (F.print x) (F.print y) (drop i (ended text)) (drop j (ended text)) w.0 w.1 (sym g.reads ∙ h.reads))

parts_none : (u r s : List ℕ) (k : ℕ) → Parts u s k → s ≡ u ++ r → ⊥
parts_none u r s k (here {a} {b} n) e = n (ap (λ (l : List ℕ). get_or l 0 0) (sym e))
parts_none u r s k (next {u = u'} {s = s'} {k = j} h) e = parts_none u' r s' j h (ap (drop 1) e)

-- for every form, also the whole text with its end mark
pub got_not_lost : (F : Form) (text : List ℕ) (at : ℕ) (x : F.Of) (i p : ℕ) → Got F text at x i → Lost F text at p → ⊥
got_not_lost F text at x i p g h =
    parts_none (F.print x) (drop i (ended text)) (drop at (ended text)) (h.leaves.others x).at (h.leaves.others x).parts g.reads

parts_same : (u u' s s' : List ℕ) (j k : ℕ) → u ≡ u' → s ≡ s' → Parts u s j → Parts u' s' k → j ≡ k
parts_same u u' s s' j k e f (here n) (here m) = refl
parts_same u u' s s' j k e f (here n) (next h) = absurd (n (ap (λ (l : List ℕ). get_or l 0 0) e ∙ sym (ap (λ (l : List ℕ). get_or l 0 0) f)))
parts_same u u' s s' j k e f (next h) (here m) = absurd (m (sym (ap (λ (l : List ℕ). get_or l 0 0) e) ∙ ap (λ (l : List ℕ). get_or l 0 0) f))
parts_same u u' s s' j k e f (next {u = v} {s = t} {k = a} h) (next {u = v'} {s = t'} {k = b} i) = ap suc (parts_same v v' t t' a b (ap (drop 1) e) (ap (drop 1) f) h i)

-- the place of the fault is at most that of any other fault of the same text
fault_le : (F : Form) (s : List ℕ) (p q : ℕ) → Fault F s p → Fault F s q → p ≤ q
fault_le F s p q g h = omega (arith, parts_same (F.print g.near) (F.print g.near) s s p (h.others g.near).at refl refl g.goes (h.others g.near).parts, (h.others g.near).early)

pub lost_once : (F : Form) (text : List ℕ) (at p q : ℕ) → Lost F text at p → Lost F text at q → p ≡ q
lost_once F text at p q g h =
    omega (arith, g.place, h.place, fault_le F (drop at (ended text)) g.far h.far g.leaves h.leaves, fault_le F (drop at (ended text)) h.far g.far h.leaves g.leaves)
