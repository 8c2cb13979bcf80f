-- Laws of forms: where a text leaves a sequence, and where it leaves a choice. Assumes nothing.
use Prim.Native.Nat.{ℕ, zero, suc, ◌+◌, ◌≤◌}
use native.Mathlib.Omega.{arith}
use native.Mathlib.Decide.{ℕ_discrete}
use native.Mathlib.Nat.{suc-add, zero-add}
use mathlib.Core.Path.{◌≡◌, refl, sym, ap, ◌∙◌, subst}
use mathlib.Core.Logic.{◌⊎◌, inl, inr}
use mathlib.Core.List.{List, [], ◌∷◌, ◌++◌, append_assoc}
use lib.ListN.{length}
use Rattle.basis.proofs.Tests.{lt_or_ge}
use Rattle.shapes.specs.Forms.{Form, Parts, here, next, Within, Fault, Small, none, more, Marked, mark, behind, Plain, Outcome, whole, fault, Reads, word, seq, alt}

-- texts that part still part when more follows
pub parts_more : {u s : List ℕ} {k : ℕ} (v : List ℕ) → Parts u s k → Parts (u ++ v) s k
parts_more v (here n) = here n
parts_more v (next h) = next (parts_more v h)

pub parts_before : {u s : List ℕ} {k : ℕ} (v : List ℕ) → Parts u s k → Parts u (s ++ v) k
parts_before v (here n) = here n
parts_before v (next h) = next (parts_before v h)

pub parts_sym : {u s : List ℕ} {k : ℕ} → Parts u s k → Parts s u k
parts_sym (here n) = here (λ e. n (sym e))
parts_sym (next h) = next (parts_sym h)

-- and when the same stands before them
pub parts_behind : (u : List ℕ) {v s : List ℕ} {k : ℕ} → Parts v s k → Parts (u ++ v) (u ++ s) (length u + k)
parts_behind [] {v} {s} {k} h = subst (λ (n : ℕ). Parts v s n) (sym (zero-add k)) h
parts_behind (a ∷ u) {v} {s} {k} h =
    subst (λ (n : ℕ). Parts (a ∷ (u ++ v)) (a ∷ (u ++ s)) n) (sym (suc-add (length u) k)) (next (parts_behind u h))

-- they part within the first
pub parts_in_left : {u s : List ℕ} {k : ℕ} → Parts u s k → suc k ≤ length u
parts_in_left (here n) = omega arith
parts_in_left (next h) = let e = parts_in_left h in omega arith

pub parts_in_right : {u s : List ℕ} {k : ℕ} → Parts u s k → suc k ≤ length s
parts_in_right (here n) = omega arith
parts_in_right (next h) = let e = parts_in_right h in omega arith

pub within_more : {u s : List ℕ} {p : ℕ} (v : List ℕ) → Within u s p → Within (u ++ v) s p
within_more v w = record { at = w.at; early = w.early; parts = parts_more v w.parts }

pub within_later : {u s : List ℕ} {p q : ℕ} → p ≤ q → Within u s p → Within u s q
within_later h w = record { at = w.at; early = omega (arith, w.early); parts = w.parts }

pub within_behind : (u : List ℕ) {v s : List ℕ} {p : ℕ} → Within v s p → Within (u ++ v) (u ++ s) (length u + p)
within_behind u w = record { at = length u + w.at; early = omega (arith, w.early); parts = parts_behind u w.parts }

-- a sequence is left where its first part is, if something can follow
pub seq_first : (F : Form) (G : F.Of → Form) {s : List ℕ} {p : ℕ} → ((x : F.Of) → (G x).Of) → Fault F s p → Fault (seq F G) s p
seq_first F G g h = record {
  near = (h.near, g h.near);
  goes = parts_more ((G h.near).print (g h.near)) h.goes;
  others = λ t. within_more ((G t.0).print t.1) (h.others t.0);
}

-- else where its second part is: each thing of the first form has the text of x or parts from it
seq_second_by : (F : Form) (G : F.Of → Form) {s : List ℕ} {p : ℕ} (x : F.Of)
    → ((x' : F.Of) → ((y : (G x').Of) → Within (F.print x' ++ (G x').print y) (F.print x ++ s) (length (F.print x) + p)) ⊎ ((k : ℕ) × Parts (F.print x') (F.print x) k))
    → Fault (G x) s p → Fault (seq F G) (F.print x ++ s) (length (F.print x) + p)
seq_second_by F G {s} {p} x f h = record {
  near = (x, h.near);
  goes = parts_behind (F.print x) h.goes;
  others = λ t. by t.0 t.1 (f t.0);
}
  where
    by : (x' : F.Of) (y : (G x').Of) → ((y : (G x').Of) → Within (F.print x' ++ (G x').print y) (F.print x ++ s) (length (F.print x) + p)) ⊎ ((k : ℕ) × Parts (F.print x') (F.print x) k)
        → Within (F.print x' ++ (G x').print y) (F.print x ++ s) (length (F.print x) + p)
    by x' y (inl w) = w y
    by x' y (inr w) = record { at = w.0; early = omega (arith, parts_in_right w.1); parts = parts_more ((G x').print y) (parts_before s w.1) }

pub seq_second : (F : Form) (G : F.Of → Form) {s : List ℕ} {p : ℕ} → Plain F → (x : F.Of) → Fault (G x) s p
    → Fault (seq F G) (F.print x ++ s) (length (F.print x) + p)
seq_second F G {s} {p} f x h = seq_second_by F G x (λ x'. by x' (f.apart x' x)) h
  where
    Same : F.Of → Type 0
    Same x' = (y : (G x').Of) → Within (F.print x' ++ (G x').print y) (F.print x ++ s) (length (F.print x) + p)

    by : (x' : F.Of) → (x' ≡ x) ⊎ ((k : ℕ) × Parts (F.print x') (F.print x) k) → Same x' ⊎ ((k : ℕ) × Parts (F.print x') (F.print x) k)
    by x' (inl e) = inl (subst Same (sym e) λ y. within_behind (F.print x) (h.others y))
    by x' (inr w) = inr w

-- where the second form doesn't hang on the first it is enough that equal things have equal texts
pub then_second : (F G : Form) {s : List ℕ} {p : ℕ} → ((x y : F.Of) → (F.print x ≡ F.print y) ⊎ ((k : ℕ) × Parts (F.print x) (F.print y) k)) → (x : F.Of) → Fault G s p
    → Fault (seq F λ _. G) (F.print x ++ s) (length (F.print x) + p)
then_second F G {s} {p} f x h = seq_second_by F (λ _. G) x (λ x'. by x' (f x' x)) h
  where
    Same : List ℕ → Type 0
    Same u = (y : G.Of) → Within (u ++ G.print y) (F.print x ++ s) (length (F.print x) + p)

    by : (x' : F.Of) → (F.print x' ≡ F.print x) ⊎ ((k : ℕ) × Parts (F.print x') (F.print x) k) → Same (F.print x') ⊎ ((k : ℕ) × Parts (F.print x') (F.print x) k)
    by x' (inl e) = inl (subst Same (sym e) λ y. within_behind (F.print x) (h.others y))
    by x' (inr w) = inr w

seq_apart : (F : Form) (G : F.Of → Form) → Plain F → ((x : F.Of) → Plain (G x)) → (t t' : (x : F.Of) × (G x).Of)
    → (t ≡ t') ⊎ ((k : ℕ) × Parts (F.print t.0 ++ (G t.0).print t.1) (F.print t'.0 ++ (G t'.0).print t'.1) k)
seq_apart F G f g t t' = by t.0 t.1 (f.apart t.0 t'.0)
  where
    R : (x : F.Of) → (G x).Of → Type 0
    R x y = (◌≡◌ {A = (x : F.Of) × (G x).Of} (x, y) t') ⊎ ((k : ℕ) × Parts (F.print x ++ (G x).print y) (F.print t'.0 ++ (G t'.0).print t'.1) k)

    one : (y : (G t'.0).Of) → (y ≡ t'.1) ⊎ ((k : ℕ) × Parts ((G t'.0).print y) ((G t'.0).print t'.1) k) → R t'.0 y
    one y (inl e) = inl (ap (λ (z : (G t'.0).Of). (t'.0, z)) e)
    one y (inr w) = inr (length (F.print t'.0) + w.0, parts_behind (F.print t'.0) w.1)

    by : (x : F.Of) (y : (G x).Of) → (x ≡ t'.0) ⊎ ((k : ℕ) × Parts (F.print x) (F.print t'.0) k) → R x y
    by x y (inl e) = subst (λ (z : F.Of). (y : (G z).Of) → R z y) (sym e) (λ y. one y ((g t'.0).apart y t'.1)) y
    by x y (inr w) = inr (w.0, parts_more ((G x).print y) (parts_before ((G t'.0).print t'.1) w.1))

pub small_both : {u v : List ℕ} → Small u → Small v → Small (u ++ v)
small_both none k = k
small_both (more l h) k = more l (small_both h k)

pub seq_plain : (F : Form) (G : F.Of → Form) → Plain F → ((x : F.Of) → Plain (G x)) → Plain (seq F G)
seq_plain F G f g = record { apart = seq_apart F G f g; small = λ t. small_both (f.small t.0) ((g t.0).small t.1) }

-- the end mark is behind what has none
pub marked_rest : {u : List ℕ} (r : List ℕ) → Small u → Marked (u ++ r) → Marked r
marked_rest r none m = m
marked_rest r (more l h) mark = absurd (omega arith)
marked_rest r (more l h) (behind m) = marked_rest r h m

-- a reader of a sequence: read the first, then the second behind it
pub seq_reads : (F : Form) (G : F.Of → Form) → Plain F → ((x : F.Of) → (G x).Of) → Reads F → ((x : F.Of) → Reads (G x)) → Reads (seq F G)
seq_reads F G f g a b s m = first (a s m)
  where
    second : (x : F.Of) (r : List ℕ) → s ≡ F.print x ++ r → Outcome (G x) r → Outcome (seq F G) s
    second x r e (whole y q d) = whole (x, y) q (e ∙ ap (λ (l : List ℕ). F.print x ++ l) d ∙ sym (append_assoc (F.print x) ((G x).print y) q))
    second x r e (fault p h) = fault (length (F.print x) + p) (subst (λ (l : List ℕ). Fault (seq F G) l (length (F.print x) + p)) (sym e) (seq_second F G f x h))

    first : Outcome F s → Outcome (seq F G) s
    first (fault p h) = fault p (seq_first F G g h)
    first (whole x r e) = second x r e (b x r (marked_rest r (f.small x) (subst Marked e m)))

-- a choice is left where both parts are: at the further of the two places
pub alt_left : (F G : Form) {s : List ℕ} {p q : ℕ} → q ≤ p → Fault F s p → Fault G s q → Fault (alt F G) s p
alt_left F G {s} {p} {q} l h k = record { near = inl h.near; goes = h.goes; others = each }
  where
    each : (t : F.Of ⊎ G.Of) → Within ((alt F G).print t) s p
    each (inl x) = h.others x
    each (inr y) = within_later l (k.others y)

pub alt_right : (F G : Form) {s : List ℕ} {p q : ℕ} → p ≤ q → Fault F s p → Fault G s q → Fault (alt F G) s q
alt_right F G {s} {p} {q} l h k = record { near = inr k.near; goes = k.goes; others = each }
  where
    each : (t : F.Of ⊎ G.Of) → Within ((alt F G).print t) s q
    each (inl x) = within_later l (h.others x)
    each (inr y) = k.others y

pub alt_reads : (F G : Form) → Reads F → Reads G → Reads (alt F G)
alt_reads F G a b s m = by (a s m) (b s m)
  where
    further : (p q : ℕ) → Fault F s p → Fault G s q → (suc p ≤ q) ⊎ (q ≤ p) → Outcome (alt F G) s
    further p q h k (inl l) = fault q (alt_right F G (omega arith) h k)
    further p q h k (inr l) = fault p (alt_left F G l h k)

    by : Outcome F s → Outcome G s → Outcome (alt F G) s
    by (whole x r e) o = whole (inl x) r e
    by (fault p h) (whole y r e) = whole (inr y) r e
    by (fault p h) (fault q k) = further p q h k (lt_or_ge p q)

pub alt_plain : (F G : Form) → Plain F → Plain G → ((x : F.Of) (y : G.Of) → (k : ℕ) × Parts (F.print x) (G.print y) k) → Plain (alt F G)
alt_plain F G f g d = record { apart = each; small = bytes }
  where
    bytes : (t : F.Of ⊎ G.Of) → Small ((alt F G).print t)
    bytes (inl x) = f.small x
    bytes (inr y) = g.small y

    up : {X Y : Type 0} {P Q : Type 0} → (X → Y) → (P → Q) → X ⊎ P → Y ⊎ Q
    up a b (inl x) = inl (a x)
    up a b (inr y) = inr (b y)

    each : (t t' : F.Of ⊎ G.Of) → (t ≡ t') ⊎ ((k : ℕ) × Parts ((alt F G).print t) ((alt F G).print t') k)
    each (inl x) (inl y) = up (λ e. ap (λ (z : F.Of). inl z) e) (λ w. w) (f.apart x y)
    each (inl x) (inr y) = inr (d x y)
    each (inr x) (inl y) = inr ((d y x).0, parts_sym (d y x).1)
    each (inr x) (inr y) = up (λ e. ap (λ (z : G.Of). inr z) e) (λ w. w) (g.apart x y)

-- the same texts, so the same faults
pub fault_same : (F G : Form) {s : List ℕ} {p : ℕ} (to : F.Of → G.Of) (from : G.Of → F.Of) → ((x : F.Of) → F.print x ≡ G.print (to x))
    → ((y : G.Of) → G.print y ≡ F.print (from y)) → Fault F s p → Fault G s p
fault_same F G {s} {p} to from a b h = record {
  near = to h.near;
  goes = subst (λ (u : List ℕ). Parts u s p) (a h.near) h.goes;
  others = λ y. subst (λ (u : List ℕ). Within u s p) (sym (b y)) (h.others (from y));
}

-- one fixed text is read by comparing byte for byte
pub word_reads : (w : List ℕ) → Small w → Reads (word w)
word_reads w b s m = by (go w s b m)
  where
    Way : List ℕ → List ℕ → Type 0
    Way w s = ((r : List ℕ) × (s ≡ w ++ r)) ⊎ ((k : ℕ) × Parts w s k)

    on : (a : ℕ) (w s : List ℕ) → Way w s → Way (a ∷ w) (a ∷ s)
    on a w s (inl h) = inl (h.0, ap (λ (l : List ℕ). a ∷ l) h.1)
    on a w s (inr h) = inr (suc h.0, next h.1)

    test : (a c : ℕ) (w s : List ℕ) → Dec (a ≡ c) → Way w s → Way (a ∷ w) (c ∷ s)
    test a c w s (yes e) o = subst (λ (z : ℕ). Way (a ∷ w) (z ∷ s)) e (on a w s o)
    test a c w s (no n) o = inr (zero, here n)

    go : (w s : List ℕ) → Small w → Marked s → Way w s
    go w s none m = inl (s, refl)
    go w s (more {b = a} l b) mark = inr (zero, here (λ (e : a ≡ 256). omega arith))
    go w s (more {b = a} {w = w'} l b) (behind {b = c} {s = s'} m) = test a c w' s' (ℕ_discrete a c) (go w' s' b m)

    by : Way w s → Outcome (word w) s
    by (inl h) = whole tt h.0 h.1
    by (inr h) = fault h.0 (record { near = tt; goes = h.1; others = λ _. record { at = h.0; early = omega arith; parts = h.1 } })

pub word_plain : (w : List ℕ) → Small w → Plain (word w)
word_plain w b = record { apart = λ x y. inl refl; small = λ _. b }

-- the end mark itself
pub end_reads : Reads (word (256 ∷ []))
end_reads s (mark {s = r}) = whole tt r refl
end_reads s (behind {b} {s = r} m) = by b r (ℕ_discrete 256 b)
  where
    by : (b : ℕ) (s : List ℕ) → Dec (256 ≡ b) → Outcome (word (256 ∷ [])) (b ∷ s)
    by b s (yes e) = whole tt s (ap (λ (c : ℕ). c ∷ s) (sym e))
    by b s (no n) = fault zero (record { near = tt; goes = here n; others = λ _. record { at = zero; early = omega arith; parts = here n } })
