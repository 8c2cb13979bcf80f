-- Laws of the tally: it speaks of a relation, and noting the edges of a row to one stream makes it a tally of those too.
-- Assumes nothing.
use mathlib.Core.Path.{◌≡◌, refl, sym, ◌∙◌}
use mathlib.Core.Bool.{Bool, true, false}
use mathlib.Core.Logic.{◌⊎◌, inl, inr, ⊎_elim}
use mathlib.Core.List.{List, [], ◌++◌}
use Prim.Native.Nat.{ℕ, ◌+◌, ◌-◌, ◌≤◌, ◌<◌, max}
use native.Mathlib.Omega.{arith}
use native.Mathlib.Nat.{not-suc-le-zero}
use native.Mathlib.Decide.{ℕ_discrete, dec_lt}
use lib.ListN.{length, get_or, set, length-set}
use lib.Seq.{get_or-set_same, get_or-set_other}
use lib.Dec.{eqb}
use lib.IntN.{ℤ}
use borrow.Author.Tests.{eqb-true, eqb-false}
use Rattle.limits.specs.Limits.{most_streams, rise_of_zero, fall_of_zero}
use Rattle.basis.specs.Parts.{up, down}
use Rattle.basis.specs.Edges.{Edge, Has, Among}
use Rattle.basis.proofs.Edges.{has_after, has_before, has_either}
use Rattle.walks.specs.Walks.{Edges}
use Rattle.expression.proofs.References.{no_edge}
use Rattle.certificate.specs.Certificate.{Slack, Tight}
use Rattle.certificate.specs.Tally.{bit, marked, Most, Tally, Row, Lacks, Upto, old, new, NotedCell}
use Rattle.certificate.proofs.Mask.{put_own, put_other, has_not_zero}

-- a tally of the same edges
module _ (E F : Edges) (to : (y v : ℕ) (k : ℤ) → E y v k → F y v k) (from : (y v : ℕ) (k : ℤ) → F y v k → E y v k) where
  tight_same : {look : ℕ → ℕ} {y v : ℕ} → Tight E look y v → Tight F look y v
  tight_same {look} {y} {v} t = record { k = t.k; edge = to y v t.k t.edge; tight = t.tight }

  tight_from : {look : ℕ → ℕ} {y v : ℕ} → Tight F look y v → Tight E look y v
  tight_from {look} {y} {v} t = record { k = t.k; edge = from y v t.k t.edge; tight = t.tight }

  pub tally_same : {look : ℕ → ℕ} {t m : List ℕ} → Tally E look t m → Tally F look t m
  tally_same x = record {
    long = x.long;
    slack = λ y v k e. x.slack y v k (from y v k e);
    bits = λ y v h b. tight_same (x.bits y v h b);
    tights = λ y v h z. x.tights y v h (tight_from z);
    mosts = λ v h. record {
      all = λ y k e. (x.mosts v h).all y k (from y v k e);
      real = ⊎_elim inl (λ r. inr (r.0, r.1, to r.0 v r.1 r.2, r.3)) (x.mosts v h).real;
    };
  }

-- before any edge
pub none_noted : (look : ℕ → ℕ) (t m : List ℕ) → length t ≡ most_streams → length m ≡ most_streams → ((y : ℕ) → y < most_streams → get_or t y 0 ≡ 0) → ((y : ℕ) → y < most_streams → get_or m y 0 ≡ 0) → Tally (Among []) look t m
none_noted look t m a b p q = record {
  long = (a, b);
  slack = λ y v k e. no_edge refl e;
  bits = λ y v h b. absurd (has_not_zero (get_or t y 0) v b (p y h));
  tights = λ y v h x. no_edge refl x.edge;
  mosts = λ v h. record { all = λ y k e. no_edge refl e; real = inl (q v h) };
}

-- the row has no edge to streams below 0, and none but to streams below s
module _ (rs es : List Edge) {look : ℕ → ℕ} {t m : List ℕ} where
  pub row_start : Tally (Among es) look t m → Tally (Upto rs es 0) look t m
  row_start = tally_same (Among es) (Upto rs es 0) (λ y v k h. old h) (λ y v k h. go h)
    where
      go : {y v : ℕ} {k : ℤ} → Upto rs es 0 y v k → Has y v k es
      go (old h) = h
      go (new l h) = absurd (not-suc-le-zero l)

  pub row_end : {y s n : ℕ} {rise fall : ℕ → ℕ} → Row rs y rise fall s → s ≤ n → Tally (Upto rs es n) look t m → Tally (Among (rs ++ es)) look t m
  row_end {y} {s} {n} x l = tally_same (Upto rs es n) (Among (rs ++ es)) (λ a v k h. go h) (λ a v k h. ⊎_elim (λ e. new (omega (arith, (x.refers a v k e).below)) e) old (has_either rs h))
    where
      go : {a v : ℕ} {k : ℤ} → Upto rs es n a v k → Has a v k (rs ++ es)
      go (old h) = has_after rs h
      go (new l h) = has_before es h

-- the largest weight to v leaves no slack
pub cell_lacks : (rs : List Edge) {y v s : ℕ} {rise fall : ℕ → ℕ} → Row rs y rise fall s → v < s → {look : ℕ → ℕ} → 1 ≤ rise v → look y + rise_of_zero < rise v + look v → Lacks look rs
cell_lacks rs {y} {v} x l {look} r h = let q = (x.extremes v l).largest r in record { y = y; v = v; k = q.0; has = q.1; lacks = omega (arith, q.2) }

-- the edges of the row to v are noted
module _ (rs es : List Edge) {y v s : ℕ} {rise fall : ℕ → ℕ} (x : Row rs y rise fall s) (l : v < s) where
  wider : {a b : ℕ} {k : ℤ} → Upto rs es v a b k → Upto rs es (v + 1) a b k
  wider (old h) = old h
  wider (new h e) = new (omega arith) e

  -- an edge to streams up to v is one to streams below, or one of the row to v
  which : {a b : ℕ} {k : ℤ} → Upto rs es (v + 1) a b k → Upto rs es v a b k ⊎ ((a ≡ y) × (b ≡ v) × Has y v k rs)
  which (old h) = inl (old h)
  which {a} {b} {k} (new h e) = go (ℕ_discrete b v)
    where
      go : Dec (b ≡ v) → Upto rs es v a b k ⊎ ((a ≡ y) × (b ≡ v) × Has y v k rs)
      go (yes q) = let p = (x.refers a b k e).from in inr (p, q, rw (p, q) at e)
      go (no q) = inl (new (omega arith) e)

  -- there are none
  pub cell_none : {look : ℕ → ℕ} {t m : List ℕ} → rise v ≡ 0 → Tally (Upto rs es v) look t m → Tally (Upto rs es (v + 1)) look t m
  cell_none z = tally_same (Upto rs es v) (Upto rs es (v + 1)) (λ a b k e. wider e) (λ a b k e. ⊎_elim (λ h. h) (λ q. absurd ((x.extremes v l).none z k q.2)) (which e))

  module _ {look : ℕ → ℕ} {t m : List ℕ} (y32 : y < most_streams) (v32 : v < most_streams) (r : 1 ≤ rise v) (h : rise v + look v ≤ look y + rise_of_zero) (w : Tally (Upto rs es v) look t m) where
    slack' : Slack (Upto rs es (v + 1)) look
    slack' a b k e = ⊎_elim (w.slack a b k) (λ q. rw (q.0, q.1) (omega (arith, ((x.extremes v l).between k q.2).0))) (which e)

    old_tight : {a b : ℕ} → Tight (Upto rs es v) look a b → Tight (Upto rs es (v + 1)) look a b
    old_tight z = record { k = z.k; edge = wider z.edge; tight = z.tight }

    -- a tight edge is an old one, or the row's largest weight to v is tight
    which_tight : {a b : ℕ} → Tight (Upto rs es (v + 1)) look a b → Tight (Upto rs es v) look a b ⊎ ((a ≡ y) × (b ≡ v) × (look y + rise_of_zero ≡ rise v + look v))
    which_tight {a} {b} z = ⊎_elim
        (λ e. inl (record { k = z.k; edge = e; tight = z.tight }))
        (λ q. let e : up z.k + look v ≡ look y + down z.k = rw (q.0, q.1) at z.tight in inr (q.0, q.1, omega (arith, ((x.extremes v l).between z.k q.2).0)))
        (which z.edge)

    new_tight : look y + rise_of_zero ≡ rise v + look v → Tight (Upto rs es (v + 1)) look y v
    new_tight e = let q = (x.extremes v l).largest r in record { k = q.0; edge = new (omega arith) q.1; tight = omega (arith, q.2) }

    -- the row of y, with v put in where the largest weight is tight
    module _ (test : Bool) (holds : test ≡ true → look y + rise_of_zero ≡ rise v + look v) (fails : test ≡ false → look y + rise_of_zero ≡ rise v + look v → ⊥) where
      row_bits : (b : ℕ) (c : Bool) → c ≡ test → Dec (b ≡ v) → bit (marked (get_or t y 0) v c) b ≡ 1 → Tight (Upto rs es (v + 1)) look y b
      row_bits b true q (yes p) e = rw p (new_tight (holds (sym q)))
      row_bits b true q (no p) e = old_tight (w.bits y b y32 (sym (put_other (get_or t y 0) v b p) ∙ e))
      row_bits b false q d e = old_tight (w.bits y b y32 e)

      row_tights : (b : ℕ) (c : Bool) → c ≡ test → Dec (b ≡ v) → Tight (Upto rs es v) look y b ⊎ ((b ≡ v) × (look y + rise_of_zero ≡ rise v + look v)) → bit (marked (get_or t y 0) v c) b ≡ 1
      row_tights b true q (yes p) e = rw p (put_own (get_or t y 0) v)
      row_tights b true q (no p) (inl e) = put_other (get_or t y 0) v b p ∙ w.tights y b y32 e
      row_tights b true q (no p) (inr e) = absurd (p e.0)
      row_tights b false q d (inl e) = w.tights y b y32 e
      row_tights b false q d (inr e) = absurd (fails (sym q) e.1)

      n : ℕ
      n = marked (get_or t y 0) v test

      bits' : (a b : ℕ) → a < most_streams → Dec (a ≡ y) → bit (get_or (set t y n) a 0) b ≡ 1 → Tight (Upto rs es (v + 1)) look a b
      unfolding n
      bits' a b g (yes p) e = rw p (row_bits b test refl (ℕ_discrete b v) (rw (p, get_or-set_same t y (marked (get_or t y 0) v test) 0 (omega (arith, w.long))) at e))
      bits' a b g (no p) e = old_tight (w.bits a b g (rw (get_or-set_other t y a (marked (get_or t y 0) v test) 0 p) at e))

      tights' : (a b : ℕ) → a < most_streams → Dec (a ≡ y) → Tight (Upto rs es v) look a b ⊎ ((a ≡ y) × (b ≡ v) × (look y + rise_of_zero ≡ rise v + look v)) → bit (get_or (set t y n) a 0) b ≡ 1
      unfolding n
      tights' a b g (yes p) e = rw (p, get_or-set_same t y (marked (get_or t y 0) v test) 0 (omega (arith, w.long))) (row_tights b test refl (ℕ_discrete b v) (⊎_elim (λ z. inl (rw p at z)) (λ z. inr (z.1, z.2)) e))
      tights' a b g (no p) (inl e) = rw (get_or-set_other t y a (marked (get_or t y 0) v test) 0 p) (w.tights a b g e)
      tights' a b g (no p) (inr e) = absurd (p e.0)

      -- the largest slack into v, and into another stream
      own_most : (d : ℕ) → d ≡ (look y + fall v) - (fall_of_zero + look v) → Most (Upto rs es (v + 1)) look v (max (get_or m v 0) d)
      own_most d q = record {
        all = λ a k e. ⊎_elim (λ o. omega (arith, (w.mosts v v32).all a k o)) (λ o. rw o.0 (omega (arith, ((x.extremes v l).between k o.2).1))) (which e);
        real = go (dec_lt (get_or m v 0) d);
      }
        where
          go : Dec (get_or m v 0 < d) → (max (get_or m v 0) d ≡ 0) ⊎ ((a : ℕ) × (k : ℤ) × Upto rs es (v + 1) a v k × (look a + down k ≡ max (get_or m v 0) d + (up k + look v)))
          go (yes g) = let o = (x.extremes v l).smallest ((x.extremes v l).together.0 r) in inr (y, o.0, new (omega arith) o.1, omega (arith, o.2))
          go (no g) = ⊎_elim (λ z. inl (omega arith)) (λ z. inr (z.0, z.1, wider z.2, omega (arith, z.3))) (w.mosts v v32).real

      other_most : (b c : ℕ) → (b ≡ v → ⊥) → Most (Upto rs es v) look b c → Most (Upto rs es (v + 1)) look b c
      other_most b c p z = record {
        all = λ a k e. ⊎_elim (z.all a k) (λ o. absurd (p o.1)) (which e);
        real = ⊎_elim inl (λ o. inr (o.0, o.1, wider o.2, o.3)) z.real;
      }

      mosts' : (d : ℕ) → d ≡ (look y + fall v) - (fall_of_zero + look v) → (b : ℕ) → b < most_streams → Dec (b ≡ v) → Most (Upto rs es (v + 1)) look b (get_or (set m v (max (get_or m v 0) d)) b 0)
      mosts' d q b g (yes p) = rw (p, get_or-set_same m v (max (get_or m v 0) d) 0 (omega (arith, w.long))) (own_most d q)
      mosts' d q b g (no p) = rw (get_or-set_other m v b (max (get_or m v 0) d) 0 p) (other_most b (get_or m b 0) p (w.mosts b g))

      pub cell_noted : (d : ℕ) → d ≡ (look y + fall v) - (fall_of_zero + look v) → Tally (Upto rs es (v + 1)) look (set t y (marked (get_or t y 0) v test)) (set m v (max (get_or m v 0) d))
      unfolding n
      cell_noted d q = record {
        long = (length-set t y _ ∙ w.long.0, length-set m v _ ∙ w.long.1);
        slack = slack';
        bits = λ a b g e. bits' a b g (ℕ_discrete a y) e;
        tights = λ a b g z. tights' a b g (ℕ_discrete a y) (which_tight z);
        mosts = λ b g. mosts' d q b g (ℕ_discrete b v);
      }

-- the same, of the numbers that were read: r and f are the notes at v
pub read_none : {y v r f top : ℕ} {look : ℕ → ℕ} {t m : List ℕ} → top ≡ r → top ≡ 0 →
    (s : ℕ) (rise fall : ℕ → ℕ) → v < s → rise v ≡ r → fall v ≡ f → NotedCell true y v s look rise fall t m t m
read_none e z s rise fall l p q rs es x = cell_none rs es x l (omega arith)

module _ {y v r f : ℕ} {look : ℕ → ℕ} {top have ahead : ℕ} (top_is : top ≡ r) (have_is : have ≡ look y) (ahead_is : ahead ≡ look v) (some : top ≡ 0 → ⊥) where
  pub read_lacks : have + rise_of_zero < top + ahead →
      (s : ℕ) (rise fall : ℕ → ℕ) → v < s → rise v ≡ r → fall v ≡ f → (rs : List Edge) → Row rs y rise fall s → Lacks look rs
  read_lacks h s rise fall l p q rs x = cell_lacks rs x l (omega arith) (omega arith)

  pub read_noted : {low mask most : ℕ} {t m : List ℕ} → y < most_streams → v < most_streams → low ≡ f → top + ahead ≤ have + rise_of_zero →
      mask ≡ marked (get_or t y 0) v (eqb (have + rise_of_zero) (top + ahead)) → most ≡ max (get_or m v 0) ((have + low) - (fall_of_zero + ahead)) →
      (s : ℕ) (rise fall : ℕ → ℕ) → v < s → rise v ≡ r → fall v ≡ f → NotedCell true y v s look rise fall t m (set t y mask) (set m v most)
  read_noted {low} y32 v32 g h e d s rise fall l p q rs es x w =
      rw (e, d) (cell_noted rs es x l y32 v32 (omega arith) (omega arith) w (eqb (have + rise_of_zero) (top + ahead))
      (λ b. omega (arith, eqb-true (have + rise_of_zero) (top + ahead) b)) (λ b z. eqb-false (have + rise_of_zero) (top + ahead) b (omega arith))
      ((have + low) - (fall_of_zero + ahead)) (omega arith))
