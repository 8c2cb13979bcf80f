-- Where some loop totals 0 or more, a cycle does: the loops of a walk are cut out from its end on, and each that is cut out is a cycle.
-- So source 004's definitions 9 and 14 together say what document 01 asks, "every loop's total below 0". Assumes nothing.
use mathlib.Core.Path.{◌≡◌, refl, sym, ap, ◌∙◌, subst}
use mathlib.Core.Logic.{◌⊎◌, inl, inr, ⊎_elim}
use mathlib.Core.Bool.{Bool, true, false, not}
use mathlib.Core.List.{◌∷◌}
use Prim.Native.Nat.{ℕ, zero, suc}
use native.Mathlib.Omega.{arith}
use lib.Dec.{T}
use lib.IntN.{ℤ, pos, ◌+ℤ◌, +ℤ_assoc, +ℤ_idl}
use lib.Signed.{◌≤ℤ◌, ◌<ℤ◌, lt_z, lt_z_yes, lt_z_no}
use Rattle.basis.specs.Parts.{up, down}
use Rattle.basis.proofs.Parts.{sum_parts, le_parts, le_from_parts, lt_parts, lt_from_parts, eq_from_parts}
use Rattle.basis.proofs.Tests.{lt_or_ge}
use Rattle.walks.specs.Walks.{Edges, Walk, stay, step, LoopsBelow}
use Rattle.walks.specs.Cycles.{ClosedWalk, starts, In, Different, Cycle}
use Rattle.walks.proofs.Distinct.{dec_in}

-- Where every loop's total is below 0, no closed walk has weight zero and no cycle a positive one.
module _ {E : Edges} (below : LoopsBelow E) where
  pub loops_no_zero : ClosedWalk E (pos 0) → ⊥
  unfolding LoopsBelow
  loops_no_zero c = omega (arith, lt_parts (below c.n c.v (pos 0) c.walk))

  pub loops_no_cycle : (t : ℤ) → pos 0 <ℤ t → Cycle E t → ⊥
  unfolding LoopsBelow
  loops_no_cycle t l c = let w = c.closed in omega (arith, lt_parts l, lt_parts (below w.n w.v t w.walk))

-- ---- and the other way round

-- a walk from i to j, cut where it passes x for the first time
record Cut {E : Edges} {n i j : ℕ} {t : ℤ} (x : ℕ) (w : Walk E n i j t) : Type 0 where
  m : ℕ
  k : ℕ
  a : ℤ
  b : ℤ
  to : Walk E m i x a
  rest : Walk E k x j b
  sum : a +ℤ b ≡ t
  Among : (y : ℕ) → In y (starts to) → In y (starts w)
  first : Different (x ∷ starts to)
  last : Different (j ∷ starts rest)

-- a walk with no stream twice whose total is at least t
record Simple (E : Edges) (i j : ℕ) (t : ℤ) : Type 0 where
  n : ℕ
  b : ℤ
  walk : Walk E n i j b
  simple : Different (j ∷ starts walk)
  least : t ≤ℤ b

-- a cycle of 0 or more
pub record UpCycle (E : Edges) : Type 0 where
  pub t : ℤ
  pub up_to : pos 0 ≤ℤ t
  pub cycle : Cycle E t

up_or_not : (z : ℤ) → (pos 0 ≤ℤ z) ⊎ (z <ℤ pos 0)
up_or_not z = go (lt_z z (pos 0)) refl
  where
    go : (c : Bool) → lt_z z (pos 0) ≡ c → (pos 0 ≤ℤ z) ⊎ (z <ℤ pos 0)
    go true e = inr (lt_z_yes (subst T (sym e) tt))
    go false e = inl (lt_z_no (subst (λ (b : Bool). T (not b)) (sym e) tt))

module _ {E : Edges} where
  cut_here : {n i x j : ℕ} {t : ℤ} → x ≡ i → (w : Walk E n i j t) → Different (j ∷ starts w) → Cut x w
  unfolding starts
  cut_here {n} {i} {x} {j} {t} e w d = subst (λ (y : ℕ). Cut y w) (sym e) (record { m = zero; k = n; a = pos 0; b = t; to = stay; rest = w; sum = +ℤ_idl t; Among = λ y h. absurd h; first = ((λ h. h), tt); last = d })

  -- an edge in front of a walk that passes x, from another stream than x
  cut_later : {n i m j : ℕ} {k t : ℤ} (x : ℕ) (e : E i m k) (w : Walk E n m j t) → (x ≡ i → ⊥) → (In i (starts w) → ⊥) → Cut x w → Cut x (step e w)
  unfolding starts
  cut_later {i = i} {k = k} x e w other new q = record {
    m = suc q.m;
    k = q.k;
    a = k +ℤ q.a;
    b = q.b;
    to = step e q.to;
    rest = q.rest;
    sum = +ℤ_assoc k q.a q.b ∙ ap (λ (z : ℤ). k +ℤ z) q.sum;
    Among = λ y h. ⊎_elim inl (λ g. inr (q.Among y g)) h;
    first = ((λ h. ⊎_elim other q.first.0 h), ((λ h. new (q.Among i h)), q.first.1));
    last = q.last;
  }

  cut : {n i j : ℕ} {t : ℤ} (x : ℕ) (w : Walk E n i j t) → In x (j ∷ starts w) → Different (j ∷ starts w) → Cut x w
  unfolding starts
  cut x stay h d = cut_here (⊎_elim (λ e. e) (λ n. absurd n) h) stay d
  cut {j = j} x (step {i = i} e w) h d = go (λ p. cut x w p ((λ h. d.0 (inr h)), d.1.1)) h
    where
      go : (In x (j ∷ starts w) → Cut x w) → In x (j ∷ i ∷ starts w) → Cut x (step e w)
      go further (inl p) = cut_later x e w (λ q. d.0 (inl (sym p ∙ q))) d.1.0 (further (inl p))
      go further (inr (inl p)) = cut_here p (step e w) d
      go further (inr (inr p)) = cut_later x e w (λ q. d.1.0 (subst (λ (y : ℕ). In y (starts w)) q p)) d.1.0 (further (inr p))

  -- with an edge in front: the stream is new, or its loop is cut out, or that loop is a cycle and totals 0 or more
  front : {i m j : ℕ} (w : ℤ) {t : ℤ} → E i m w → (s : Simple E m j t) → Dec (In i (j ∷ starts s.walk)) → UpCycle E ⊎ Simple E i j (w +ℤ t)
  unfolding starts
  front {i} {m} {j} w {t} e s (no new) = inr (record {
    n = suc s.n;
    b = w +ℤ s.b;
    walk = step e s.walk;
    simple = ((λ h. ⊎_elim (λ p. new (inl (sym p))) s.simple.0 h), ((λ h. new (inr h)), s.simple.1));
    least = le_from_parts (w +ℤ t) (w +ℤ s.b) (omega (arith, sum_parts w t, sum_parts w s.b, le_parts s.least));
  })
  front {i} {m} {j} w {t} e s (yes p) = go (cut i s.walk p s.simple)
    where
      go : Cut i s.walk → UpCycle E ⊎ Simple E i j (w +ℤ t)
      go q = ⊎_elim
          (λ u. inl (record { t = w +ℤ q.a; up_to = u; cycle = record { closed = record { n = q.m; v = i; walk = step e q.to }; simple = q.first } }))
          (λ l. inr (record {
            n = q.k;
            b = q.b;
            walk = q.rest;
            simple = q.last;
            least = le_from_parts (w +ℤ t) q.b (omega (arith, sum_parts w t, sum_parts w q.a, sum_parts q.a q.b, le_parts s.least, lt_parts l, ap up q.sum, ap down q.sum));
          }))
          (up_or_not (w +ℤ q.a))

  simple : {n i j : ℕ} {t : ℤ} → Walk E n i j t → UpCycle E ⊎ Simple E i j t
  unfolding starts
  simple stay = inr (record { n = zero; b = pos 0; walk = stay; simple = ((λ h. h), tt); least = le_from_parts (pos 0) (pos 0) (omega arith) })
  simple {i = i} {j = j} (step {k = w} e u) = ⊎_elim inl (λ s. front w e s (dec_in i (j ∷ starts s.walk))) (simple u)

  -- a loop of 0 or more: a cycle of 0 or more
  pub loop_has_cycle : {n v : ℕ} {t : ℤ} → Walk E (suc n) v v t → pos 0 ≤ℤ t → UpCycle E
  unfolding starts
  loop_has_cycle {v = v} (step {k = w} {t = t} e u) h = ⊎_elim (λ c. c)
      (λ s. record {
        t = w +ℤ s.b;
        up_to = le_from_parts (pos 0) (w +ℤ s.b) (omega (arith, le_parts h, sum_parts w t, sum_parts w s.b, le_parts s.least));
        cycle = record { closed = record { n = s.n; v = v; walk = step e s.walk }; simple = s.simple };
      })
      (simple u)

  -- no closed walk of weight zero and no cycle of positive weight: every loop's total is below 0
  pub no_cycle_loops : (ClosedWalk E (pos 0) → ⊥) → ((t : ℤ) → pos 0 <ℤ t → Cycle E t → ⊥) → LoopsBelow E
  unfolding LoopsBelow
  no_cycle_loops formed bounded n v t u = ⊎_elim (λ h. absurd (shut (loop_has_cycle u h))) (λ l. l) (up_or_not t)
    where
      shut : UpCycle E → ⊥
      shut c = ⊎_elim (λ h. bounded c.t (lt_from_parts (pos 0) c.t (omega (arith, h))) c.cycle)
          (λ h. formed (subst (ClosedWalk E) (eq_from_parts c.t (pos 0) (omega (arith, le_parts c.up_to, h))) c.cycle.closed))
          (lt_or_ge (down c.t) (up c.t))
