-- Laws of what is forgotten: one stream after the other, and at the end nothing is noted.
-- Assumes nothing.
use mathlib.Core.Path.{◌≡◌, refl, sym, ap, ◌∙◌}
use mathlib.Core.Logic.{◌⊎◌, inl, inr, ⊎_elim}
use mathlib.Core.List.{List, []}
use Prim.Native.Nat.{ℕ, ◌+◌, ◌≤◌, ◌<◌}
use native.Mathlib.Omega.{arith}
use native.Mathlib.Nat.{not-suc-le-zero}
use native.Mathlib.Decide.{ℕ_discrete}
use lib.ListN.{get_or}
use lib.Seq.{get_or-set_other}
use borrow.Author.Tests.{eq-eqb, ne_eqb}
use Rattle.limits.specs.Limits.{most_streams}
use Rattle.basis.specs.Edges.{Edge}
use Rattle.basis.specs.Rows.{entry, put, Shaped}
use Rattle.basis.proofs.Rows.{entry_put, entry_row, entry_other, shaped_put}
use Rattle.basis.proofs.Tests.{lt_or_eq, lt_or_ge}
use Rattle.expression.specs.References.{Refers, Extremes}
use Rattle.expression.specs.Seen.{seen_type, seen_rise, seen_fall, seen_entries, Seen, Unnoted}
use Rattle.certificate.specs.Forgotten.{rises, falls, wiped, Forgotten}
use Rattle.certificate.specs.Tally.{Row}

-- the notes of v, by what was read of them
pub wiped_none : (v : ℕ) (seen : List (List ℕ)) {top : ℕ} → top ≡ rises seen v → top ≡ 0 → seen ≡ wiped v seen
unfolding wiped
wiped_none v seen e z = rw (eq-eqb (rises seen v) 0 (sym e ∙ z)) refl

pub wiped_some : (v : ℕ) (seen : List (List ℕ)) {top : ℕ} → top ≡ rises seen v → (top ≡ 0 → ⊥) → put (put seen v seen_rise 0) v seen_fall 0 ≡ wiped v seen
unfolding wiped
wiped_some v seen e n = rw (ne_eqb (rises seen v) 0 (λ z. n (e ∙ z))) refl

-- v alone is forgotten
record Cleared (v : ℕ) (seen seen' : List (List ℕ)) : Type 0 where
  shape : Shaped most_streams seen_entries seen'
  entries : (u i : ℕ) → (i ≡ seen_rise → ⊥) → (i ≡ seen_fall → ⊥) → entry seen' u i ≡ entry seen u i
  no_rise : rises seen' v ≡ 0
  no_fall : (rises seen v ≡ 0 → falls seen v ≡ 0) → falls seen' v ≡ 0
  others : (u : ℕ) → (u ≡ v → ⊥) → get_or seen' u [] ≡ get_or seen u []

module _ (v : ℕ) (seen : List (List ℕ)) (h : v < most_streams) (s : Shaped most_streams seen_entries seen) where
  one : List (List ℕ)
  one = put seen v seen_rise 0

  one_shape : Shaped most_streams seen_entries one
  unfolding one
  one_shape = shaped_put v seen_rise 0 s

  put_entries : (u i : ℕ) → (i ≡ seen_rise → ⊥) → (i ≡ seen_fall → ⊥) → Dec (u ≡ v) → entry (put one v seen_fall 0) u i ≡ entry seen u i
  unfolding one
  put_entries u i a b (yes p) = rw p (entry_other (put seen v seen_rise 0) v seen_fall 0 i b ∙ entry_other seen v seen_rise 0 i a)
  put_entries u i a b (no p) = entry_row (put seen v seen_rise 0) v seen_fall 0 u i p ∙ entry_row seen v seen_rise 0 u i p

  put_cleared : Cleared v seen (put (put seen v seen_rise 0) v seen_fall 0)
  unfolding one
  put_cleared = record {
    shape = shaped_put v seen_fall 0 one_shape;
    entries = λ u i a b. put_entries u i a b (ℕ_discrete u v);
    no_rise = entry_other (put seen v seen_rise 0) v seen_fall 0 seen_rise (λ e. omega arith) ∙ entry_put seen v seen_rise 0 (omega (arith, s.long)) (omega (arith, s.wide v h));
    no_fall = λ g. entry_put (put seen v seen_rise 0) v seen_fall 0 (omega (arith, one_shape.long)) (omega (arith, one_shape.wide v h));
    others = λ u n. get_or-set_other (put seen v seen_rise 0) v u _ [] n ∙ get_or-set_other seen v u _ [] n;
  }

  wiped_cleared : Cleared v seen (wiped v seen)
  wiped_cleared = go (ℕ_discrete (rises seen v) 0)
    where
      go : Dec (rises seen v ≡ 0) → Cleared v seen (wiped v seen)
      go (yes z) = rw (← wiped_none v seen refl z) (record { shape = s; entries = λ u i a b. refl; no_rise = z; no_fall = λ g. g z; others = λ u n. refl })
      go (no n) = rw (← wiped_some v seen refl n) put_cleared

-- before the first stream
pub forgotten_start : {seen : List (List ℕ)} → Shaped most_streams seen_entries seen → Forgotten 0 seen seen
forgotten_start s = record {
  shape = s;
  others = λ v i a b. refl;
  no_rise = λ v l. absurd (not-suc-le-zero l);
  no_fall = λ v l. absurd (not-suc-le-zero l);
  past = λ v l. refl;
}

module _ {v : ℕ} {seen seen' : List (List ℕ)} (f : Forgotten v seen seen') where
  -- the streams that are left are as they were seen
  pub rise_left : rises seen v ≡ rises seen' v
  rise_left = ap (λ (r : List ℕ). get_or r seen_rise 0) (sym (f.past v (omega arith)))

  pub fall_left : falls seen v ≡ falls seen' v
  fall_left = ap (λ (r : List ℕ). get_or r seen_fall 0) (sym (f.past v (omega arith)))

  -- one more stream
  pub forgotten_on : v < most_streams → Forgotten (v + 1) seen (wiped v seen')
  forgotten_on h = record {
    shape = c.shape;
    others = λ u i a b. c.entries u i a b ∙ f.others u i a b;
    no_rise = λ u l. rise u (lt_or_eq (omega arith));
    no_fall = λ u l. fall u (lt_or_eq (omega arith));
    past = λ u l. c.others u (λ e. omega arith) ∙ f.past u (omega arith);
  }
    where
      c : Cleared v seen' (wiped v seen')
      c = wiped_cleared v seen' h f.shape

      rise : (u : ℕ) → (u < v) ⊎ (u ≡ v) → rises (wiped v seen') u ≡ 0
      rise u (inl l) = rw (c.others u (λ e. omega arith)) (f.no_rise u l)
      rise u (inr e) = rw e c.no_rise

      fall : (u : ℕ) → (u < v) ⊎ (u ≡ v) → (rises seen u ≡ 0 → falls seen u ≡ 0) → falls (wiped v seen') u ≡ 0
      fall u (inl l) g = rw (c.others u (λ e. omega arith)) (f.no_fall u l g)
      fall u (inr e) g = rw e (c.no_fall (λ z. sym fall_left ∙ (rw e at g) (rise_left ∙ z)))

-- all of them
pub forgotten_end : {v s : ℕ} {seen seen' : List (List ℕ)} → v ≡ s → Forgotten v seen seen' → Forgotten s seen seen'
forgotten_end e f = rw (sym e) f

-- ---- an equation after its row was forgotten

-- no edge leads to a stream past the last one, so nothing is noted of it
pub none_past : {rs : List Edge} {y s v rise fall : ℕ} → Refers y s rs → s ≤ v → Extremes rs y v rise fall → (rise ≡ 0) × (fall ≡ 0)
none_past {rs} {y} {s} {v} {rise} {fall} r l x = (risen (lt_or_ge 0 rise), fallen (lt_or_ge 0 fall))
  where
    risen : (0 < rise) ⊎ (rise ≤ 0) → rise ≡ 0
    risen (inl h) = let q = x.largest h in absurd (omega (arith, (r y v q.0 q.1).below))
    risen (inr h) = omega arith

    fallen : (0 < fall) ⊎ (fall ≤ 0) → fall ≡ 0
    fallen (inl h) = let q = x.smallest h in absurd (omega (arith, (r y v q.0 q.1).below))
    fallen (inr h) = omega arith

-- where no largest weight is noted, no smallest one is
pub fall_with_rise : {rs : List Edge} {y v rise fall : ℕ} → Extremes rs y v rise fall → rise ≡ 0 → fall ≡ 0
fall_with_rise {fall = fall} x e = ⊎_elim (λ p. absurd (omega (arith, x.together.1 p))) (λ p. omega arith) (lt_or_ge 0 fall)

module _ {s : ℕ} {seen seen' : List (List ℕ)} (f : Forgotten s seen seen') where
  -- nothing is noted any more
  pub forgotten_unnoted : {rs : List Edge} {y : ℕ} → Row rs y (rises seen) (falls seen) s →
      ((v : ℕ) → s ≤ v → v < most_streams → (rises seen v ≡ 0) × (falls seen v ≡ 0)) → Unnoted seen'
  forgotten_unnoted {rs} {y} x z v h = go (lt_or_ge v s)
    where
      go : (v < s) ⊎ (s ≤ v) → (rises seen' v ≡ 0) × (falls seen' v ≡ 0)
      go (inl l) = (f.no_rise v l, f.no_fall v l (fall_with_rise (x.extremes v l)))
      go (inr l) = rw (f.past v l) (z v l h)

  -- the streams are the same
  pub forgotten_seen : {ts : List ℕ} → Seen ts seen → Seen ts seen'
  forgotten_seen x = record {
    shape = f.shape;
    few = x.few;
    typed = x.typed;
    types = λ v l. type v ∙ x.types v l;
    past = λ v l h. type v ∙ x.past v l h;
  }
    where
      type : (v : ℕ) → entry seen' v seen_type ≡ entry seen v seen_type
      type v = f.others v seen_type (λ e. omega arith) (λ e. omega arith)
