-- A frame of a turn as the code lays it, part by part. Assumes nothing.
use Prim.Native.Nat.{ℕ, ◌+◌, ◌-◌, ◌≤◌, ◌<◌, ◌^◌}
use mathlib.Core.Path.{◌≡◌, refl}
use mathlib.Core.List.{List}
use native.Mathlib.Omega.{arith}
use native.Mathlib.Nat.{not-suc-le-zero}
use borrow.Author.Count.{below_more}
use lib.ListN.{length, get_or, set}
use lib.Seq.{get_or-set_same, get_or-set_other}
use Rattle.basis.specs.Firsts.{of}
use Rattle.basis.specs.Sums.{total}
use Rattle.limits.specs.Limits.{most_streams}
use Rattle.run.specs.Words.{base}
use Rattle.store.specs.declared.Part.{Part}
use Rattle.store.specs.declared.Frame.{Frame}
use Rattle.store.specs.Store.{no_part, newest_of, lap_for, lent_in, lent_with, Laid, Framed}

-- the newest position as the code finds it: `a` is the look-ahead
module _ (look : List ℕ) (n t v : ℕ) {a p : ℕ} (ea : a ≡ of look v) where
  pub newest_due : t < n + a → p ≡ t - a → p ≡ newest_of look n t v
  newest_due h e = omega (arith, ea, e)

  pub newest_last : n + a ≤ t → p ≡ n - 1 → p ≡ newest_of look n t v
  newest_last h e = omega (arith, ea, e)

-- no stream has a part yet
pub none_before : (kept : ℕ → ℕ) → 0 ≡ base kept 0
unfolding total
none_before kept = refl

pub laid_none : (types look kept : List ℕ) (n t : ℕ) (parts : List Part) → Laid types look kept 0 n t parts
laid_none types look kept n t parts = record {
  laps = λ u h. absurd (not-suc-le-zero h);
  starts = λ u h. absurd (not-suc-le-zero h);
  keeps = λ u h. absurd (not-suc-le-zero h);
  typed = λ u h. absurd (not-suc-le-zero h);
  narrow = λ u h. absurd (not-suc-le-zero h);
}

-- one part more
module _ {types look kept : List ℕ} {n t v : ℕ} {parts : List Part} (long : length parts ≡ most_streams) (below : v < most_streams) (l : Laid types look kept v n t parts) (part : Part) where
  abbrev after : ℕ → Part
  after u = get_or (set parts v part) u no_part

  own : after v ≡ part
  own = get_or-set_same parts v part no_part (omega (arith, long))

  other : (u : ℕ) → u < v → after u ≡ get_or parts u no_part
  other u h = get_or-set_other parts v u part no_part (λ e. omega (arith, e))

  each : (P : ℕ → Part → Type 0) → ((u : ℕ) → u < v → P u (get_or parts u no_part)) → P v part → (u : ℕ) → u < v + 1 → P u (after u)
  each P h x = below_more (λ (u : ℕ). P u (after u)) v (λ u g. rw (other u g) (h u g)) (rw own x)

  pub laid_more : (of look v ≤ t → part.lap ≡ lap_for (newest_of look n t v) (of kept v)) → part.start ≡ base (of kept) v → part.kept ≡ of kept v → part.kind ≡ of types v → part.start + part.kept < 2 ^ 32
      → Laid types look kept (v + 1) n t (set parts v part)
  laid_more lap start keep kind narrow = record {
    laps = each (λ u p. of look u ≤ t → p.lap ≡ lap_for (newest_of look n t u) (of kept u)) l.laps lap;
    starts = each (λ u p. p.start ≡ base (of kept) u) l.starts start;
    keeps = each (λ u p. p.kept ≡ of kept u) l.keeps keep;
    typed = each (λ u p. p.kind ≡ of types u) l.typed kind;
    narrow = each (λ u p. p.start + p.kept < 2 ^ 32) l.narrow narrow;
  }

-- a frame has a position, and is of the same turn
pub framed_at : {types look kept : List ℕ} {streams n t : ℕ} {frame : Frame} (p : ℕ) → Framed types look kept streams n t frame → Framed types look kept streams n t (record frame { position = p })
framed_at p x = record { laid = x.laid; known = x.known }

-- the number of words lent is the one that was noted
pub lent_is : (frame : Frame) (words : ℕ) → lent_in (lent_with words frame) ≡ words
lent_is frame words = refl
