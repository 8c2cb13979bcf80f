-- Where the code finds a stream's word, by the numbers of a turn's frame: in the stream's part, which lies in the store (document 01, "A run").
-- Assumes nothing.
use Prim.Native.Nat.{ℕ, ◌+◌, ◌-◌, ◌*◌, ◌%◌, ◌/◌, ◌≤◌, ◌<◌}
use mathlib.Core.Path.{◌≡◌, refl, sym, ap, ◌∙◌}
use mathlib.Core.List.{List}
use mathlib.Core.Logic.{⊎_elim}
use native.Mathlib.Omega.{arith}
use native.Mathlib.Nat.{mod-lt, mod-le, mod-eq_of_lt, mod-add-div, mul-add-mod_self_left, add-mod_right}
use borrow.Author.Tests.{lt-ltb, le-ltb}
use lib.ListN.{length, get_or, set, take}
use lib.Seq.{take_all}
use Rattle.basis.specs.Firsts.{of}
use Rattle.basis.proofs.Tests.{lt_or_ge}
use Rattle.limits.specs.Limits.{most_streams}
use Rattle.value.specs.declared.Value.{Value}
use Rattle.value.specs.Values.{reading_of, image_of}
use Rattle.run.specs.Words.{base}
use Rattle.run.proofs.Words.{parts}
use Rattle.store.specs.declared.Frame.{Frame}
use Rattle.store.specs.Store.{slot_of, held_of, written_of, word_of, part_of, newest_of, lap_for, Framed, place_in, Placeable, Findable, Within}

-- laps of k positions: one that has a lap before it starts a whole lap past 0
module _ (k p : ℕ) where
  one_before : k ≤ p → k + p % k ≤ p
  one_before h =
      let e : p ≡ p - k + k = omega arith in
      let f : p % k ≡ (p - k) % k = ap (λ (x : ℕ). x % k) e ∙ add-mod_right (p - k) k in
      omega (arith, f, mod-le (p - k) k)

-- the slot of a position q, found from the newest position p and the lap before p's: q is one of the last k positions up to p
module _ (k p q : ℕ) {lap : ℕ} (a : q ≤ p) (b : p < q + k) (e : lap ≡ lap_for p k) where
  z : 0 < k
  z = omega arith

  past : (lap ≤ q) × (q < lap + k + k)
  past = ⊎_elim (λ l. omega (arith, e)) (λ g. omega (arith, e, one_before k p g, mod-lt p z)) (lt_or_ge p k)

  next_lap : k ≤ p → lap + k ≡ k * (p / k)
  next_lap g = omega (arith, e, one_before k p g, mod-add-div p k)

  -- where x is q or a lap more, and r as far past the lap behind
  behind : k ≤ p → (x r : ℕ) → x ≡ lap + k + r → r < k → x % k ≡ r
  behind g x r d l = let c : x ≡ k * (p / k) + r = omega (arith, d, next_lap g) in ap (λ (y : ℕ). y % k) c ∙ mul-add-mod_self_left k (p / k) r ∙ mod-eq_of_lt l

  slot_in : q - lap < k → q - lap ≡ q % k
  slot_in h =
      ⊎_elim (λ l. let n : q < k = omega arith in omega (arith, e, mod-eq_of_lt l, mod-eq_of_lt n))
      (λ g. sym (sym (add-mod_right q k) ∙ behind g (q + k) (q - lap) (omega (arith, past)) h))
      (lt_or_ge p k)

  slot_past : k ≤ q - lap → q - lap - k ≡ q % k
  slot_past h =
      ⊎_elim (λ l. absurd (omega (arith, e)))
      (λ g. sym (behind g q (q - lap - k) (omega (arith, past)) (omega (arith, past))))
      (lt_or_ge p k)

-- the place as the code finds it
module _ (frame : Frame) (v q : ℕ) {far slot : ℕ} (f : far ≡ q - (part_of frame v).lap) where
  pub place_in_lem : slot ≡ far → far < (part_of frame v).kept → slot + (part_of frame v).start ≡ place_in frame v q
  unfolding place_in
  place_in_lem e h = rw (e, f, lt-ltb _ _ (rw f at h))

  pub place_past : slot ≡ far - (part_of frame v).kept → (part_of frame v).kept ≤ far → slot + (part_of frame v).start ≡ place_in frame v q
  unfolding place_in
  place_past e h = rw (e, f, le-ltb _ _ (rw f at h))

-- it is a word of v's part
module _ {frame : Frame} {v q : ℕ} where
  place_low : Placeable frame v q → place_in frame v q < (part_of frame v).start + (part_of frame v).kept
  place_low f =
      ⊎_elim (λ h. omega (arith, place_in_lem frame v q refl refl h)) (λ h. omega (arith, place_past frame v q refl refl h, f.near)) (lt_or_ge (q - (part_of frame v).lap) ((part_of frame v).kept))

  pub place_inside : {n : ℕ} → Findable frame n v q → {i : ℕ} → i ≡ place_in frame v q → i < n
  place_inside f e = omega (arith, e, place_low f.placeable, f.within)

-- the frame of a turn; q is a position of v that the store holds
module _ {types look kept : List ℕ} {streams n t : ℕ} {frame : Frame} (x : Framed types look kept streams n t frame) {v q : ℕ} (l : v < streams) (w : Within look kept n t v q) where
  up_to : (q ≤ newest_of look n t v) × (newest_of look n t v < q + of kept v)
  up_to = omega (arith, w.inside, w.come, w.stays)

  lap_of : (part_of frame v).lap ≡ lap_for (newest_of look n t v) (of kept v)
  lap_of = x.laid.laps v l (omega (arith, w.come))

  -- its word is the one that the layout has for it
  pub place_is : place_in frame v q ≡ base (of kept) v + slot_of kept v q
  place_is = ⊎_elim inside behind (lt_or_ge (q - (part_of frame v).lap) (of kept v))
    where
      inside : q - (part_of frame v).lap < of kept v → place_in frame v q ≡ base (of kept) v + slot_of kept v q
      inside h =
          let e : q - (part_of frame v).lap ≡ q % of kept v = slot_in (of kept v) (newest_of look n t v) q up_to.0 up_to.1 lap_of h in
          omega (arith, place_in_lem frame v q refl refl (omega (arith, x.laid.keeps v l)), e, x.laid.starts v l)

      behind : of kept v ≤ q - (part_of frame v).lap → place_in frame v q ≡ base (of kept) v + slot_of kept v q
      behind h =
          let e : q - (part_of frame v).lap - of kept v ≡ q % of kept v = slot_past (of kept v) (newest_of look n t v) q up_to.0 up_to.1 lap_of h in
          omega (arith, place_past frame v q refl refl (omega (arith, x.laid.keeps v l)), e, x.laid.keeps v l, x.laid.starts v l)

  -- so what is found by the frame is what the store holds of v for q
  pub is_held : (st : List ℕ) {r : Value} → r ≡ reading_of (part_of frame v).kind (get_or st (place_in frame v q) 0) → r ≡ held_of types kept st v q
  unfolding held_of
  is_held st g = g ∙ (λ i. reading_of (x.laid.typed v l i) (get_or st (place_is i) 0))

  pub is_written : (st : List ℕ) (y : Value) {after : List ℕ} → after ≡ set st (place_in frame v q) (image_of y) → after ≡ written_of types kept st v q y
  unfolding written_of
  is_written st y g = g ∙ ap (λ (k : ℕ). set st k (image_of y)) place_is

  pub is_word : (st : List ℕ) {r : ℕ} → r ≡ get_or st (place_in frame v q) 0 → r ≡ word_of kept st v q
  unfolding word_of
  is_word st g = g ∙ ap (λ (k : ℕ). get_or st k 0) place_is

  -- and it is found in a store that is as long as announced
  pub findable : {m : ℕ} → streams ≤ most_streams → base (of kept) most_streams ≤ m → Findable frame m v q
  findable few h =
      let p : base (of kept) v + of kept v ≤ base (of kept) most_streams = parts (of kept) v most_streams (omega (arith, few)) in
      record {
        placeable = record {
          stream = omega (arith, few);
          near = rw (x.laid.keeps v l) (past (of kept v) (newest_of look n t v) q up_to.0 up_to.1 lap_of);
          small = x.laid.narrow v l;
        };
        within = omega (arith, x.laid.keeps v l, x.laid.starts v l);
      }

-- a part of the store that is as long as the store is all of it
pub all_lent : (st : List ℕ) {n : ℕ} → n ≡ length st → take n st ≡ st
all_lent st {n} e = take_all n st (omega (arith, e))
