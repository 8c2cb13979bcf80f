-- What one stream gives on a turn, and the streams one after the other.
-- Assumes nothing.
use mathlib.Core.Path.{◌≡◌, refl, sym, ap, ◌∙◌}
use mathlib.Core.Bool.{Bool, true, false, cond, not, ◌&&◌}
use mathlib.Core.List.{List, [], ◌∷◌, ◌++◌, append_assoc, append-nil}
use Prim.Native.Nat.{ℕ, suc, ◌+◌, ◌-◌, ◌<◌, ◌≤◌}
use native.Mathlib.Omega.{arith}
use native.Mathlib.Numerals.{add-one}
use borrow.Author.Tests.{lt-ltb, le-ltb, le-leb, lt-leb, eq-eqb, ne_eqb}
use lib.Dec.{eqb}
use lib.ListN.{length, get_or, length-append}
use Rattle.basis.specs.Firsts.{of}
use Rattle.run.specs.Turn.{due}
use Rattle.basis.specs.Given.{Given}
use Rattle.run.specs.Run.{gather}
use Rattle.store.specs.declared.Frame.{Frame}
use Rattle.store.specs.Store.{word_of, place_in, Framed, Findable}
use Rattle.store.proofs.Places.{findable, is_word}
use Rattle.output.specs.Encoding.{Emitted, room_from_of, word_on, records_on, output_of, CanGive, CanEmit}
use Rattle.records.specs.Kinds.{value_size_of, trigger_size_of}
use Rattle.records.specs.Encoding.{value_record_of, trigger_record_of, record_of, encode}
use Rattle.records.proofs.Sizes.{value_record_length, trigger_record_length}
use Rattle.basis.specs.Written.{Wrote}
use Rattle.basis.proofs.Written.{then, wrote_as}
use Rattle.output.proofs.Wrotes.{wrote_front, wrote_none}

pub room_for_value : (roles : List ℕ) (y : ℕ) → value_size_of ≤ room_from_of roles 1 y
unfolding room_from_of
room_for_value roles y = go (eqb (get_or roles y 0) 1)
  where
    go : (b : Bool) → value_size_of ≤ value_size_of + cond b trigger_size_of 0 + 0
    go true = omega arith
    go false = omega arith

pub room_for_trigger : (roles : List ℕ) (y : ℕ) → get_or roles y 0 ≡ 1 → value_size_of + trigger_size_of ≤ room_from_of roles 1 y
unfolding room_from_of
room_for_trigger roles y e = rw (eq-eqb _ _ e) (omega arith)

room_more : (roles : List ℕ) (k y : ℕ) → room_from_of roles (suc k) y ≡ room_from_of roles 1 y + room_from_of roles k (suc y)
unfolding room_from_of
room_more roles k y = omega arith

module _ (roles look kept st : List ℕ) (n t y : ℕ) where
  pub word_of_turn : {a w : ℕ} → a ≡ get_or look y 0 → w ≡ word_of kept st y (t - a) → w ≡ word_on look kept st t y
  word_of_turn e f = rw (← e) f

  -- the word that the frame has for the turn
  pub word_found : {types : List ℕ} {streams : ℕ} {frame : Frame} {a w : ℕ} → Framed types look kept streams n t frame → y < streams → 0 < of kept y → a ≡ get_or look y 0 → a ≤ t → t - a < n
      → w ≡ get_or st (place_in frame y (t - a)) 0 → w ≡ word_of kept st y (t - a)
  word_found f l some e h k g = is_word f l (record { inside = k; come = omega (arith, e); stays = omega (arith, e, some) }) st g

  module _ {a : ℕ} (e : a ≡ get_or look y 0) where
    pub early_gives_none : t < a → records_on roles look kept st n t y ≡ []
    unfolding records_on
    early_gives_none h = let g : t < get_or look y 0 = omega arith in rw (lt-leb _ _ g)

    pub late_gives_none : a ≤ t → n ≤ t - a → records_on roles look kept st n t y ≡ []
    unfolding records_on
    late_gives_none h k = let g : get_or look y 0 ≤ t = omega arith in let f : n + get_or look y 0 ≤ t = omega arith in rw (le-leb _ _ g, le-ltb _ _ f)

    module _ (h : a ≤ t) (k : t - a < n) {w : ℕ} (ew : w ≡ word_of kept st y (t - a)) where
      given : records_on roles look kept st n t y ≡ value_record_of y (t - a) w ++ cond (eqb (get_or roles y 0) 1 && not (eqb w 0)) (trigger_record_of y (t - a)) []
      unfolding records_on record_of
      given =
          let g : get_or look y 0 ≤ t = omega arith in
          let f : t < n + get_or look y 0 = omega arith in
          rw (le-leb _ _ g, lt-ltb _ _ f, word_of_turn e ew, e)

      module _ {l l1 : List ℕ} {p q : ℕ} (u : Wrote l p (value_record_of y (t - a) w) l1 q) where
        pub value_and_trigger : {l2 : List ℕ} {r : ℕ} → get_or roles y 0 ≡ 1 → (w ≡ 0 → ⊥) → Wrote l1 q (trigger_record_of y (t - a)) l2 r → Wrote l p (records_on roles look kept st n t y) l2 r
        value_and_trigger er z v = wrote_as (given ∙ rw (eq-eqb _ _ er, ne_eqb _ _ z)) (then u v)

        value_alone : eqb (get_or roles y 0) 1 && not (eqb w 0) ≡ false → Wrote l p (records_on roles look kept st n t y) l1 q
        value_alone b = wrote_as (given ∙ rw b (append-nil (value_record_of y (t - a) w))) u

        pub not_a_trigger : (get_or roles y 0 ≡ 1 → ⊥) → Wrote l p (records_on roles look kept st n t y) l1 q
        not_a_trigger er = value_alone (rw (ne_eqb _ _ er))

        pub false_trigger : get_or roles y 0 ≡ 1 → w ≡ 0 → Wrote l p (records_on roles look kept st n t y) l1 q
        false_trigger er z = value_alone (rw (eq-eqb _ _ er, eq-eqb _ _ z))

  -- the bytes fit their room
  bytes_fit_room : length (records_on roles look kept st n t y) ≤ room_from_of roles 1 y
  unfolding records_on record_of room_from_of
  bytes_fit_room = go (due (of look) n t y) (eqb (get_or roles y 0) 1) (not (eqb (word_on look kept st t y) 0))
    where
      go : (d b c : Bool) → length (cond d (value_record_of y (t - get_or look y 0) (word_on look kept st t y) ++ cond (b && c) (trigger_record_of y (t - get_or look y 0)) []) []) ≤ value_size_of + cond b trigger_size_of 0 + 0
      go false b c = omega arith
      go true true true = let e = length-append (value_record_of y (t - get_or look y 0) (word_on look kept st t y)) (trigger_record_of y (t - get_or look y 0)) in omega (arith, value_record_length y (t - get_or look y 0) (word_on look kept st t y), trigger_record_length y (t - get_or look y 0))
      go true true false = let e = length-append (value_record_of y (t - get_or look y 0) (word_on look kept st t y)) [] in omega (arith, value_record_length y (t - get_or look y 0) (word_on look kept st t y))
      go true false c = let e = length-append (value_record_of y (t - get_or look y 0) (word_on look kept st t y)) [] in omega (arith, value_record_length y (t - get_or look y 0) (word_on look kept st t y))

module _ (roles look kept st : List ℕ) (n t : ℕ) where
  output_more : (k y : ℕ) → output_of roles look kept st n t (suc k) y ≡ records_on roles look kept st n t y ++ output_of roles look kept st n t k (suc y)
  unfolding output_of gather records_on encode
  output_more k y = go (due (of look) n t y)
    where
      r : List (Given ℕ)
      r = gather (of look) n t (word_on look kept st t) k (suc y)

      g : Given ℕ
      g = record { stream = y; position = t - get_or look y 0; word = word_on look kept st t y }

      go : (b : Bool) → encode roles (cond b (g ∷ r) r) ≡ cond b (record_of roles g) [] ++ encode roles r
      go true = refl
      go false = refl

  output_none : (y : ℕ) → output_of roles look kept st n t 0 y ≡ []
  unfolding output_of gather encode
  output_none y = refl

  -- how far the output is: the streams below y have given their bytes
  pub record GivenBelow (streams : ℕ) (whole out₀ : List ℕ) (y : ℕ) (out : List ℕ) (count : ℕ) : Type 0 where
    pub done : List ℕ
    pub wrote : Wrote out₀ 0 done out count
    pub whole_is : done ++ output_of roles look kept st n t (streams - y) y ≡ whole
    pub space : count + room_from_of roles (streams - y) y ≤ length out

  pub given_none : (inputs streams : ℕ) (out : List ℕ) → room_from_of roles (streams - inputs) inputs ≤ length out → GivenBelow streams (output_of roles look kept st n t (streams - inputs) inputs) out inputs out 0
  given_none inputs streams out h = record { done = []; wrote = wrote_none out 0 refl; whole_is = refl; space = omega arith }

  module _ (streams : ℕ) (whole out₀ : List ℕ) (y : ℕ) (out : List ℕ) (count : ℕ) (h : y < streams) (x : GivenBelow streams whole out₀ y out count) where
    one_more : streams - y ≡ suc (streams - suc y)
    one_more = omega arith

    pub room_here : count + room_from_of roles 1 y ≤ length out
    room_here = let a = x.space in let b : count + room_from_of roles (suc (streams - suc y)) y ≤ length out = rw one_more at a in omega (arith, room_more roles (streams - suc y) y)

    pub given_more : {out' : List ℕ} {next : ℕ} → Wrote out count (records_on roles look kept st n t y) out' next → GivenBelow streams whole out₀ (y + 1) out' next
    given_more {out'} {next} u = rw add-one (record {
      done = x.done ++ records_on roles look kept st n t y;
      wrote = then x.wrote u;
      whole_is = append_assoc x.done (records_on roles look kept st n t y) (output_of roles look kept st n t (streams - suc y) (suc y))
          ∙ ap (λ (l : List ℕ). x.done ++ l) (sym (output_more (streams - suc y) y))
          ∙ ap (λ (k : ℕ). x.done ++ output_of roles look kept st n t k y) (sym one_more) ∙ x.whole_is;
      space =
          let b : count + room_from_of roles (suc (streams - suc y)) y ≤ length out = rw one_more at x.space in
          omega (arith, room_more roles (streams - suc y) y, bytes_fit_room roles look kept st n t y, u.ends, u.size);
    })

  pub given_all : (streams : ℕ) (whole out₀ : List ℕ) (y : ℕ) (out : List ℕ) (count : ℕ) → streams ≤ y → GivenBelow streams whole out₀ y out count → Emitted whole out₀ out count
  given_all streams whole out₀ y out count h x =
      let z : streams - y ≡ 0 = omega arith in
      let e : x.done ++ output_of roles look kept st n t 0 y ≡ whole = rw z at x.whole_is in
      wrote_front (wrote_as (sym e ∙ ap (λ (l : List ℕ). x.done ++ l) (output_none y) ∙ append-nil x.done) x.wrote)

-- what each stream needs to give its bytes
module _ {roles look : List ℕ} {frame : Frame} {words room n t inputs streams : ℕ} (x : CanEmit roles look frame words room n t inputs streams) {y : ℕ} (l : y < streams) where
  -- each list of kept numbers that the frame was laid from has some for y
  pub keeps_some : {types kept : List ℕ} → Framed types look kept streams n t frame → 0 < of kept y
  keeps_some f = omega (arith, f.laid.keeps y l, x.framed.laid.keeps y l, x.some y l)

  turn_found : of look y ≤ t → t - of look y < n → Findable frame words y (t - of look y)
  turn_found h k = findable x.framed l (record { inside = k; come = omega arith; stays = omega (arith, x.some y l) }) x.few x.stored

  pub can_give : {size at : ℕ} → at + room_from_of roles 1 y ≤ size → CanGive roles look frame words size n t y at
  can_give h = record { few = omega (arith, x.few); found = turn_found; rows = x.rows; fits = h }
