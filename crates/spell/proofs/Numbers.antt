-- Each return and each turn of the readers of a number and an offset, as a law over the text, the places and the tests that led there.
-- Assumes nothing.
use Prim.Native.Nat.{ℕ, zero, suc, ◌+◌, ◌*◌, ◌-◌, ◌≤◌, ◌<◌}
use native.Mathlib.Omega.{arith}
use mathlib.Core.Path.{◌≡◌, refl, sym, subst}
use mathlib.Core.Logic.{inl, inr}
use mathlib.Core.List.{List, [], ◌∷◌}
use lib.IntN.{pos, negsuc}
use lib.ListN.{length, get_or, get_or-eq_default}
use Rattle.std.proofs.Common.{Bool, true, false, not, nat_eq, Option, Some, None, Bor}
use Rattle.std.specs.Option.{MatchOption, option_eq}
use Rattle.std.specs.List.{HoldsAt}
use Rattle.std.proofs.lemmas.Bool.Decides.{nat_tests}
use Rattle.shapes.specs.Forms.{Form, word, seq, none, more}
use Rattle.shapes.specs.Numbers.{number, offset}
use Rattle.shapes.specs.Places.{byte_at, Got, Lost, digits}
use Rattle.shapes.proofs.Forms.{word_plain}
use Rattle.shapes.proofs.Places.{digits_one, digits_more, number_got, number_lost, number_lost_first, word_lost, byte_got, seq_got, seq_lost_first, seq_lost_second, alt_got_left, alt_got_right, alt_lost_left, alt_lost_right}
use Rattle.expression.specs.Generation.{signed_byte_of}
use Rattle.source.specs.Trees.{plus, minus}
use Rattle.spell.specs.declared.Spelt.{Spelt}
use Rattle.spell.specs.Answers.{NumberRead, OffsetRead}

-- below the length the byte does not hang on what stands for the others
pub byte_there : (text : List ℕ) (i : ℕ) → i < length text → get_or text i 0 ≡ byte_at text i
byte_there [] i h = absurd (omega arith)
byte_there (b ∷ text) zero h = refl
byte_there (b ∷ text) (suc i) h = byte_there text i (omega arith)

pub byte_past : (text : List ℕ) (i : ℕ) → length text ≤ i → 256 ≡ byte_at text i
byte_past text i h = sym (get_or-eq_default text 256 h)

-- the digits from `at` up to i are those of v
pub record Digits (least most : ℕ) (text : List ℕ) (at v i : ℕ) : Type 0 where
  pub within : i ≤ length text
  pub low : least ≤ v
  pub high : v ≤ most
  pub got : Got digits text at v i

module _ {least most : ℕ} {text : List ℕ} {at : ℕ} (tiny : least ≤ 1) (large : 9 ≤ most) where
  pub first_digit : {v : ℕ} → at < length text → byte_at text at ≡ 48 + v → least ≤ v → v < 10 → Digits least most text at v (at + 1)
  first_digit {v} h e k l = record { within = omega arith; low = k; high = omega arith; got = digits_one text at v (omega arith) e l }

  pub first_lost : {stop : ℕ} → stop < 48 → at ≤ length text → ((d : ℕ) → byte_at text at ≡ 48 + d → d < 10 → least ≤ d → ⊥) → Lost (number least most stop) text at at
  first_lost {stop} s h n = number_lost_first least most stop s text at h tiny (omega arith) n

module _ {least most : ℕ} {text : List ℕ} {at v i : ℕ} (r : Digits least most text at v i) where
  pub then_digit : {d w : ℕ} → i < length text → byte_at text i ≡ 48 + d → d < 10 → (v ≡ 0 → ⊥) → w ≡ 10 * v + d → w ≤ most → Digits least most text at w (i + 1)
  then_digit {d} h e l n f m = record {
    within = omega arith;
    low = omega (arith, r.low);
    high = m;
    got = subst (λ (w : ℕ). Got digits text at w (i + 1)) (sym f) (digits_more text at i v d r.got r.within (omega arith) e l);
  }

  module _ {stop : ℕ} (s : stop < 48) where
    pub then_stop : byte_at text i ≡ stop → NumberRead least most stop text at (record { what = v; next = i + 1 })
    then_stop e = record { low = r.low; high = r.high; got = number_got least most stop s text at i v r.low r.high r.got r.within e }

    pub then_lost : (stop ≡ byte_at text i → ⊥) → ((d : ℕ) → byte_at text i ≡ 48 + d → d < 10 → 1 ≤ v → 10 * v + d ≤ most → ⊥) → Lost (number least most stop) text at i
    then_lost n o = number_lost least most stop s text at i v r.low r.high r.got r.within n o

    pub then_past : length text ≤ i → Lost (number least most stop) text at (length text)
    then_past k =
        let e = byte_past text i k in
        subst (λ (p : ℕ). Lost (number least most stop) text at p) (let f : i ≡ length text = omega (arith, r.within) in f) (then_lost (λ f. omega arith) (λ d f l m o. omega arith))

-- whether the byte that stands at a place, if there is one, is a minus sign
module _ (text : List ℕ) (at : ℕ) (minus : Bor ℕ) (is : minus.now ≡ 45) where
  abbrev Stands : Option (Bor ℕ) → Type 0
  Stands o = MatchOption o (length text ≤ at) (λ x. (at < length text) × HoldsAt (λ y. x.now ≡ y) text at)

  abbrev same : Option (Bor ℕ) → Bool
  same o = option_eq (λ (x y : Bor ℕ). nat_eq x.now y.now) o (Some minus)

  pub sign_there : (o : Option (Bor ℕ)) → Stands o → not (same o) ≡ false → byte_at text at ≡ 45
  sign_there None l e = let z : ◌≡◌ {A = Bool} true false = e in cc
  sign_there (Some x) l e = let h = l.1 256 in grind (arith, nat_tests)

  pub sign_not_there : (o : Option (Bor ℕ)) → Stands o → not (same o) ≡ true → byte_at text at ≡ 45 → ⊥
  sign_not_there None l e f = let h = byte_past text at l in omega arith
  sign_not_there (Some x) l e f = let h = l.1 256 in grind (arith, nat_tests)

-- an offset: the sign tells which of the two it is, and the other is lost at once
abbrev below : ℕ → Form
below stop = seq (word (45 ∷ [])) λ _. number 1 128 stop

module _ {stop : ℕ} {text : List ℕ} {at : ℕ} (s : stop < 48) (h : at ≤ length text) where
  module _ (n : byte_at text at ≡ 45 → ⊥) where
    pub plus_read : {r : Spelt ℕ} → NumberRead 0 127 stop text at r → OffsetRead stop text at r
    unfolding signed_byte_of
    plus_read {r} g = record {
      offset_is = pos r.what;
      ranged = plus g.high;
      byte_is = refl;
      of = inl (r.what, (g.low, g.high));
      printed = refl;
      got = alt_got_left (number 0 127 stop) (below stop) text at r.next (r.what, (g.low, g.high)) g.got;
    }

    pub plus_lost : {p : ℕ} → Lost (number 0 127 stop) text at p → Lost (offset stop) text at p
    plus_lost {p} g =
        alt_lost_left (number 0 127 stop) (below stop) text at p at (omega (arith, g.place)) g
        (seq_lost_first (word (45 ∷ [])) (λ _. number 1 128 stop) text at at (λ _. (1, (omega arith, omega arith))) (word_lost text at 45 [] h (λ e. n (sym e))))

  module _ (sign : byte_at text at ≡ 45) where
    pub minus_read : {r : Spelt ℕ} → NumberRead 1 128 stop text (at + 1) r → OffsetRead stop text at (record { what = 256 - r.what; next = r.next })
    unfolding signed_byte_of
    minus_read {r} g = to r.what g.low g.high g.got
      where
        to : (v : ℕ) (l : 1 ≤ v) (m : v ≤ 128) → Got (number 1 128 stop) text (at + 1) (v, (l, m)) r.next → OffsetRead stop text at (record { what = 256 - v; next = r.next })
        to zero l m g = absurd (omega arith)
        to (suc k) l m g = record {
          offset_is = negsuc k;
          ranged = minus m;
          byte_is = omega arith;
          of = inr (tt, (suc k, (l, m)));
          printed = refl;
          got = alt_got_right (number 0 127 stop) (below stop) text at r.next (tt, (suc k, (l, m)))
              (seq_got (word (45 ∷ [])) (λ _. number 1 128 stop) text at (at + 1) r.next tt (suc k, (l, m)) (byte_got text at 45 h sign) g);
        }

    pub minus_lost : {p : ℕ} → Lost (number 1 128 stop) text (at + 1) p → Lost (offset stop) text at p
    minus_lost {p} g =
        alt_lost_right (number 0 127 stop) (below stop) text at at p (omega (arith, g.place))
        (number_lost_first 0 127 stop s text at h (omega arith) (omega arith) (λ d f l m. omega arith))
        (seq_lost_second (word (45 ∷ [])) (λ _. number 1 128 stop) text at (at + 1) p tt (word_plain (45 ∷ []) (more (omega arith) none)) (byte_got text at 45 h sign) g)
