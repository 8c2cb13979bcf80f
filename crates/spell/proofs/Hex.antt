-- The readers of a hex digit and of eight: each return and each turn as a law over the text, the places and the tests that led there.
-- Assumes nothing.
use Prim.Native.Nat.{ℕ, zero, suc, ◌+◌, ◌*◌, ◌-◌, ◌/◌, ◌%◌, ◌^◌, ◌≤◌, ◌<◌}
use native.Mathlib.Omega.{arith}
use native.Mathlib.Nat.{pow-suc, pow-le-pow_right}
use native.Mathlib.Numerals.{add-one}
use mathlib.Core.Path.{◌≡◌, refl, sym, ap, ◌∙◌, subst}
use mathlib.Core.Logic.{◌⊎◌, inl, inr}
use mathlib.Core.List.{List, [], ◌∷◌, ◌++◌, append_assoc, append-nil}
use lib.ListN.{length, drop}
use Rattle.lines.specs.Lines.{hex_digit_of, hex8}
use Rattle.shapes.specs.Forms.{Fault, here}
use Rattle.shapes.specs.Stuck.{ended}
use Rattle.shapes.specs.Numbers.{hex_one, times}
use Rattle.shapes.specs.Places.{byte_at, Got, Lost}
use Rattle.shapes.proofs.Numbers.{hex_low, hex_high, hex_known, hex_plain, times_some}
use Rattle.shapes.proofs.Places.{look, seq_got, seq_lost_first, seq_lost_second}
use Rattle.spell.specs.Answers.{NoDigit, DigitRead, HexRead}
use Rattle.spell.proofs.Numbers.{byte_past}

-- the bytes of the digits, and those of none
pub low_digit : (b d : ℕ) → 48 + d ≡ b → d < 10 → DigitRead b d
low_digit b d e l = record { small = omega arith; byte_is = omega (arith, hex_low d l) }

pub high_digit : (b d : ℕ) → 87 + d ≡ b → 10 ≤ d → d < 16 → DigitRead b d
high_digit b d e h l = record { small = l; byte_is = omega (arith, hex_high d h) }

pub no_digit : (b : ℕ) → ((48 ≤ b) × (b < 58) → ⊥) → ((97 ≤ b) × (b < 103) → ⊥) → NoDigit b
no_digit b m n = λ d l e. by d l e (hex_known d l)
  where
    by : (d : ℕ) → d < 16 → b ≡ hex_digit_of d → ((d < 10) × (hex_digit_of d ≡ 48 + d)) ⊎ ((10 ≤ d) × (hex_digit_of d ≡ 87 + d)) → ⊥
    by d l e (inl h) = m (omega (arith, h), omega (arith, h))
    by d l e (inr h) = n (omega (arith, h), omega (arith, h))

-- one digit at a place
digit_got : (text : List ℕ) (at d : ℕ) (l : d < 16) → at ≤ length text → byte_at text at ≡ hex_digit_of d → Got hex_one text at (d, l) (at + 1)
digit_got text at d l h e = record { ends = refl; reads = look text at h ∙ ap (λ (c : ℕ). c ∷ drop (at + 1) (ended text)) e }

digit_lost : (text : List ℕ) (at : ℕ) → at ≤ length text → NoDigit (byte_at text at) → Lost hex_one text at at
digit_lost text at h n = record {
  far = zero;
  place = omega arith;
  leaves = subst (λ (s : List ℕ). Fault hex_one s zero) (sym (look text at h)) (record {
    near = (0, omega arith);
    goes = here (λ e. n 0 (omega arith) (sym e));
    others = λ x. record { at = zero; early = omega arith; parts = here (λ e. n x.0 x.1 (sym e)) };
  });
}

-- a number in n digits; in eight it is what is printed of a word
abbrev pub hexes : ℕ → ℕ → List ℕ
hexes zero v = []
hexes (suc n) v = hexes n (v / 16) ++ (hex_digit_of (v % 16) ∷ [])

hexes_more : (n v d : ℕ) → d < 16 → hexes (n + 1) (v * 16 + d) ≡ hexes n v ++ (hex_digit_of d ∷ [])
hexes_more n v d l =
    let p : (v * 16 + d) / 16 ≡ v = omega arith in
    let q : (v * 16 + d) % 16 ≡ d = omega arith in
    rw add-one (λ i. hexes n (p i) ++ (hex_digit_of (q i) ∷ []))

hexes_eight : (v : ℕ) → v < 4294967296 → hexes 8 v ≡ hex8 v
unfolding hex8
hexes_eight v l =
    let a : v / 16 / 16 / 16 / 16 / 16 / 16 / 16 % 16 ≡ v / 16777216 % 256 / 16 = omega arith in
    let b : v / 16 / 16 / 16 / 16 / 16 / 16 % 16 ≡ v / 16777216 % 256 % 16 = omega arith in
    let c : v / 16 / 16 / 16 / 16 / 16 % 16 ≡ v / 65536 % 256 / 16 = omega arith in
    let d : v / 16 / 16 / 16 / 16 % 16 ≡ v / 65536 % 256 % 16 = omega arith in
    let e : v / 16 / 16 / 16 % 16 ≡ v / 256 % 256 / 16 = omega arith in
    let f : v / 16 / 16 % 16 ≡ v / 256 % 256 % 16 = omega arith in
    let g : v / 16 % 16 ≡ v % 256 / 16 = omega arith in
    let h : v % 16 ≡ v % 256 % 16 = omega arith in
    λ i. hex_digit_of (a i) ∷ hex_digit_of (b i) ∷ hex_digit_of (c i) ∷ hex_digit_of (d i) ∷ hex_digit_of (e i) ∷ hex_digit_of (f i) ∷ hex_digit_of (g i) ∷ hex_digit_of (h i) ∷ []

-- n digits of the number v are read and m are left: what the text has behind the n decides what it has from `at` on
pub record Hexes (text : List ℕ) (at v n m : ℕ) : Type 0 where
  pub all : n + m ≡ 8
  pub within : at + n ≤ length text
  pub below : v < 16 ^ n
  pub lost : (p : ℕ) → Lost (times m hex_one) text (at + n) p → Lost (times 8 hex_one) text at p
  pub got : (end : ℕ) (y : (times m hex_one).Of) → Got (times m hex_one) text (at + n) y end
      → (x : (times 8 hex_one).Of) × ((times 8 hex_one).print x ≡ hexes n v ++ (times m hex_one).print y) × Got (times 8 hex_one) text at x end

pub none_read : {text : List ℕ} {at : ℕ} → at ≤ length text → Hexes text at 0 0 8
none_read {text} {at} h =
    let e : at + 0 ≡ at = omega arith in
    record { all = refl; within = omega arith; below = omega arith; lost = λ p g. rw e at g; got = λ end y g. (y, refl, rw e at g) }

-- below eight at least one more is left
one_left : {text : List ℕ} {at v n : ℕ} → Hexes text at v n (8 - n) → n < 8 → Hexes text at v n (suc (8 - (n + 1)))
one_left {text} {at} {v} {n} h l = subst (λ (m : ℕ). Hexes text at v n m) (let e : 8 - n ≡ suc (8 - (n + 1)) = omega arith in e) h

module _ {text : List ℕ} {at v n : ℕ} (h : Hexes text at v n (8 - n)) where
  pub all_read : 8 ≤ n → HexRead text at (record { what = v; next = at + 8 })
  all_read l = done (subst (λ (k : ℕ). Hexes text at v k (8 - k)) (let e : n ≡ 8 = omega (arith, h.all) in e) h)
    where
      done : Hexes text at v 8 0 → HexRead text at (record { what = v; next = at + 8 })
      done k =
          let b : v < 4294967296 = k.below in
          let x = k.got (at + 8) tt (record { ends = omega arith; reads = refl }) in
          record { fits = omega arith; of = x.0; printed = x.1 ∙ append-nil (hexes 8 v) ∙ hexes_eight v b; got = x.2 }

  module _ (l : n < 8) where
    -- another digit fits
    pub room : v < 268435456
    room = omega (arith, h.below, pow-le-pow_right {n = 16} (omega arith) {i = n} {j = 7} (omega arith))

    pub stuck : NoDigit (byte_at text (at + n)) → Lost (times 8 hex_one) text at (at + n)
    stuck o =
        (one_left h l).lost (at + n)
        (seq_lost_first hex_one (λ _. times (8 - (n + 1)) hex_one) text (at + n) (at + n) (λ _. times_some (8 - (n + 1)) hex_one (0, omega arith))
        (digit_lost text (at + n) h.within o))

    pub past_end : length text ≤ at + n → Lost (times 8 hex_one) text at (at + n)
    past_end k =
        let e = byte_past text (at + n) k in
        stuck (no_digit (byte_at text (at + n)) (λ o. omega arith) (λ o. omega arith))

    pub one_read : {d : ℕ} → at + n < length text → DigitRead (byte_at text (at + n)) d → Hexes text at (v * 16 + d) (n + 1) (8 - (n + 1))
    one_read {d} k r =
        let j = one_left h l in
        let m = 8 - (n + 1) in
        let g = digit_got text (at + n) d r.small h.within r.byte_is in
        let e : at + (n + 1) ≡ at + n + 1 = omega arith in
        record {
          all = omega arith;
          within = omega arith;
          below = rw (add-one, pow-suc) (omega (arith, h.below, r.small));
          lost = λ p a. j.lost p (seq_lost_second hex_one (λ _. times m hex_one) text (at + n) (at + n + 1) p (d, r.small) hex_plain g (rw e at a));
          got = λ end y a.
              let x = j.got end ((d, r.small), y) (seq_got hex_one (λ _. times m hex_one) text (at + n) (at + n + 1) end (d, r.small) y g (rw e at a)) in
              (x.0, x.1 ∙ sym (append_assoc (hexes n v) (hex_digit_of d ∷ []) ((times m hex_one).print y)) ∙ ap (λ (w : List ℕ). w ++ (times m hex_one).print y) (sym (hexes_more n v d r.small)), x.2);
        }
