-- Laws of what is written into a lent slice: nothing, one byte, one text after another, and the whole slice afterwards.
-- Assumes nothing.
use mathlib.Core.Path.{◌≡◌, refl, sym, ap, ◌∙◌}
use mathlib.Core.List.{List, [], ◌∷◌, ◌++◌, append_assoc, append-nil}
use Prim.Native.Nat.{ℕ, ◌+◌, ◌<◌}
use native.Mathlib.Omega.{arith}
use native.Mathlib.Numerals.{add-one}
use lib.ListN.{length, set, take, drop, length-set, length-append, take-append-drop}
use lib.Seq.{take-suc-set, drop-set-lt, drop-drop}
use Rattle.basis.specs.Written.{Wrote}

pub wrote_nothing : (l : List ℕ) (place : ℕ) → Wrote l place [] l place
wrote_nothing l place = record { ends = omega arith; front = sym (append-nil (take place l)); rest = refl; size = refl }

pub wrote_byte : (l : List ℕ) (place b : ℕ) → place < length l → Wrote l place (b ∷ []) (set l place b) (place + 1)
wrote_byte l place b h = record {
  ends = refl;
  front = rw add-one (take-suc-set l place b h);
  rest = drop-set-lt (place + 1) l place b (omega arith);
  size = length-set l place b;
}

-- the law of composition: a second text where the first one ends
pub then : {a b c s t : List ℕ} {p q r : ℕ} → Wrote a p s b q → Wrote b q t c r → Wrote a p (s ++ t) c r
then {a} {b} {c} {s} {t} {p} {q} {r} u v = record {
  ends = let e = length-append s t in omega (arith, u.ends, v.ends);
  front = v.front ∙ ap (λ (l : List ℕ). l ++ t) u.front ∙ append_assoc (take p a) s t;
  rest = v.rest ∙ ap (λ (k : ℕ). drop k b) v.ends ∙ sym (drop-drop (length t) q b) ∙ ap (drop (length t)) u.rest
      ∙ drop-drop (length t) q a ∙ ap (λ (k : ℕ). drop k a) (sym v.ends);
  size = v.size ∙ u.size;
}

pub wrote_as : {a b s t : List ℕ} {p q : ℕ} → t ≡ s → Wrote a p s b q → Wrote a p t b q
wrote_as e w = rw e w

-- the slice afterwards, whole
pub after_is : {a b s : List ℕ} {p q : ℕ} → Wrote a p s b q → b ≡ take p a ++ (s ++ drop (p + length s) a)
after_is {a} {b} {s} {p} {q} w =
    sym (take-append-drop q b) ∙ ap (λ (l : List ℕ). l ++ drop q b) w.front ∙ append_assoc (take p a) s (drop q b)
    ∙ ap (λ (l : List ℕ). take p a ++ (s ++ l)) (w.rest ∙ ap (λ (k : ℕ). drop k a) w.ends)

-- so what is written is determined: the slice and the end
pub wrote_once : {a b c s : List ℕ} {p q r : ℕ} → Wrote a p s b q → Wrote a p s c r → (b ≡ c) × (q ≡ r)
wrote_once u v = (after_is u ∙ sym (after_is v), u.ends ∙ sym v.ends)
