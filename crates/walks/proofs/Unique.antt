-- What is announced is determined: two look-aheads, kept numbers or places of the same edges are equal, and no edges are both accepted and refused.
-- Assumes nothing.
use mathlib.Core.Path.{◌≡◌, sym}
use mathlib.Core.Logic.{inl, inr, ⊎_elim}
use Prim.Native.Nat.{ℕ, ◌≤◌, ◌<◌}
use native.Mathlib.Omega.{arith}
use lib.IntN.{pos}
use lib.Signed.{clash_ℤ}
use Rattle.basis.proofs.Parts.{le_parts}
use Rattle.basis.proofs.Tests.{lt_or_eq, lt_or_ge}
use Rattle.walks.specs.Walks.{Edges, Within, LoopsBelow, LookAhead, Kept, PlaceOfLoop, Right}

pub look_one : {E : Edges} {v a b : ℕ} → LookAhead E v a → LookAhead E v b → a ≡ b
look_one {a = a} {b = b} x y = let p = x.real in let q = y.real in
    omega (arith, le_parts (y.all p.0 p.1 (pos a) p.2), le_parts (x.all q.0 q.1 (pos b) q.2))

kept_le : {E : Edges} {look : ℕ → ℕ} {v m n : ℕ} → Kept E look v m → Kept E look v n → m ≤ n
kept_le x y = ⊎_elim (λ e. omega (arith, y.some)) (λ q. omega (arith, y.all q.0 q.1 q.2, q.3)) x.real

pub kept_one : {E : Edges} {look : ℕ → ℕ} {v m n : ℕ} → Kept E look v m → Kept E look v n → m ≡ n
kept_one x y = omega (arith, kept_le x y, kept_le y x)

-- a kept number asks the look-aheads of the streams below S only
pub kept_same : {E : Edges} {look look' : ℕ → ℕ} {S v n : ℕ} → Within E S → v < S → ((y : ℕ) → y < S → look y ≡ look' y) → Kept E look v n → Kept E look' v n
kept_same {v = v} ends l h x = record {
  some = x.some;
  all = λ y k e. omega (arith, x.all y k e, h y (ends y v k e).0, h v l);
  real = ⊎_elim inl (λ q. inr (q.0, q.1, q.2, omega (arith, q.3, h q.0 (ends q.0 v q.1 q.2).0, h v l))) x.real;
}

place_before : {E : Edges} {S p q : ℕ} → PlaceOfLoop E S p → PlaceOfLoop E S q → p < q → ⊥
place_before {p = p} x y h = y.lowest p h x.loop

pub place_one : {E : Edges} {S p q : ℕ} → PlaceOfLoop E S p → PlaceOfLoop E S q → p ≡ q
place_one {p = p} {q = q} x y = ⊎_elim (λ h. absurd (place_before x y h)) (λ h. ⊎_elim (λ g. absurd (place_before y x g)) sym (lt_or_eq h)) (lt_or_ge p q)

-- accepted or refused, not both
pub below_no_place : {E : Edges} {S p : ℕ} → LoopsBelow E → PlaceOfLoop E S p → ⊥
unfolding LoopsBelow
below_no_place {p = p} h x = let l = x.loop in clash_ℤ (h l.n p l.t l.loop) l.up_to

-- the announced numbers, whole
pub right_one : {E : Edges} {S : ℕ} {look look' kept kept' : ℕ → ℕ} → Within E S → Right E S look kept → Right E S look' kept' → (v : ℕ) → v < S → (look v ≡ look' v) × (kept v ≡ kept' v)
right_one {look = look} {look' = look'} ends x y v l =
    (look_one (x.ahead v l) (y.ahead v l), kept_one (kept_same ends l (λ u p. look_one (x.ahead u p) (y.ahead u p)) (x.keeps v l)) (y.keeps v l))
