-- Laws of `Best`: what a largest total covers, when it is below 0, and how sums and the larger of two behave.
-- Assumes nothing.
use mathlib.Core.Path.{◌≡◌, refl, sym, subst}
use mathlib.Core.Logic.{◌⊎◌, inl, inr}
use mathlib.Core.Bool.{Bool, true, false, not, cond}
use native.Mathlib.Omega.{arith}
use lib.IntN.{ℤ, pos, ◌+ℤ◌}
use lib.Signed.{lt_z, ◌≤ℤ◌, ◌<ℤ◌, lt_z_yes, lt_z_no}
use lib.Dec.{T}
use Rattle.basis.proofs.Parts.{sum_parts, le_parts, le_from_parts, lt_parts, lt_from_parts}
use Rattle.basis.proofs.Tests.{T→true, true_false}
use Rattle.walks.specs.Longest.{Best, none, some, max_z, larger, plus, below}

-- b is there, and at least t
pub data Covers : Best → ℤ → Type 0 where
  covers : {d t : ℤ} → t ≤ℤ d → Covers (some d) t

-- b is the largest t with P t
pub record Largest (P : ℤ → Type 0) (b : Best) : Type 0 where
  pub all : (t : ℤ) → P t → Covers b t
  pub real : (t : ℤ) → b ≡ some t → P t

-- ---- laws

max_cases : (a b : ℤ) (c : Bool) → (T c → a <ℤ b) → (T (not c) → b ≤ℤ a) → (a ≤ℤ cond c b a) × (b ≤ℤ cond c b a)
max_cases a b true f g = let h = lt_parts (f tt) in (le_from_parts a b (omega arith), le_from_parts b b (omega arith))
max_cases a b false f g = (le_from_parts a a (omega arith), g tt)

pub max_both : (a b : ℤ) → (a ≤ℤ max_z a b) × (b ≤ℤ max_z a b)
max_both a b = max_cases a b (lt_z a b) lt_z_yes lt_z_no

pick : (a b : ℤ) (c : Bool) → (cond c b a ≡ a) ⊎ (cond c b a ≡ b)
pick a b true = inr refl
pick a b false = inl refl

pub max_is : (a b : ℤ) → (max_z a b ≡ a) ⊎ (max_z a b ≡ b)
max_is a b = pick a b (lt_z a b)

pub ≤ℤ_trans : {a b c : ℤ} → a ≤ℤ b → b ≤ℤ c → a ≤ℤ c
≤ℤ_trans {a} {b} {c} h k = let h' = le_parts h in let k' = le_parts k in le_from_parts a c (omega arith)

pub covers_left : {a : Best} {t : ℤ} (b : Best) → Covers a t → Covers (larger a b) t
covers_left none (covers h) = covers h
covers_left (some b) (covers {d = a} h) = covers (≤ℤ_trans h (max_both a b).0)

pub covers_right : {b : Best} {t : ℤ} (a : Best) → Covers b t → Covers (larger a b) t
covers_right none h = h
covers_right (some a) (covers {d = b} h) = covers (≤ℤ_trans h (max_both a b).1)

pub covers_down : {b : Best} {s t : ℤ} → s ≤ℤ t → Covers b t → Covers b s
covers_down h (covers k) = covers (≤ℤ_trans h k)

pick_le : (a b t : ℤ) → (max_z a b ≡ a) ⊎ (max_z a b ≡ b) → t ≤ℤ max_z a b → Covers (some a) t ⊎ Covers (some b) t
pick_le a b t (inl e) h = inl (covers (subst (λ (z : ℤ). t ≤ℤ z) e h))
pick_le a b t (inr e) h = inr (covers (subst (λ (z : ℤ). t ≤ℤ z) e h))

pub larger_cases : (a b : Best) (t : ℤ) → Covers (larger a b) t → Covers a t ⊎ Covers b t
larger_cases none b t h = inr h
larger_cases (some a) none t h = inl h
larger_cases (some a) (some b) t (covers h) = pick_le a b t (max_is a b) h

pub plus_covers : {a b : Best} {s t : ℤ} → Covers a s → Covers b t → Covers (plus a b) (s +ℤ t)
plus_covers (covers {d = a} {t = s} h) (covers {d = b} {t = t} k) = covers (le_from_parts (s +ℤ t) (a +ℤ b) (omega (arith, sum_parts s t, sum_parts a b, le_parts h, le_parts k)))

pub covers_some : {b : Best} {t : ℤ} → Covers b t → (d : ℤ) × (b ≡ some d) × (t ≤ℤ d)
covers_some (covers {d = d} h) = (d, refl, h)

pub covers_self : {b : Best} {d : ℤ} → b ≡ some d → Covers b d
covers_self {b} {d} e = subst (λ (x : Best). Covers x d) (sym e) (covers (le_from_parts d d (omega arith)))

pub plus_some : (a b : Best) (t : ℤ) → Covers (plus a b) t → (x : ℤ) × (y : ℤ) × (a ≡ some x) × (b ≡ some y) × (t ≤ℤ (x +ℤ y))
plus_some none b t h = elim h [ ]
plus_some (some x) none t h = elim h [ ]
plus_some (some x) (some y) t (covers h) = (x, y, refl, refl, h)

pick_is : (a b t : ℤ) → (max_z a b ≡ a) ⊎ (max_z a b ≡ b) → some (max_z a b) ≡ some t → (some a ≡ some t) ⊎ (some b ≡ some t)
pick_is a b t (inl p) e = inl (cc)
pick_is a b t (inr p) e = inr (cc)

pub larger_is : (a b : Best) (t : ℤ) → larger a b ≡ some t → (a ≡ some t) ⊎ (b ≡ some t)
larger_is none b t e = inr e
larger_is (some a) none t e = inl e
larger_is (some a) (some b) t e = pick_is a b t (max_is a b) e

-- none is not some
IsSome : Best → Type 0
IsSome none = ⊥
IsSome (some d) = Unit {0}

pub none_some : {X : Type 0} {t : ℤ} → none ≡ some t → X
unfolding IsSome
none_some e = absurd (subst IsSome (sym e) tt)

pub plus_is : (a b : Best) (t : ℤ) → plus a b ≡ some t → (x : ℤ) × (y : ℤ) × (a ≡ some x) × (b ≡ some y) × ((x +ℤ y) ≡ t)
plus_is none b t e = none_some e
plus_is (some x) none t e = none_some e
plus_is (some x) (some y) t e = (x, y, refl, refl, cc)

-- the test below 0
pub below_lt : {t : ℤ} → lt_z t (pos 0) ≡ true → t <ℤ pos 0
below_lt e = lt_z_yes (subst T (sym e) tt)

pub lt_below : {t : ℤ} → t <ℤ pos 0 → lt_z t (pos 0) ≡ true
lt_below {t} h = T→true (lt_z t (pos 0)) h.lt

pub below_some : {b : Best} {d : ℤ} → below b ≡ true → b ≡ some d → d <ℤ pos 0
below_some h e = below_lt (subst (λ (b : Best). below b ≡ true) e h)

pub below_larger : (a b : Best) → below (larger a b) ≡ true → below a ≡ true
below_larger none b h = refl
below_larger (some a) none h = h
below_larger (some a) (some b) h = lt_below (lt_from_parts a (pos 0) (omega (arith, lt_parts (below_lt {t = max_z a b} h), le_parts (max_both a b).0)))

-- not below 0: there, and 0 or more
pub not_below : (b : Best) → below b ≡ false → (t : ℤ) × (b ≡ some t) × (pos 0 ≤ℤ t)
not_below none h = true_false refl h
not_below (some t) h = (t, refl, lt_z_no (subst (λ (b : Bool). T (not b)) (sym h) tt))

pub larger_none : (a : Best) → larger a none ≡ a
larger_none none = refl
larger_none (some a) = refl

pub plus_none : (a : Best) → plus a none ≡ none
plus_none none = refl
plus_none (some a) = refl
