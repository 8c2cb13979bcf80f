-- The tests of a node's fields: where each finds no fault, and what it tells then. `first` is the first fault of two.
-- Assumes nothing.
use mathlib.Core.Path.{◌≡◌, refl, ◌∙◌}
use mathlib.Core.Bool.{cond}
use Prim.Native.Nat.{ℕ, zero, suc, ◌≤◌, ◌<◌}
use native.Mathlib.Omega.{arith}
use borrow.Author.Tests.{eq-eqb, ne_eqb, le-ltb, eqb-true, eqb-false, ltb-true, ltb-false}
use lib.Dec.{eqb, ltb}
use lib.IntN.{ℤ, pos, negsuc}
use Rattle.limits.specs.Refusals.{wrong_field, wrong_type}
use Rattle.basis.proofs.Tests.{pick_case}
use Rattle.node.specs.Node.{type_fault_of, word_fault_of, zero_fault_of, first}

pub first_none : (a b : ℕ) → a ≡ 0 → first a b ≡ b
unfolding first
first_none a b e = rw (eq-eqb _ _ e)

pub first_some : (a b : ℕ) → (a ≡ 0 → ⊥) → first a b ≡ a
unfolding first
first_some a b e = rw (ne_eqb _ _ e)

pub both_fine : (a b : ℕ) → a ≡ 0 → b ≡ 0 → first a b ≡ 0
both_fine a b p q = first_none a b p ∙ q

pub neither : (a b : ℕ) → first a b ≡ 0 → (a ≡ 0) × (b ≡ 0)
unfolding first
neither a b = pick_case (λ (n : ℕ). n ≡ 0 → (a ≡ 0) × (b ≡ 0)) (eqb a 0) b a (λ p q. (eqb-true a 0 p, q)) (λ p q. absurd (eqb-false a 0 p q))

pub type_fine : (t w : ℕ) → t ≡ w → type_fault_of t w ≡ 0
unfolding type_fault_of
type_fine t w e = rw (eq-eqb _ _ e)

pub same_type : (t w : ℕ) → type_fault_of t w ≡ 0 → t ≡ w
unfolding type_fault_of
same_type t w = pick_case (λ (n : ℕ). n ≡ 0 → t ≡ w) (eqb t w) 0 wrong_type (λ p _. eqb-true t w p) (λ _ q. absurd (omega arith))

-- a word of no flag, or a flag's
pub word_fine : (t x : ℕ) → (t ≡ 0 → x ≤ 1) → word_fault_of t x ≡ 0
unfolding word_fault_of
word_fine t x h = pick_case (λ (n : ℕ). n ≡ 0) (eqb t 0) _ 0 (λ p. rw (le-ltb 1 x (h (eqb-true _ _ p)))) (λ p. refl)

pub flag_small : (t x : ℕ) → word_fault_of t x ≡ 0 → t ≡ 0 → x ≤ 1
unfolding word_fault_of
flag_small t x =
    pick_case (λ (n : ℕ). n ≡ 0 → t ≡ 0 → x ≤ 1) (eqb t 0) _ 0
    (λ _. pick_case (λ (n : ℕ). n ≡ 0 → t ≡ 0 → x ≤ 1) (ltb 1 x) wrong_field 0 (λ _ q e. absurd (omega arith)) (λ p q e. ltb-false 1 x p))
    (λ p q e. absurd (eqb-false t 0 p e))

pub offset_fine : (k : ℤ) → (k ≡ pos 0 → ⊥) → zero_fault_of k ≡ 0
unfolding zero_fault_of
offset_fine (pos zero) h = absurd (h refl)
offset_fine (pos (suc n)) h = refl
offset_fine (negsuc n) h = refl

pub not_zero : (k : ℤ) → zero_fault_of k ≡ 0 → k ≡ pos 0 → ⊥
unfolding zero_fault_of
not_zero k q e = let z : ◌≡◌ {A = ℕ} wrong_field 0 = rw e at q in omega arith

-- of a reference: the stream is below S, and then the rest has no fault
pub below_of : (v n x : ℕ) → cond (ltb v n) x wrong_field ≡ 0 → (v < n) × (x ≡ 0)
below_of v n x = pick_case (λ (y : ℕ). y ≡ 0 → (v < n) × (x ≡ 0)) (ltb v n) x wrong_field (λ p q. (ltb-true v n p, q)) (λ _ q. absurd (omega arith))
