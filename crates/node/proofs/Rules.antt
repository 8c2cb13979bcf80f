-- The kinds' rules: those past the last kind, the types that a node can be of, the rules of operators and of nodes without operands. What holds
-- kind by kind is a test over the whole table, which antt computes. Assumes nothing.
use mathlib.Core.Path.{◌≡◌, refl, ap, sym, ◌∙◌}
use mathlib.Core.Bool.{Bool, true, false, cond, not, ◌&&◌, ◌||◌}
use mathlib.Core.Logic.{⊎_elim}
use Prim.Native.Nat.{ℕ, zero, suc, ◌+◌, ◌/◌, ◌%◌, ◌^◌, ◌≤◌, ◌<◌}
use native.Mathlib.Omega.{arith}
use borrow.Author.Tests.{eq-eqb, ne_eqb, eqb-true, eqb-false, lt-ltb, ltb-true}
use lib.Dec.{eqb, ltb}
use Rattle.basis.proofs.Tests.{pick_case, and_true, true_and, true_false, lt_or_ge}
use Rattle.node.specs.Kinds.{Rule, rows, look, rule_of, meant, rest_of, results_for, many_kinds}
use Rattle.node.proofs.Tabulated.{same_on}

-- no kind past the last one is a node's
pub past_form : (k : ℕ) → many_kinds ≤ k → (rule_of k).form ≡ 0
unfolding rows look rule_of
past_form k h = simp (ne_eqb k 0x01 (λ e. omega arith), ne_eqb k 0x02 (λ e. omega arith), ne_eqb k 0x03 (λ e. omega arith), ne_eqb k 0x04 (λ e. omega arith), ne_eqb k 0x10 (λ e. omega arith), ne_eqb k 0x11 (λ e. omega arith), ne_eqb k 0x12 (λ e. omega arith), ne_eqb k 0x13 (λ e. omega arith), ne_eqb k 0x14 (λ e. omega arith), ne_eqb k 0x20 (λ e. omega arith), ne_eqb k 0x21 (λ e. omega arith), ne_eqb k 0x22 (λ e. omega arith), ne_eqb k 0x23 (λ e. omega arith), ne_eqb k 0x24 (λ e. omega arith), ne_eqb k 0x25 (λ e. omega arith), ne_eqb k 0x26 (λ e. omega arith), ne_eqb k 0x27 (λ e. omega arith), ne_eqb k 0x28 (λ e. omega arith), ne_eqb k 0x29 (λ e. omega arith), ne_eqb k 0x2A (λ e. omega arith), ne_eqb k 0x2B (λ e. omega arith), ne_eqb k 0x2C (λ e. omega arith), ne_eqb k 0x2D (λ e. omega arith), ne_eqb k 0x2E (λ e. omega arith), ne_eqb k 0x2F (λ e. omega arith))

pub kind_low : (k : ℕ) → ((rule_of k).form ≡ 0 → ⊥) → k < many_kinds
kind_low k f = ⊎_elim (λ h. h) (λ h. absurd (f (past_form k h))) (lt_or_ge k many_kinds)

-- ---- the types that a node can be of

abbrev wants : ℕ → ℕ → Bool
wants w k = eqb (results_for (rule_of k) / 2 ^ w % 2) 1

abbrev gives : ℕ → ℕ → Bool
gives w k = not (eqb (rule_of k).form 0) && eqb (meant (rule_of k).result w) w

-- the bit of a wanted type says that a node has the kind and is of that type
bit_of_lem : (k w : ℕ) → k < many_kinds → w < 3 → wants w k ≡ gives w k
unfolding rows look rule_of results_for meant
bit_of_lem k zero h l = same_on (wants 0) (gives 0) many_kinds 0 k true refl (omega arith) h
bit_of_lem k (suc zero) h l = same_on (wants 1) (gives 1) many_kinds 0 k true refl (omega arith) h
bit_of_lem k (suc (suc zero)) h l = same_on (wants 2) (gives 2) many_kinds 0 k true refl (omega arith) h
bit_of_lem k (suc (suc (suc w))) h l = absurd (omega arith)

both : (a b : Bool) → not a && b ≡ true → (a ≡ false) × (b ≡ true)
both true b e = true_false e refl
both false b e = (refl, e)

neither : (a b : Bool) → not a && b ≡ false → a ≡ false → b ≡ false
neither true b e g = true_false refl g
neither false b e g = e

module _ (k w : ℕ) (h : k < many_kinds) (l : w < 3) where
  pub is_given : results_for (rule_of k) / 2 ^ w % 2 ≡ 1 → ((rule_of k).form ≡ 0 → ⊥) × (meant (rule_of k).result w ≡ w)
  is_given e =
      let b = both (eqb (rule_of k).form 0) (eqb (meant (rule_of k).result w) w) (sym (bit_of_lem k w h l) ∙ eq-eqb _ _ e) in
      (eqb-false _ _ b.0, eqb-true _ _ b.1)

  pub not_given : (results_for (rule_of k) / 2 ^ w % 2 ≡ 1 → ⊥) → ((rule_of k).form ≡ 0 → ⊥) → meant (rule_of k).result w ≡ w → ⊥
  not_given e f = eqb-false _ _ (neither (eqb (rule_of k).form 0) (eqb (meant (rule_of k).result w) w) (sym (bit_of_lem k w h l) ∙ ne_eqb _ _ e) (ne_eqb _ _ f))

-- no type where the rule is of no node
pub nothing : (r : Rule) → r.form ≡ 0 → results_for r ≡ 0
unfolding results_for
nothing r e = rw (eq-eqb _ _ e)

power : (n : ℕ) → 2 ^ n ≡ 0 → ⊥
power zero e = omega arith
power (suc n) e = power n (omega (arith, two n))
  where
    two : (n : ℕ) → 2 ^ suc n ≡ 2 ^ n + 2 ^ n
    two n = omega arith

pub something : (r : Rule) → (r.form ≡ 0 → ⊥) → results_for r ≡ 0 → ⊥
unfolding results_for
something r f e = pick_case (λ (x : ℕ). x ≡ 0 → ⊥) (eqb r.result 3) 7 (2 ^ r.result) (λ _ z. omega arith) (λ _ z. power r.result z) (rw (ne_eqb _ _ f) at e)

-- ---- operators, and nodes without operands

-- k is the kind of a node without operands
abbrev pub leaf_kind_of : ℕ → Bool
leaf_kind_of k = ltb 0x0F k && ltb k 0x15

pub leaf_kinds : (k : ℕ) → leaf_kind_of k ≡ true → (15 < k) × (k < 21)
leaf_kinds k e = let a = and_true (ltb 0x0F k) (ltb k 0x15) e in (ltb-true 0x0F k a.0, ltb-true k 0x15 a.1)

pub kinds_leaf : (k : ℕ) → 15 < k → k < 21 → leaf_kind_of k ≡ true
kinds_leaf k a b = true_and (lt-ltb 0x0F k a) (lt-ltb k 0x15 b)

-- what holds of an operator's rule
abbrev operates : ℕ → Bool
operates k = eqb (rule_of k).body 0 && (ltb 0 (rule_of k).operands && (ltb (rule_of k).operands 4 && (ltb (rule_of k).first 3 && eqb (rule_of k).rest (rest_of (rule_of k).operands (rule_of k).first 3))))

-- each kind is no node's, or a leaf's, or an operator's
abbrev sorts : ℕ → Bool
sorts k = eqb (rule_of k).form 0 || (leaf_kind_of k || operates k)

all_sorted : (k : ℕ) → k < many_kinds → sorts k ≡ true
unfolding rows look rule_of rest_of
all_sorted k h = same_on sorts (λ _. true) many_kinds 0 k true refl (omega arith) h

second : (a b : Bool) → a || b ≡ true → a ≡ false → b ≡ true
second true b e f = true_false refl f
second false b e f = e

-- an operator's rule: no body, one to three operands, and their types
pub record Operates (k : ℕ) : Type 0 where
  pub body : (rule_of k).body ≡ 0
  pub some : 0 < (rule_of k).operands
  pub three : (rule_of k).operands < 4
  pub first : (rule_of k).first < 3
  pub rest : (rule_of k).rest ≡ rest_of (rule_of k).operands (rule_of k).first 3

pub operator_rule : (k : ℕ) → k < many_kinds → ((rule_of k).form ≡ 0 → ⊥) → leaf_kind_of k ≡ false → Operates k
operator_rule k h f g =
    let o = second (leaf_kind_of k) (operates k) (second (eqb (rule_of k).form 0) (leaf_kind_of k || operates k) (all_sorted k h) (ne_eqb _ _ f)) g in
    let a = and_true _ _ o in
    let b = and_true _ _ a.1 in
    let c = and_true _ _ b.1 in
    let d = and_true _ _ c.1 in
    record { body = eqb-true _ _ a.0; some = ltb-true _ _ b.0; three = ltb-true _ _ c.0; first = ltb-true _ _ d.0; rest = eqb-true _ _ d.1 }

-- what the types of its operands mean where w is wanted
pub first_meant : (a w : ℕ) → a < 3 → meant a w ≡ a
unfolding meant
first_meant a w h = rw (ne_eqb a 3 (λ e. omega arith))

pub rest_meant : (n a w : ℕ) → a < 3 → meant (rest_of n a 3) w ≡ rest_of n a w
unfolding meant rest_of
rest_meant n a w h = go (eqb n 3)
  where
    go : (b : Bool) → cond (eqb (cond b 3 a) 3) w (cond b 3 a) ≡ cond b w a
    go true = refl
    go false = rw (ne_eqb a 3 (λ e. omega arith))

pub rest_small : (n a w : ℕ) → a < 3 → w < 3 → rest_of n a w < 3
unfolding rest_of
rest_small n a w h g = pick_case (λ (x : ℕ). x < 3) (eqb n 3) w a (λ _. g) (λ _. h)

-- a leaf's rule: a node has it
leaves : ℕ → Bool
unfolding rows look rule_of
leaves k = not (leaf_kind_of k) || not (eqb (rule_of k).form 0)

pub leaf_rule : (k : ℕ) → leaf_kind_of k ≡ true → (k < many_kinds) × ((rule_of k).form ≡ 0 → ⊥)
unfolding rows look rule_of leaves
leaf_rule k e =
    let a = and_true (ltb 0x0F k) (ltb k 0x15) e in
    let h : k < many_kinds = omega (arith, ltb-true k 0x15 a.1) in
    let q : leaves k ≡ true = same_on leaves (λ _. true) many_kinds 0 k true refl (omega arith) h in
    (h, eqb-false _ _ (not_true_false _ (second (not (leaf_kind_of k)) (not (eqb (rule_of k).form 0)) q (ap not e))))
  where
    not_true_false : (b : Bool) → not b ≡ true → b ≡ false
    not_true_false true p = true_false refl (sym p)
    not_true_false false p = refl
