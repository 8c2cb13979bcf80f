-- A turn gives the model's values and keeps the store's invariant.
-- Assumes nothing.
use Prim.Native.Nat.{ℕ, zero, suc, ◌+◌, ◌-◌, ◌%◌, ◌/◌, ◌≤◌, ◌<◌}
use mathlib.Core.Path.{◌≡◌, refl, sym, ap, ◌∙◌}
use mathlib.Core.Bool.{true, false, ◌&&◌, cond}
use mathlib.Core.Logic.{◌⊎◌, inl, inr}
use native.Mathlib.Omega.{arith}
use borrow.Author.Tests.{eq-eqb, ne_eqb}
use lib.Dec.{eqb}
use native.Mathlib.Nat.{eq-or-lt_of_le, mod-add-div, mul-le-mul_left, mul-suc}
use Rattle.basis.proofs.Tests.{lt_or_ge}
use Rattle.lola.specs.Expressions.{Ref, Spec, target, rise, fall}
use Rattle.lola.specs.Graph.{Edge}
use Rattle.lola.specs.Models.{value, refer, Model}
use Rattle.lola.specs.Schedule.{Schedule}
use Rattle.run.specs.Keeps.{Keeps}
use Rattle.run.specs.Turn.{due, fetch, due_within_of, due_value}
use Rattle.lola.proofs.Choices.{choose_lt, choose_ge, choose_eq, choose_ne, and_false}
use Rattle.run.proofs.Due.{due_yes}
use Rattle.lola.proofs.References.{value_cong, refer_agree}
use Rattle.lola.proofs.Schedules.{due_by}

-- the store after the turn, all due values written at once
unfoldable pub stored : {W F : Type 0} (s : Spec W F) (look kept : ℕ → ℕ) (blank : W) (n t : ℕ) (row : ℕ → W) (store : ℕ → ℕ → W) → ℕ → ℕ → W
stored s look kept blank n t row store v i =
    let x = due_value s look kept blank n t row store v in
    let y = store v i in
    cond (due look n t v && eqb i ((t - look v) % kept v)) x y

-- before turn t the store holds, of each stream, the last `kept` values that were due before turn t
abbrev pub Holds : {W F : Type 0} (s : Spec W F) (look kept : ℕ → ℕ) (N : ℕ) (σ : ℕ → ℕ → W) (t : ℕ) (store : ℕ → ℕ → W) → Type 0
Holds s look kept N σ t store =
    (v q : ℕ) → v < s.streams → q < N → q + look v < t → t ≤ q + look v + kept v → store v (q % kept v) ≡ σ v q

-- two positions less than n apart lie in two words
pub apart : (n p q : ℕ) → 0 < n → q < p → p < q + n → p % n ≡ q % n → ⊥
apart n p q z a b e = go (lt_or_ge (q / n) (p / n))
  where
    go : (q / n < p / n) ⊎ (p / n ≤ q / n) → ⊥
    go (inl h) = omega (arith, mod-add-div p n, mod-add-div q n, mul-le-mul_left n h, mul-suc n (q / n))
    go (inr h) = omega (arith, mod-add-div p n, mod-add-div q n, mul-le-mul_left n h)

module _ {W F : Type 0} (s : Spec W F) (look rank kept : ℕ → ℕ) (sch : Schedule s look rank) (kp : Keeps s look kept) (blank : W) (N : ℕ) (input σ : ℕ → ℕ → W) (m : Model s N input σ) (n t : ℕ) (to : (q : ℕ) → q ≤ t → q < n → q < N) (from : (q : ℕ) → q ≤ t → q < N → q < n) (row : ℕ → W) (row_ok : (x : ℕ) → x < s.inputs → t < N → row x ≡ input x t) (store : ℕ → ℕ → W) (holds : Holds s look kept N σ t store) where
  -- what a reference of a due equation reads is the model's value
  fetch_ok :
      (fresh : ℕ → W) (v p : ℕ) (r : Ref W) (q : ℕ) → Edge s v r → p + look v ≡ t → q + fall r ≡ p + rise r → q < n →
      (rank (target r) < rank v → q + look (target r) ≡ t → fresh (target r) ≡ σ (target r) q) →
      fetch look kept t store fresh (target r) q ≡ σ (target r) q
  unfolding fetch
  fetch_ok fresh v p r q e a c b new = go (eq-or-lt_of_le (due_by s look rank sch v r p q e c))
    where
      w : ℕ
      w = target r

      go : (q + look w ≡ p + look v) ⊎ (q + look w < p + look v) → fetch look kept t store fresh w q ≡ σ w q
      go (inl h) = choose_eq (q + look w) t _ _ (omega arith) ∙ new (sch.tight v r e (omega arith)) (omega arith)
      go (inr h) =
          choose_ne (q + look w) t _ _ (λ z. omega arith)
          ∙ holds w q (sch.named v r e) (to q (omega arith) b) (omega arith) (omega (arith, kp.enough v r e))

  within_ok : (f v p : ℕ) → rank v < f → v < s.streams → p + look v ≡ t → p < n → due_within_of s look kept blank n t row store f v ≡ σ v p
  unfolding due_within_of
  within_ok zero v p h l e b = absurd (omega arith)
  within_ok (suc f) v p h l e b = go (lt_or_ge v s.inputs) (within_ok f)
    where
      fresh : ℕ → W
      fresh = due_within_of s look kept blank n t row store f

      go : (v < s.inputs) ⊎ (s.inputs ≤ v) → ((w q : ℕ) → rank w < f → w < s.streams → q + look w ≡ t → q < n → fresh w ≡ σ w q) → due_within_of s look kept blank n t row store (suc f) v ≡ σ v p
      go (inl x) ih =
          let z : p ≡ t = omega (arith, sch.inputs_now v x) in
          let d : t < N = to t (omega arith) (omega arith) in
          choose_lt v s.inputs _ _ x ∙ row_ok v x d ∙ sym (m.given v t x d) ∙ ap (σ v) (sym z)
      go (inr y) ih =
          choose_ge v s.inputs _ _ y
          ∙ ap (λ (j : ℕ). value s.ops (refer (fetch look kept t store fresh) n j) (s.equation v)) (omega arith)
          ∙ value_cong s.ops _ _ (s.equation v) (λ r i.
          let e' : Edge s v r = record { output = y; stream = l; occurs = i } in
          refer_agree _ σ n N p r b
          (λ q c z. to q (omega (arith, due_by s look rank sch v r p q e' c)) z)
          (λ q c z. from q (omega (arith, due_by s look rank sch v r p q e' c)) z)
          (λ q c z. fetch_ok fresh v p r q e' e c z (λ k o. ih (target r) q (omega arith) (sch.named v r e') o z)))
          ∙ sym (m.holds v p y l (to p (omega arith) b))

  -- the value given is the model's
  pub due_ok : (v p : ℕ) → v < s.streams → p + look v ≡ t → p < n → due_value s look kept blank n t row store v ≡ σ v p
  unfolding due_value
  due_ok v p l e b = within_ok s.streams v p (sch.small v l) l e b

  -- the store holds what it has to before the next turn
  pub stored_ok : Holds s look kept N σ (suc t) (stored s look kept blank n t row store)
  unfolding stored
  stored_ok v q l qN a b = go (eq-or-lt_of_le a)
    where
      go : (suc (q + look v) ≡ suc t) ⊎ (suc (q + look v) < suc t) → stored s look kept blank n t row store v (q % kept v) ≡ σ v q
      go (inl e) =
          let d : due look n t v ≡ true = due_yes look n t v q (omega arith) (from q (omega arith) qN) in
          let p : t - look v ≡ q = omega arith in
          let k : eqb (q % kept v) ((t - look v) % kept v) ≡ true = rw p (eq-eqb (q % kept v) (q % kept v) refl) in
          rw (d, k) (due_ok v q l (omega arith) (from q (omega arith) qN))
      go (inr h) =
          let k : eqb (q % kept v) ((t - look v) % kept v) ≡ false
          = ne_eqb _ _ (λ z. apart (kept v) (t - look v) q (kp.some v l) (omega arith) (omega arith) (sym z)) in
          rw (k, and_false (due look n t v)) (holds v q l qN (omega arith) (omega arith))
