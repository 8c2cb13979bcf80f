-- A turn done in place: the streams one after the other by rank, each value written as soon as it is known,
-- and every reference read from the store. It gives what the turn done at once gives, whatever the store held.
-- Assumes nothing.
use Prim.Native.Nat.{ℕ, zero, suc, ◌+◌, ◌-◌, ◌%◌, ◌≤◌, ◌<◌}
use mathlib.Core.Path.{◌≡◌, refl, sym, ap, ◌∙◌}
use mathlib.Core.Bool.{Bool, true, false}
use mathlib.Core.Logic.{◌⊎◌, inl, inr}
use native.Mathlib.Omega.{arith}
use borrow.Author.Tests.{eq-eqb, ne_eqb}
use lib.Dec.{eqb}
use native.Mathlib.Nat.{eq-or-lt_of_le, mod-lt}
use Rattle.basis.proofs.Tests.{lt_or_ge}
use Rattle.lola.specs.Expressions.{Ref, Spec, target, rise, fall}
use Rattle.lola.specs.Graph.{Edge}
use Rattle.lola.specs.Models.{value, refer}
use Rattle.lola.specs.Schedule.{Schedule}
use Rattle.run.specs.Keeps.{Keeps}
use Rattle.run.specs.Turn.{due, fetch, due_within_of, due_value}
use Rattle.lola.proofs.Choices.{choose_lt, choose_ge, choose_eq, choose_ne, and_false}
use Rattle.run.proofs.Due.{due_yes}
use Rattle.lola.proofs.References.{value_cong, refer_agree}
use Rattle.lola.proofs.Schedules.{due_by}
use Rattle.run.proofs.Turns.{stored, apart}

module _ {W F : Type 0} (s : Spec W F) (look rank kept : ℕ → ℕ) (sch : Schedule s look rank) (kp : Keeps s look kept) (blank : W) (n t : ℕ) (row : ℕ → W) (store : ℕ → ℕ → W) where
  abbrev within : ℕ → ℕ → W
  within = due_within_of s look kept blank n t row store

  within_output : (f v p : ℕ) → s.inputs ≤ v → p + look v ≡ t → within (suc f) v ≡ value s.ops (refer (fetch look kept t store (within f)) n p) (s.equation v)
  unfolding due_within_of
  within_output f v p h e =
      choose_ge v s.inputs _ _ h
      ∙ ap (λ (j : ℕ). value s.ops (refer (fetch look kept t store (within f)) n j) (s.equation v)) (omega arith)

  within_input : (f v : ℕ) → v < s.inputs → within (suc f) v ≡ row v
  unfolding due_within_of
  within_input f v h = choose_lt v s.inputs _ _ h

  within_row : (f v : ℕ) → v < f → v < s.inputs → within f v ≡ row v
  within_row zero v h x = absurd (omega arith)
  within_row (suc f) v h x = within_input f v x

  -- what is due of an input is its row word
  pub due_input : (v : ℕ) → v < s.streams → v < s.inputs → due_value s look kept blank n t row store v ≡ row v
  unfolding due_value
  due_input v l x = within_row s.streams v l x

  -- what fetch reads depends on `fresh` only at streams of lower rank
  fetch_same : (a b : ℕ → W) (v p : ℕ) (r : Ref W) (q : ℕ) → Edge s v r → p + look v ≡ t → q + fall r ≡ p + rise r →
      (rank (target r) < rank v → q + look (target r) ≡ t → a (target r) ≡ b (target r)) →
      fetch look kept t store a (target r) q ≡ fetch look kept t store b (target r) q
  unfolding fetch
  fetch_same a b v p r q e h c new = go (eq-or-lt_of_le (due_by s look rank sch v r p q e c))
    where
      w : ℕ
      w = target r

      go : (q + look w ≡ p + look v) ⊎ (q + look w < p + look v) → fetch look kept t store a w q ≡ fetch look kept t store b w q
      go (inl z) = choose_eq (q + look w) t _ _ (omega arith) ∙ new (sch.tight v r e (omega arith)) (omega arith) ∙ sym (choose_eq (q + look w) t _ _ (omega arith))
      go (inr z) = choose_ne (q + look w) t _ _ (λ x. omega arith) ∙ sym (choose_ne (q + look w) t _ _ (λ x. omega arith))

  -- fuel above the rank changes nothing, of a value that is due
  within_enough : (f g v p : ℕ) → rank v < f → rank v < g → v < s.streams → p + look v ≡ t → p < n → within f v ≡ within g v
  within_enough zero g v p a b l e h = absurd (omega arith)
  within_enough (suc f) zero v p a b l e h = absurd (omega arith)
  within_enough (suc f) (suc g) v p a b l e h = go (lt_or_ge v s.inputs) (within_enough f g)
    where
      go : (v < s.inputs) ⊎ (s.inputs ≤ v) → ((w q : ℕ) → rank w < f → rank w < g → w < s.streams → q + look w ≡ t → q < n → within f w ≡ within g w) → within (suc f) v ≡ within (suc g) v
      go (inl x) ih = within_input f v x ∙ sym (within_input g v x)
      go (inr y) ih =
          within_output f v p y e
          ∙ value_cong s.ops _ _ (s.equation v) (λ r i.
          let d : Edge s v r = record { output = y; stream = l; occurs = i } in
          refer_agree _ _ n n p r h (λ q c z. z) (λ q c z. z)
          (λ q c z. fetch_same (within f) (within g) v p r q d e c (λ k u. ih (target r) q (omega arith) (omega arith) (sch.named v r d) u z)))
          ∙ sym (within_output g v p y e)

  -- The step of the loop: `cur` is the store as it stands when v's turn comes, `fin` says which streams have been written.
  module _ (cur : ℕ → ℕ → W) (v p : ℕ) (fin : ℕ → Bool) (l : v < s.streams) (o : s.inputs ≤ v) (e : p + look v ≡ t) (h : p < n)
      (lower : (w : ℕ) → w < s.streams → rank w < rank v → fin w ≡ true)
      (new : (w i : ℕ) → w < s.streams → i < kept w → fin w ≡ true → cur w i ≡ stored s look kept blank n t row store w i)
      (old : (w i : ℕ) → w < s.streams → i < kept w → fin w ≡ false → cur w i ≡ store w i) where
    all : ℕ → W
    all = due_value s look kept blank n t row store

    due_now : (w q : ℕ) → q + look w ≡ t → q < n → stored s look kept blank n t row store w (q % kept w) ≡ all w
    unfolding stored all
    due_now w q c z =
        let d : due look n t w ≡ true = due_yes look n t w q c z in
        let k : eqb (q % kept w) ((t - look w) % kept w) ≡ true = eq-eqb _ _ (ap (λ (x : ℕ). x % kept w) (omega arith)) in
        rw (d, k)

    kept_still : (w q : ℕ) → w < s.streams → q + look w < t → t < q + look w + kept w → stored s look kept blank n t row store w (q % kept w) ≡ store w (q % kept w)
    unfolding stored
    kept_still w q lw c z =
        let k : eqb (q % kept w) ((t - look w) % kept w) ≡ false
        = ne_eqb _ _ (λ x. apart (kept w) (t - look w) q (kp.some w lw) (omega arith) (omega arith) (sym x)) in
        rw (k, and_false (due look n t w))

    read : (r : Ref W) (q : ℕ) → Edge s v r → q + fall r ≡ p + rise r → q < n → cur (target r) (q % kept (target r)) ≡ fetch look kept t store (within (rank v)) (target r) q
    unfolding fetch due_value all
    read r q d c z = go (eq-or-lt_of_le (due_by s look rank sch v r p q d c))
      where
        w : ℕ
        w = target r

        lw : w < s.streams
        lw = sch.named v r d

        before : q + look w < t → (b : Bool) → fin w ≡ b → cur w (q % kept w) ≡ store w (q % kept w)
        before x true u = new w _ lw (mod-lt q (kp.some w lw)) u ∙ kept_still w q lw x (omega (arith, kp.enough v r d))
        before x false u = old w _ lw (mod-lt q (kp.some w lw)) u

        go : (q + look w ≡ p + look v) ⊎ (q + look w < p + look v) → cur w (q % kept w) ≡ fetch look kept t store (within (rank v)) w q
        go (inl x) =
            let k : rank w < rank v = sch.tight v r d (omega arith) in
            new w _ lw (mod-lt q (kp.some w lw)) (lower w lw k) ∙ due_now w q (omega arith) z
            ∙ within_enough s.streams (rank v) w q (sch.small w lw) k lw (omega arith) z
            ∙ sym (choose_eq (q + look w) t _ _ (omega arith))
        go (inr x) = before (omega arith) (fin w) refl ∙ sym (choose_ne (q + look w) t _ _ (λ y. omega arith))

    pub in_place : value s.ops (refer (λ w q. cur w (q % kept w)) n p) (s.equation v) ≡ due_value s look kept blank n t row store v
    unfolding due_value
    in_place =
        value_cong s.ops _ _ (s.equation v) (λ r i.
        let d : Edge s v r = record { output = o; stream = l; occurs = i } in
        refer_agree _ _ n n p r h (λ q c z. z) (λ q c z. z) (λ q c z. read r q d c z))
        ∙ sym (within_output (rank v) v p o e)
        ∙ within_enough (suc (rank v)) s.streams v p (omega arith) (sch.small v l) l e h
