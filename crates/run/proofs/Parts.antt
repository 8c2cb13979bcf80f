-- A turn done in place over the lent store, stream by stream in the order of rank: `Part fin cur` says that the store `cur` is the one
-- where the values of the streams that `fin` names have been written.
-- Assumes nothing.
use Prim.Native.Nat.{ℕ, ◌+◌, ◌-◌, ◌%◌, ◌≤◌, ◌<◌}
use mathlib.Core.Path.{◌≡◌, sym, ap, ◌∙◌}
use mathlib.Core.Bool.{Bool, true, false, ◌&&◌, cond}
use mathlib.Core.List.{List}
use lib.ListN.{length, get_or}
use native.Mathlib.Omega.{arith}
use lib.Dec.{eqb}
use native.Mathlib.Decide.{ℕ_discrete}
use native.Mathlib.Nat.{mod-lt}
use Rattle.basis.proofs.Tests.{and_true}
use Rattle.lola.specs.Models.{value, refer}
use Rattle.run.specs.Run.{Plan, Announced, words, view, slot_on, write, due_of, store_after}
use Rattle.run.specs.Turn.{due}
use Rattle.lola.proofs.Choices.{and_false}
use Rattle.run.proofs.InPlace.{in_place}
use Rattle.run.proofs.Stores.{write_cong, write_none, write_at, write_more}
use Rattle.run.proofs.Turns.{stored}
use Rattle.run.proofs.Types.{due_fits}

module _ {W B F : Type 0} (p : Plan W B F) (rank : ℕ → ℕ) (Fits : ℕ → W → Type 0) (an : Announced p rank Fits) (n t : ℕ) (ws st : List B) (fits : words p ≤ length st) where
  -- those that `fin` names and that are due
  abbrev due_in : (ℕ → Bool) → ℕ → Bool
  due_in fin v = fin v && due p.look n t v

  -- the store where they have been written
  abbrev written : (ℕ → Bool) → List B
  written fin = write p.layout (due_in fin) (slot_on p t) (due_of p n t ws st) p.spec.streams st

  pub record Part (fin : ℕ → Bool) (cur : List B) : Type 0 where
    pub is : cur ≡ written fin

  small : (v : ℕ) → v < p.spec.streams → slot_on p t v < p.kept v
  small v l = mod-lt (t - p.look v) (an.keeps.some v l)

  part_read : (fin : ℕ → Bool) (cur : List B) → Part fin cur → (v i : ℕ) → v < p.spec.streams → i < p.kept v →
      view p cur v i ≡ cond (due_in fin v && eqb i (slot_on p t v)) (due_of p n t ws st v) (view p st v i)
  part_read fin cur pt v i l h =
      ap (λ (s : List B). view p s v i) pt.is
      ∙ write_at p.layout p.spec.streams p.kept Fits an.laid (slot_on p t) small (due_in fin) _
      (λ w k d. due_fits p rank Fits an n t ws st w k (and_true (fin w) (due p.look n t w) d).1) p.spec.streams v i st (omega arith) l h fits

  pub part_start : (fin : ℕ → Bool) → ((v : ℕ) → v < p.spec.streams → fin v ≡ false) → Part fin st
  part_start fin none = record {
    is = sym (write_cong p.layout (due_in fin) (λ v. false) (slot_on p t) _ p.spec.streams st (λ v l. rw (none v l)) ∙ write_none p.layout (slot_on p t) _ p.spec.streams st);
  }

  -- v is due, and its value is written
  pub part_write : (fin fin' : ℕ → Bool) (cur : List B) (v : ℕ) → Part fin cur → v < p.spec.streams → due p.look n t v ≡ true →
      fin v ≡ false → fin' v ≡ true → ((w : ℕ) → (w ≡ v → ⊥) → fin' w ≡ fin w) → Part fin' (p.layout.write cur v (slot_on p t v) (due_of p n t ws st v))
  part_write fin fin' cur v pt l d f f' same = record {
    is =
        ap (λ (s : List B). p.layout.write s v (slot_on p t v) (due_of p n t ws st v)) pt.is
        ∙ write_more p.layout p.spec.streams p.kept Fits an.laid (slot_on p t) small (due_in fin) (due_in fin') _ v l (rw f) (rw f' d) (λ w e. rw (same w e)) p.spec.streams st (omega arith) l;
  }

  -- v is not due
  pub part_skip : (fin fin' : ℕ → Bool) (cur : List B) (v : ℕ) → Part fin cur → due p.look n t v ≡ false →
      ((w : ℕ) → (w ≡ v → ⊥) → fin' w ≡ fin w) → Part fin' cur
  part_skip fin fin' cur v pt d same = record { is = pt.is ∙ write_cong p.layout (due_in fin) (due_in fin') (slot_on p t) _ p.spec.streams st (λ w l. go w (ℕ_discrete w v)) }
    where
      go : (w : ℕ) → Dec (w ≡ v) → due_in fin w ≡ due_in fin' w
      go w (yes e) = rw (e, d, and_false (fin v), and_false (fin' v))
      go w (no e) = rw (same w e)

  -- What an equation gives that is evaluated over the store as it stands, every reference read from it.
  pub part_value : (fin : ℕ → Bool) (cur : List B) (v j : ℕ) → Part fin cur → v < p.spec.streams → p.spec.inputs ≤ v → j + p.look v ≡ t → j < n →
      ((w : ℕ) → w < p.spec.streams → rank w < rank v → fin w ≡ true) →
      value p.spec.ops (refer (λ w q. view p cur w (q % p.kept w)) n j) (p.spec.equation v) ≡ due_of p n t ws st v
  unfolding stored
  part_value fin cur v j pt l o e h lower =
      in_place p.spec p.look rank p.kept an.schedule an.keeps p.blank n t (λ x. p.get x (get_or ws x p.zero_word)) (view p st) (view p cur) v j fin l o e h lower
      (λ w i lw k f. part_read fin cur pt w i lw k ∙ rw f)
      (λ w i lw k f. part_read fin cur pt w i lw k ∙ rw f)

  -- All streams done: the store is the one that the turn done at once leaves.
  pub part_end : (fin : ℕ → Bool) (cur : List B) → Part fin cur → ((v : ℕ) → v < p.spec.streams → fin v ≡ true) → cur ≡ store_after p n t ws st
  unfolding store_after
  part_end fin cur pt all = pt.is ∙ write_cong p.layout (due_in fin) (due p.look n t) (slot_on p t) _ p.spec.streams st (λ v l. rw (all v l))
