-- A turn with its output: what the store holds of the due values after it is what is given, as bytes.
-- Assumes nothing.
use Prim.Native.Nat.{ℕ, zero, suc, ◌-◌, ◌<◌, ◌≤◌}
use mathlib.Core.Path.{◌≡◌, refl, sym, ap, ◌∙◌}
use mathlib.Core.Bool.{Bool, true, false, cond, not, ◌&&◌}
use mathlib.Core.List.{List, [], ◌∷◌, ◌++◌, map}
use native.Mathlib.Omega.{arith}
use lib.Dec.{eqb}
use lib.ListN.{length, get_or}
use Rattle.basis.specs.Firsts.{of}
use Rattle.value.specs.declared.Value.{Value}
use Rattle.value.specs.Values.{image_of}
use Rattle.table.specs.Table.{Decoded}
use Rattle.run.specs.Turn.{due}
use Rattle.run.specs.Run as run
use Rattle.basis.specs.Given.{Given}
use Rattle.run.specs.Run.{gather, due_of, store_after, given_on}
use Rattle.run.proofs.Gathers.{gather_cong}
use Rattle.store.proofs.Layouts.{word_due}
use Rattle.evaluate.specs.Turns.{Turns}
use Rattle.records.specs.Encoding.{value_record_of, trigger_record_of, record_of, encode}
use Rattle.output.specs.Encoding.{word_on, output_of, Emitted}
use Rattle.prepare.specs.PlanFor.{table_in, table_for}
use Rattle.prepare.specs.Preparing.{Brief, Prepares}
use Rattle.prepare.proofs.Held.{roles_held, some_held, few_held, held_plan, plan_held, some_kept, ready}
use Rattle.monitor.specs.Turns.{in_words, bytes_on, Turned}

-- the values given, in words
pub gather_words : (look : ℕ → ℕ) (n t : ℕ) (f : ℕ → Value) (k y : ℕ) → gather look n t (λ v. image_of (f v)) k y ≡ map in_words (gather look n t f k y)
unfolding gather
gather_words look n t f zero y = refl
gather_words look n t f (suc k) y = go (due look n t y) (gather_words look n t f k (suc y))
  where
    go : (b : Bool) → gather look n t (λ v. image_of (f v)) k (suc y) ≡ map in_words (gather look n t f k (suc y))
        → cond b (record { stream = y; position = t - look y; word = image_of (f y) } ∷ gather look n t (λ v. image_of (f v)) k (suc y)) (gather look n t (λ v. image_of (f v)) k (suc y))
        ≡ map in_words (cond b (record { stream = y; position = t - look y; word = f y } ∷ gather look n t f k (suc y)) (gather look n t f k (suc y)))
    go true e = ap (λ (l : List (Given ℕ)). record { stream = y; position = t - look y; word = image_of (f y) } ∷ l) e
    go false e = e

-- the bytes depend on the roles that the streams have
encode_same : (rs us : List ℕ) → ((v : ℕ) → get_or rs v 0 ≡ get_or us v 0) → (gs : List (Given ℕ)) → encode rs gs ≡ encode us gs
unfolding encode record_of
encode_same rs us h [] = refl
encode_same rs us h (g ∷ gs) =
    λ i. (value_record_of g.stream g.position g.word ++ cond (eqb (h g.stream i) 1 && not (eqb g.word 0)) (trigger_record_of g.stream g.position) [])
    ++ encode_same rs us h gs i

module _ {s look kept : List ℕ} {p : Brief} (x : Prepares s look kept p) (n t : ℕ) (ws st : List ℕ) (h : p.words ≤ length st) where
  abbrev q : run.Plan Value ℕ ℕ
  q = held_plan x

  -- the word that the store has after the turn for a due value
  word_after : (v : ℕ) → v < p.streams → due (of look) n t v ≡ true → word_on look kept (store_after q n t ws st) t v ≡ image_of (due_of q n t ws st v)
  unfolding store_after
  word_after v l d =
      word_due p.types kept p.streams (few_held x) (some_kept x) (λ u. t - get_or look u 0) (due (of look) n t) (due_of q n t ws st) v st l d (ready x (length st) h).fits

  roles_same : (v : ℕ) → get_or p.roles v 0 ≡ get_or (table_for s).roles v 0
  roles_same v = sym (ap (λ (d : Decoded). get_or (table_in d).roles v 0) x.decodes ∙ roles_held x v)

  output_same : output_of p.roles look kept (store_after q n t ws st) n t (p.streams - p.inputs) p.inputs ≡ bytes_on s n t ws st
  unfolding output_of bytes_on given_on
  output_same =
      ap (encode p.roles)
      (gather_cong (of look) n n t (word_on look kept (store_after q n t ws st) t) (λ v. image_of (due_of q n t ws st v)) (p.streams - p.inputs) p.inputs (λ v. refl)
      (λ v a b d. word_after v (omega (arith, b, some_held x)) d)
      ∙ gather_words (of look) n t (due_of q n t ws st) (p.streams - p.inputs) p.inputs)
      ∙ encode_same p.roles (table_for s).roles roles_same (map in_words (gather (of look) n t (due_of q n t ws st) (p.streams - p.inputs) p.inputs))
      ∙ ap (λ (a : run.Plan Value ℕ ℕ). encode (table_for s).roles (map in_words (given_on a n t ws st))) (sym (plan_held x))

  pub turned : {out st1 out1 : List ℕ} {count : ℕ}
      → Turns s p.types look kept p.starts p.order p.inputs p.streams ws st n t st1
      → Emitted (output_of p.roles look kept st1 n t (p.streams - p.inputs) p.inputs) out out1 count
      → Turned s n t ws st out st1 out1 count
  turned {out} {st1} {out1} {count} a b =
      let e : st1 ≡ store_after q n t ws st = a (ready x (length st) h) in
      let g : output_of p.roles look kept st1 n t (p.streams - p.inputs) p.inputs ≡ bytes_on s n t ws st =
      ap (λ (l : List ℕ). output_of p.roles look kept l n t (p.streams - p.inputs) p.inputs) e ∙ output_same in
      record {
        store_is = e ∙ ap (λ (a : run.Plan Value ℕ ℕ). store_after a n t ws st) (sym (plan_held x));
        output_is = rw g at b;
      }
