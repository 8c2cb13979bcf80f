-- The bytes that the turns owe, read back (document 01, "A run"): the model's values, in 32-bit words.
-- Assumes nothing.
use Prim.Native.Nat.{ℕ, zero, suc, ◌+◌, ◌-◌, ◌≤◌, ◌<◌, ◌^◌}
use mathlib.Core.Path.{◌≡◌, refl, sym, ap, ap₂, ◌∙◌, subst}
use mathlib.Core.Bool.{Bool, true, false, ◌&&◌, cond}
use mathlib.Core.List.{List, [], ◌∷◌, ◌++◌, map, map-append, flatten}
use mathlib.Core.Logic.{◌⊎◌, inl, inr}
use native.Mathlib.Omega.{arith}
use lib.Dec.{eqb}
use lib.ListN.{length, get_or, length-map, get_or-map, get_or-eq_default}
use Rattle.basis.specs.Given.{Given}
use Rattle.basis.proofs.Tests.{lt_or_ge}
use Rattle.limits.specs.Limits.{most_rows, most_streams}
use Rattle.wire.specs.Bytes.{AllBytes, AllWords}
use Rattle.records.specs.Encoding.{encode}
use Rattle.records.specs.Reading.{read_items, read_back_of, items_given, Fits, AllFit, none, more}
use Rattle.records.proofs.Back.{items_of_encode, read_back}
use Rattle.value.specs.declared.Value.{Value}
use Rattle.value.specs.Values.{image_of, Good}
use Rattle.value.proofs.Images.{image_word}
use Rattle.table.specs.Table.{Decoded, streams}
use Rattle.table.proofs.Sound.{sound}
use Rattle.announce.specs.Announced.{announced}
use Rattle.run.specs.Run.{gather, owed, owed_before}
use Rattle.run.specs.Turn.{due}
use Rattle.run.specs.Demands.{given_for}
use Rattle.run.proofs.Due.{due_facts}
use Rattle.run.proofs.Once.{owed_turns, owed_at, owed_here, owed_once}
use Rattle.meaning.specs.Tables.{TableModel}
use Rattle.meaning.proofs.Words.{accepted_good}
use Rattle.prepare.specs.PlanFor.{table_in, table_for, look_for, kept_for, plan_for}
use Rattle.prepare.proofs.Announcing.{accepting}
use Rattle.monitor.specs.Turns.{in_words}
use Rattle.demands.specs.Runs.{bytes_given_of}

-- the values of a turn fit their records
gather_fits : (look : ℕ → ℕ) (n t : ℕ) (f : ℕ → Value) (k y : ℕ) → y + k ≤ most_streams → n ≤ most_rows → ((v q : ℕ) → v < y + k → q < n → q + look v ≡ t → image_of (f v) < 2 ^ 32) →
    AllFit (map in_words (gather look n t f k y))
unfolding gather
gather_fits look n t f zero y a b h = none
gather_fits look n t f (suc k) y a b h = go (due look n t y) refl (gather_fits look n t f k (suc y) (omega arith) b (λ v q l. h v q (omega arith)))
  where
    rest : List (Given Value)
    rest = gather look n t f k (suc y)

    go : (d : Bool) → due look n t y ≡ d → AllFit (map in_words rest) → AllFit (map in_words (cond d (record { stream = y; position = t - look y; word = f y } ∷ rest) rest))
    go true d ih =
        let e = due_facts look n t y d in
        let l : t - look y < n = omega (arith, e.0, e.1) in
        let w : image_of (f y) < 2 ^ 32 = h y (t - look y) (omega arith) l (omega (arith, e.0)) in
        let fits : Fits (record { stream = y; position = t - look y; word = image_of (f y) }) = record { stream_fits = omega arith; position_fits = omega arith; word_fits = w } in
        more fits ih
    go false d ih = ih

-- given in words
given_words : (y j : ℕ) (gs : List (Given Value)) → given_for y j (map in_words gs) ≡ map image_of (given_for y j gs)
unfolding given_for
given_words y j [] = refl
given_words y j (g ∷ gs) = go (eqb g.stream y && eqb g.position j) (given_words y j gs)
  where
    go : (b : Bool) → given_for y j (map in_words gs) ≡ map image_of (given_for y j gs)
        → cond b (image_of g.word ∷ given_for y j (map in_words gs)) (given_for y j (map in_words gs)) ≡ map image_of (cond b (g.word ∷ given_for y j gs) (given_for y j gs))
    go true e = ap (λ (l : List ℕ). image_of g.word ∷ l) e
    go false e = e

-- turns that are each read back are read back together
turns_back : (s : List ℕ) (ts : List (List (Given Value))) → ((i : ℕ) → read_back_of (bytes_given_of s (get_or ts i [])) ≡ map in_words (get_or ts i [])) →
    flatten (map read_back_of (map (bytes_given_of s) ts)) ≡ map in_words (flatten ts)
unfolding flatten
turns_back s [] h = refl
turns_back s (t ∷ ts) h = ap₂ ◌++◌ (h 0) (turns_back s ts (λ i. h (suc i))) ∙ sym (map-append in_words t (flatten ts))

-- as many as there are turns
pub log_long : (s : List ℕ) (σ : ℕ → ℕ → Value) (N T : ℕ) (log : List (List ℕ)) → log ≡ map (bytes_given_of s) (owed_before (plan_for s) σ N T) → length log ≡ T
log_long s σ N T log gives = ap length gives ∙ length-map (owed_before (plan_for s) σ N T) (bytes_given_of s) ∙ owed_turns (plan_for s) σ N T

module _ (s : List ℕ) (n : (announced s).number ≡ 0) where
  few_streams : ((table_for s).inputs < streams (table_for s)) × (streams (table_for s) ≤ most_streams)
  few_streams =
      let x = accepting s n in
      let y = sound s x.decodes in
      subst (λ (d : Decoded). ((table_in d).inputs < streams (table_in d)) × (streams (table_in d) ≤ most_streams)) (sym x.decodes) (y.some_output, y.few)

  module _ (bytes : AllBytes s) (rows : List (List ℕ)) (words : (i : ℕ) → AllWords (get_or rows i [])) (few : length rows ≤ most_rows) (σ : ℕ → ℕ → Value) (m : TableModel (table_for s) rows σ) where
    model_good : (v j : ℕ) → v < streams (table_for s) → j < length rows → Good (σ v j)
    model_good =
        let x = accepting s n in
        subst (λ (d : Decoded). TableModel (table_in d) rows σ → (v j : ℕ) → v < streams (table_in d) → j < length rows → Good (σ v j)) (sym x.decodes)
        (accepted_good s x.table x.decodes (look_for s) (kept_for s) x.certified.right bytes rows words σ) m

    owed_fits : (t : ℕ) → AllFit (map in_words (owed (plan_for s) σ (length rows) t))
    unfolding owed plan_for
    owed_fits t =
        gather_fits (look_for s) (length rows) t (λ y. σ y (t - look_for s y)) (streams (table_for s) - (table_for s).inputs) (table_for s).inputs (omega (arith, few_streams.0, few_streams.1)) few
        (λ v q l h e. image_word (σ v (t - look_for s v)) (model_good v (t - look_for s v) (omega (arith, few_streams.0)) (omega arith)))

    -- the bytes of the turns up to T
    module _ (T : ℕ) (log : List (List ℕ)) (gives : log ≡ map (bytes_given_of s) (owed_before (plan_for s) σ (length rows) T)) where
      pub bytes_at : (t : ℕ) → get_or log t [] ≡ bytes_given_of s (get_or (owed_before (plan_for s) σ (length rows) T) t [])
      unfolding encode
      bytes_at t = ap (λ (l : List (List ℕ)). get_or l t []) gives ∙ get_or-map (bytes_given_of s) (owed_before (plan_for s) σ (length rows) T) t []

      pub turn_fits : (t : ℕ) → AllFit (map in_words (get_or (owed_before (plan_for s) σ (length rows) T) t []))
      turn_fits t = go (lt_or_ge t T)
        where
          go : (t < T) ⊎ (T ≤ t) → AllFit (map in_words (get_or (owed_before (plan_for s) σ (length rows) T) t []))
          go (inl h) = rw (owed_at (plan_for s) σ (length rows) T t h) (owed_fits t)
          go (inr h) = rw (get_or-eq_default (owed_before (plan_for s) σ (length rows) T) [] {n = t} (omega (arith, h, owed_turns (plan_for s) σ (length rows) T))) none

      read_at : (t : ℕ) → read_back_of (get_or log t []) ≡ map in_words (get_or (owed_before (plan_for s) σ (length rows) T) t [])
      read_at t = ap read_back_of (bytes_at t) ∙ read_back (table_for s).roles _ (turn_fits t)

      -- all records of a turn are those of its values
      pub items_at : (t : ℕ) → read_items (get_or log t []) ≡ items_given (table_for s).roles (read_back_of (get_or log t []))
      items_at t = ap read_items (bytes_at t) ∙ items_of_encode (table_for s).roles _ (turn_fits t) ∙ ap (items_given (table_for s).roles) (sym (read_at t))

      read_all : flatten (map read_back_of log) ≡ map in_words (flatten (owed_before (plan_for s) σ (length rows) T))
      read_all = ap (λ (l : List (List ℕ)). flatten (map read_back_of l)) gives ∙ turns_back s (owed_before (plan_for s) σ (length rows) T) (λ t. read_back (table_for s).roles _ (turn_fits t))

      -- y's value for row j, once, on turn j plus its look-ahead
      pub given_once : (y j : ℕ) → (table_for s).inputs ≤ y → y < streams (table_for s) → j < length rows → j + look_for s y < T →
          (given_for y j (read_back_of (get_or log (j + look_for s y) [])) ≡ image_of (σ y j) ∷ []) × (given_for y j (flatten (map read_back_of log)) ≡ image_of (σ y j) ∷ [])
      unfolding plan_for
      given_once y j o l h t = (
        ap (given_for y j) (read_at (j + look_for s y)) ∙ given_words y j _ ∙ ap (λ (gs : List (Given Value)). map image_of (given_for y j gs)) (owed_at (plan_for s) σ (length rows) T (j + look_for s y) t)
            ∙ ap (map image_of) (owed_here (plan_for s) σ (length rows) y j o l h),
        ap (given_for y j) read_all ∙ given_words y j _ ∙ ap (map image_of) (owed_once (plan_for s) σ (length rows) y j o l h T t),
      )
