-- Reading back what was written: the records of the values given, whatever stands behind them, say these values.
-- Assumes nothing.
use mathlib.Core.Path.{◌≡◌, refl, sym, ap, ap₂, ◌∙◌}
use mathlib.Core.Bool.{Bool, true, false, cond}
use mathlib.Core.List.{List, [], ◌∷◌, ◌++◌, append_assoc, append-nil}
use Prim.Native.Nat.{ℕ, ◌<◌, ◌^◌}
use native.Mathlib.Omega.{arith}
use lib.ListN.{drop}
use Rattle.basis.specs.Given.{Given}
use Rattle.wire.specs.Bytes.{AllBytes, le4, word_at}
use Rattle.wire.proofs.Words.{no_bytes, byte_more, bytes_append, word_bytes, word_back}
use Rattle.records.specs.Kinds.{kind_value, value_size_of, kind_trigger, trigger_size_of}
use Rattle.records.specs.Encoding.{value_record_of, trigger_record_of, raised, record_of, encode}
use Rattle.records.specs.declared.Kind.TheVariants.{Value, Trigger}
use Rattle.records.specs.Reading.{Item, value, trigger, StartsWith, record_size_of, read_items, values_in, read_back_of, items_of, items_given, Fits, AllFit, none, more}
use Rattle.records.proofs.Reading.{size_within, size_of_start, value_starts, trigger_starts, reading_stops, items_by_first}

-- a record in front
value_in_front : (y p w : ℕ) (rest : List ℕ) → p < 2 ^ 32 → w < 2 ^ 32 → read_items (value_record_of y p w ++ rest) ≡ value y p w ∷ read_items rest
unfolding le4 word_at
value_in_front y p w rest hp hw =
    let l : List ℕ = value_record_of y p w ++ rest in
    let s : StartsWith Value l = record { first = refl; whole = omega arith } in
    let e : record_size_of l ≡ value_size_of = size_of_start l Value s in
    items_by_first l (omega arith)
    ∙ ap₂ ◌∷◌ (value_starts l s ∙ ap₂ (value y) (word_back p hp) (word_back w hw)) (ap (λ (n : ℕ). read_items (drop n l)) e)

trigger_in_front : (y p : ℕ) (rest : List ℕ) → p < 2 ^ 32 → read_items (trigger_record_of y p ++ rest) ≡ trigger y p ∷ read_items rest
unfolding le4 word_at
trigger_in_front y p rest hp =
    let l : List ℕ = trigger_record_of y p ++ rest in
    let s : StartsWith Trigger l = record { first = refl; whole = omega arith } in
    let e : record_size_of l ≡ trigger_size_of = size_of_start l Trigger s in
    items_by_first l (omega arith)
    ∙ ap₂ ◌∷◌ (trigger_starts l s ∙ ap (trigger y) (word_back p hp)) (ap (λ (n : ℕ). read_items (drop n l)) e)

module _ (roles : List ℕ) where
  value_and_trigger : (g : Given ℕ) (rest : List ℕ) → Fits g → read_items (record_of roles g ++ rest) ≡ items_of roles g ++ read_items rest
  unfolding record_of
  value_and_trigger g rest f = go (raised roles g)
    where
      v : List ℕ
      v = value_record_of g.stream g.position g.word

      t : List ℕ
      t = trigger_record_of g.stream g.position

      i : Item
      i = value g.stream g.position g.word

      go : (b : Bool) → read_items ((v ++ cond b t []) ++ rest) ≡ (i ∷ cond b (trigger g.stream g.position ∷ []) []) ++ read_items rest
      go true =
          ap read_items (append_assoc v t rest) ∙ value_in_front g.stream g.position g.word (t ++ rest) f.position_fits f.word_fits
          ∙ ap (λ (is : List Item). i ∷ is) (trigger_in_front g.stream g.position rest f.position_fits)
      go false = ap read_items (append_assoc v [] rest) ∙ value_in_front g.stream g.position g.word rest f.position_fits f.word_fits

  -- the records in front, whatever stands behind them
  pub items_in_front : (gs : List (Given ℕ)) (rest : List ℕ) → AllFit gs → read_items (encode roles gs ++ rest) ≡ items_given roles gs ++ read_items rest
  unfolding encode items_given
  items_in_front [] rest none = refl
  items_in_front (g ∷ gs) rest (more f fs) =
      ap read_items (append_assoc (record_of roles g) (encode roles gs) rest) ∙ value_and_trigger g (encode roles gs ++ rest) f
      ∙ ap (λ (is : List Item). items_of roles g ++ is) (items_in_front gs rest fs) ∙ sym (append_assoc (items_of roles g) (items_given roles gs) (read_items rest))

  -- the records of the values given, and no others, where no whole record stands behind them
  pub items_back : (gs : List (Given ℕ)) (rest : List ℕ) → AllFit gs → record_size_of rest ≡ 0 → read_items (encode roles gs ++ rest) ≡ items_given roles gs
  items_back gs rest fs e = items_in_front gs rest fs ∙ ap (λ (is : List Item). items_given roles gs ++ is) (reading_stops rest e) ∙ append-nil (items_given roles gs)

  pub items_of_encode : (gs : List (Given ℕ)) → AllFit gs → read_items (encode roles gs) ≡ items_given roles gs
  items_of_encode gs fs = ap read_items (sym (append-nil (encode roles gs))) ∙ items_back gs [] fs nothing_left
    where
      nothing_left : record_size_of [] ≡ 0
      nothing_left = omega (arith, size_within [])

  -- a trigger's record adds no value
  values_of_items : (gs : List (Given ℕ)) → values_in (items_given roles gs) ≡ gs
  unfolding values_in items_given
  values_of_items [] = refl
  values_of_items (g ∷ gs) = go (raised roles g) ∙ ap (λ (hs : List (Given ℕ)). g ∷ hs) (values_of_items gs)
    where
      go : (b : Bool) → values_in ((value g.stream g.position g.word ∷ cond b (trigger g.stream g.position ∷ []) []) ++ items_given roles gs) ≡ g ∷ values_in (items_given roles gs)
      go true = refl
      go false = refl

  -- the values given, back from their bytes
  pub read_back : (gs : List (Given ℕ)) → AllFit gs → read_back_of (encode roles gs) ≡ gs
  unfolding read_back_of
  read_back gs fs = ap values_in (items_of_encode gs fs) ∙ values_of_items gs

  pub read_back_before : (gs : List (Given ℕ)) (rest : List ℕ) → AllFit gs → record_size_of rest ≡ 0 → read_back_of (encode roles gs ++ rest) ≡ gs
  unfolding read_back_of
  read_back_before gs rest fs e = ap values_in (items_back gs rest fs e) ∙ values_of_items gs

  -- what is written are bytes
  record_bytes : (g : Given ℕ) → Fits g → AllBytes (record_of roles g)
  unfolding record_of
  record_bytes g f = go (raised roles g)
    where
      v : List ℕ
      v = value_record_of g.stream g.position g.word

      t : List ℕ
      t = trigger_record_of g.stream g.position

      value_bytes : AllBytes v
      value_bytes =
          byte_more {b = kind_value} (omega arith) (byte_more f.stream_fits (bytes_append (word_bytes g.position) (word_bytes g.word)))

      go : (b : Bool) → AllBytes (v ++ cond b t [])
      go true = bytes_append value_bytes (byte_more {b = kind_trigger} (omega arith) (byte_more f.stream_fits (word_bytes g.position)))
      go false = bytes_append value_bytes no_bytes

  pub encode_bytes : (gs : List (Given ℕ)) → AllFit gs → AllBytes (encode roles gs)
  unfolding encode
  encode_bytes [] none = no_bytes
  encode_bytes (g ∷ gs) (more f fs) = bytes_append (record_bytes g f) (encode_bytes gs fs)
