-- Laws of the record that a list of bytes starts with, and of records one after the other.
-- Assumes nothing.
use mathlib.Core.Path.{◌≡◌, refl, sym, ap, ◌∙◌}
use mathlib.Core.List.{List, [], ◌∷◌}
use mathlib.Core.Logic.{◌⊎◌, inl, inr}
use Prim.Native.Nat.{ℕ, zero, suc, ◌<◌, ◌≤◌}
use native.Mathlib.Omega.{arith}
use borrow.Author.Tests.{eq-eqb, ne_eqb, le-leb, lt-leb}
use lib.ListN.{length, get_or, drop, length-drop}
use Rattle.std.specs.Prelude.{Option, Some, None, slice_get, unwrap_or}
use Rattle.std.proofs.lemmas.Option.{none-some, unwrap_or-slice_get}
use Rattle.basis.proofs.Tests.{lt_or_ge}
use Rattle.wire.specs.Bytes.{word_at}
use Rattle.records.specs.declared.Kind.{Kind}
use Rattle.records.specs.declared.Kind.TheVariants.{Value, Trigger}
use Rattle.records.specs.Kinds.{kind_value, size_for, size_of_kind_of}
use Rattle.records.specs.Reading.{Item, value, trigger, StartsWith, record_size_of, item_of, first_items, read_items}
use Rattle.records.proofs.Sizes.{size_of_named}

module _ (l : List ℕ) where
  -- a record of which bytes are missing is none
  pub part_record : length l < size_of_kind_of (get_or l 0 0) → record_size_of l ≡ 0
  unfolding record_size_of
  part_record h = rw (lt-leb _ _ h)

  whole_record : size_of_kind_of (get_or l 0 0) ≤ length l → record_size_of l ≡ size_of_kind_of (get_or l 0 0)
  unfolding record_size_of
  whole_record h = rw (le-leb _ _ h)

  pub size_within : record_size_of l ≤ length l
  size_within = by (lt_or_ge (length l) (size_of_kind_of (get_or l 0 0)))
    where
      by : (length l < size_of_kind_of (get_or l 0 0)) ⊎ (size_of_kind_of (get_or l 0 0) ≤ length l) → record_size_of l ≤ length l
      by (inl h) = omega (arith, part_record h)
      by (inr h) = omega (arith, whole_record h)

  -- a byte that names no kind starts none
  pub no_record : size_of_kind_of (get_or l 0 0) ≡ 0 → record_size_of l ≡ 0
  no_record e = omega (arith, whole_record (omega arith))

  -- a whole record: its size, and what it says by its kind
  pub size_of_start : (k : Kind) → StartsWith k l → record_size_of l ≡ size_for k
  size_of_start k s = let e = size_of_named k s.first in whole_record (omega (arith, s.whole)) ∙ e

  pub value_starts : StartsWith Value l → item_of l ≡ value (get_or l 1 0) (word_at l 2) (word_at l 6)
  unfolding item_of
  value_starts s = rw (eq-eqb _ _ s.first)

  pub trigger_starts : StartsWith Trigger l → item_of l ≡ trigger (get_or l 1 0) (word_at l 2)
  unfolding item_of
  trigger_starts s = let e = s.first in rw (ne_eqb (get_or l 0 0) kind_value (λ d. omega arith))

-- the first byte, where there is one
pub first_is : (l : List ℕ) {b : ℕ} → Some b ≡ slice_get l 0 → get_or l 0 0 ≡ b
first_is l e = sym (unwrap_or-slice_get l 0 0) ∙ ap (λ (o : Option ℕ). unwrap_or o 0) (sym e)

pub nothing_starts : (l : List ℕ) → None ≡ slice_get l 0 → record_size_of l ≡ 0
nothing_starts [] e = omega (arith, size_within [])
nothing_starts (b ∷ l) e = absurd (none-some b e)

no_more_items : (most : ℕ) (l : List ℕ) → record_size_of l ≡ 0 → first_items most l ≡ []
unfolding first_items
no_more_items zero l e = refl
no_more_items (suc most) l e = rw (eq-eqb _ _ e)

one_more_item : (most : ℕ) (l : List ℕ) → 0 < record_size_of l → first_items (suc most) l ≡ item_of l ∷ first_items most (drop (record_size_of l) l)
unfolding first_items
one_more_item most l h = rw (ne_eqb (record_size_of l) 0 (λ e. omega arith))

-- as many records as there are bytes are enough
enough_items : (f g : ℕ) (l : List ℕ) → length l ≤ f → length l ≤ g → first_items f l ≡ first_items g l
enough_items zero g l h k = let e : record_size_of l ≡ 0 = omega (arith, size_within l) in no_more_items zero l e ∙ sym (no_more_items g l e)
enough_items (suc f) zero l h k = let e : record_size_of l ≡ 0 = omega (arith, size_within l) in no_more_items (suc f) l e ∙ sym (no_more_items zero l e)
enough_items (suc f) (suc g) l h k =
    by (lt_or_ge 0 (record_size_of l)) λ p. let e = length-drop (record_size_of l) l in enough_items f g (drop (record_size_of l) l) (omega arith) (omega arith)
  where
    rest : List ℕ
    rest = drop (record_size_of l) l

    by : (0 < record_size_of l) ⊎ (record_size_of l ≤ 0) → (0 < record_size_of l → first_items f rest ≡ first_items g rest) → first_items (suc f) l ≡ first_items (suc g) l
    by (inl p) e = one_more_item f l p ∙ ap (λ (t : List Item). item_of l ∷ t) (e p) ∙ sym (one_more_item g l p)
    by (inr p) e = no_more_items (suc f) l (omega arith) ∙ sym (no_more_items (suc g) l (omega arith))

-- reading stops at what is no whole record
pub reading_stops : (l : List ℕ) → record_size_of l ≡ 0 → read_items l ≡ []
unfolding read_items
reading_stops l e = no_more_items (length l) l e

pub items_by_first : (l : List ℕ) → 0 < record_size_of l → read_items l ≡ item_of l ∷ read_items (drop (record_size_of l) l)
unfolding read_items
items_by_first l h =
    let e = length-drop (record_size_of l) l in
    enough_items (length l) (suc (length l)) l (omega arith) (omega arith) ∙ one_more_item (length l) l h
    ∙ ap (λ (t : List Item). item_of l ∷ t) (enough_items (length l) (length (drop (record_size_of l) l)) (drop (record_size_of l) l) (omega arith) (omega arith))
