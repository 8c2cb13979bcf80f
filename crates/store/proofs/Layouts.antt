-- The store's layout is one: each slot holds its own value, within the announced words.
-- Assumes nothing.
use Prim.Native.Nat.{ℕ, ◌≤◌, ◌<◌}
use mathlib.Core.Path.{◌≡◌, refl, ◌∙◌}
use mathlib.Core.Bool.{Bool, true, ◌&&◌, cond}
use mathlib.Core.List.{List}
use native.Mathlib.Nat.{mod-lt}
use borrow.Author.Tests.{eq-eqb}
use lib.Dec.{eqb}
use lib.ListN.{length, get_or}
use Rattle.basis.specs.Firsts.{of}
use Rattle.basis.proofs.Sums.{total_zeros}
use Rattle.limits.specs.Limits.{most_streams}
use Rattle.value.specs.declared.Value.{Value}
use Rattle.value.specs.Values.{reading_of, image_of}
use Rattle.run.specs.Layout.{Lays}
use Rattle.run.specs.Words.{base, in_parts}
use Rattle.run.specs.Run.{write}
use Rattle.run.proofs.Words.{in_parts_lem, word_at}
use Rattle.store.specs.Store.{read_as, layout_of, words_of, slot_of, word_of}

-- it goes by the types that the streams have
pub layout_same : (types types' : List ℕ) (kept : ℕ → ℕ) → ((v : ℕ) → get_or types v 0 ≡ get_or types' v 0) → layout_of types kept ≡ layout_of types' kept
layout_same types types' kept e = λ i. in_parts (λ v w. reading_of (e v i) w) image_of 0 most_streams kept

module _ (types : List ℕ) (kept : ℕ → ℕ) (streams : ℕ) (few : streams ≤ most_streams) where
  -- for values of the streams' types
  pub laid : (Fits : ℕ → Value → Type 0) → ((v w : ℕ) → Fits v (read_as types v w)) → ((v : ℕ) (x : Value) → Fits v x → read_as types v (image_of x) ≡ x)
      → Lays (layout_of types kept) streams kept Fits
  laid Fits reads back = in_parts_lem (read_as types) image_of 0 most_streams kept streams few Fits (λ v w l. reads v w) (λ v x l e. back v x e)

  -- the words that are announced are those of the table's streams
  pub layout_words : ((v : ℕ) → streams ≤ v → v < most_streams → kept v ≡ 0) → (layout_of types kept).words ≡ base kept streams
  layout_words past = total_zeros kept streams most_streams few past

  -- a value that was written lies in its slot as its image, and no other word changes
  word_written :
      (slot : ℕ → ℕ) → ((v : ℕ) → v < streams → slot v < kept v) → (which : ℕ → Bool) (f : ℕ → Value) (v i : ℕ) (st : List ℕ) → v < streams → i < kept v → (layout_of types kept).words ≤ length st →
      (words_of kept).read (write (layout_of types kept) which slot f streams st) v i ≡ cond (which v && eqb i (slot v)) (image_of (f v)) ((words_of kept).read st v i)
  word_written slot small = word_at (read_as types) image_of 0 most_streams kept streams few slot small

-- after a turn that wrote the streams that `which` names, v's value for the position `pos v`, the word of a written value is its image
pub word_due :
    (types kept : List ℕ) (streams : ℕ) → streams ≤ most_streams → ((u : ℕ) → u < streams → 0 < get_or kept u 0) → (pos : ℕ → ℕ) (which : ℕ → Bool) (f : ℕ → Value) (v : ℕ) (st : List ℕ) →
    v < streams → which v ≡ true → (layout_of types (of kept)).words ≤ length st →
    word_of kept (write (layout_of types (of kept)) which (λ u. slot_of kept u (pos u)) f streams st) v (pos v) ≡ image_of (f v)
unfolding word_of
word_due types kept streams few some pos which f v st l d h =
    let e : eqb (slot_of kept v (pos v)) (slot_of kept v (pos v)) ≡ true = eq-eqb (slot_of kept v (pos v)) (slot_of kept v (pos v)) refl in
    word_written types (of kept) streams few (λ u. slot_of kept u (pos u)) (λ u m. mod-lt (pos u) (some u m)) which f v (slot_of kept v (pos v)) st l (mod-lt (pos v) (some v l)) h ∙ rw (d, e)
