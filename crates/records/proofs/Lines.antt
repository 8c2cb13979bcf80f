-- Laws of the lines of records: of the first and the others, and of the values given.
-- Assumes nothing.
use mathlib.Core.Path.{◌≡◌, refl, sym, ap, ◌∙◌}
use mathlib.Core.List.{List, [], ◌++◌, append_assoc, append-nil}
use Prim.Native.Nat.{ℕ, ◌+◌, ◌*◌, ◌<◌, ◌≤◌}
use native.Mathlib.Omega.{arith}
use lib.ListN.{length, get_or, drop, length-drop}
use Rattle.basis.specs.Given.{Given}
use Rattle.basis.specs.Written.{Wrote}
use Rattle.basis.proofs.Written.{then, wrote_as, wrote_nothing}
use Rattle.wire.specs.Bytes.{word_at}
use Rattle.lines.specs.Lines.{value_line, trigger_line}
use Rattle.records.specs.declared.Kind.{Kind}
use Rattle.records.specs.declared.Kind.TheVariants.{Value, Trigger}
use Rattle.records.specs.Kinds.{size_for}
use Rattle.records.specs.Encoding.{encode}
use Rattle.records.specs.Reading.{StartsWith, record_size_of, item_of, AllFit}
use Rattle.records.specs.Lines.{item_line, item_lines, lines_of, lines_given}
use Rattle.records.proofs.Reading.{size_of_start, value_starts, trigger_starts, reading_stops, items_by_first}
use Rattle.records.proofs.Back.{items_of_encode}

-- the lines of the values given, by their bytes
pub lines_of_given : (roles : List ℕ) (gs : List (Given ℕ)) → AllFit gs → lines_of (encode roles gs) ≡ lines_given roles gs
unfolding lines_of
lines_of_given roles gs fs = ap item_lines (items_of_encode roles gs fs)

pub lines_of_none : (l : List ℕ) → record_size_of l ≡ 0 → lines_of l ≡ []
unfolding lines_of item_lines
lines_of_none l e = ap item_lines (reading_stops l e)

pub lines_by_first : (l : List ℕ) → 0 < record_size_of l → lines_of l ≡ item_line (item_of l) ++ lines_of (drop (record_size_of l) l)
unfolding lines_of item_lines
lines_by_first l h = ap item_lines (items_by_first l h)

-- the line of the record that a list of bytes starts with, by its kind
module _ (l : List ℕ) where
  pub value_line_first : {position word : ℕ} → StartsWith Value l → position ≡ word_at l 2 → word ≡ word_at l 6 → item_line (item_of l) ≡ value_line (get_or l 1 0) position word
  unfolding item_line
  value_line_first s p w = ap item_line (value_starts l s) ∙ rw (p, w)

  pub trigger_line_first : {position : ℕ} → StartsWith Trigger l → position ≡ word_at l 2 → item_line (item_of l) ≡ trigger_line (get_or l 1 0) position
  unfolding item_line
  trigger_line_first s p = ap item_line (trigger_starts l s) ∙ rw p

-- the lines of the records in front of those left have been written
pub record Lined (l before : List ℕ) (place : ℕ) (left after : List ℕ) (end : ℕ) : Type 0 where
  pub done : List ℕ
  pub wrote : Wrote before place done after end
  pub whole : done ++ lines_of left ≡ lines_of l
  pub space : end + 3 * length left ≤ length after

pub lined_none : (l out : List ℕ) (place : ℕ) → place + 3 * length l ≤ length out → Lined l out place l out place
lined_none l out place h = record { done = []; wrote = wrote_nothing out place; whole = refl; space = h }

module _ {l before left after : List ℕ} {place end : ℕ} (x : Lined l before place left after end) where
  pub lined_more : {rest after' : List ℕ} {end' : ℕ} (k : Kind) → StartsWith k left → rest ≡ drop (size_for k) left → end' ≤ end + 3 * size_for k → Wrote after end (item_line (item_of left)) after' end' → Lined l before place rest after' end'
  lined_more {rest} {after'} {end'} k s r room u = record {
    done = x.done ++ item_line (item_of left);
    wrote = then x.wrote u;
    whole = append_assoc x.done (item_line (item_of left)) (lines_of rest)
        ∙ ap (λ (t : List ℕ). x.done ++ (item_line (item_of left) ++ lines_of t)) (r ∙ ap (λ (n : ℕ). drop n left) (sym sized))
        ∙ ap (λ (t : List ℕ). x.done ++ t) (sym (lines_by_first left (some k sized))) ∙ x.whole;
    space = omega (arith, u.ends, u.size, x.space, s.whole, ap length r, length-drop (size_for k) left);
  }
    where
      sized : record_size_of left ≡ size_for k
      sized = size_of_start left k s

      some : (k : Kind) → record_size_of left ≡ size_for k → 0 < record_size_of left
      some Value e = omega arith
      some Trigger e = omega arith

  pub lined_all : record_size_of left ≡ 0 → Wrote before place (lines_of l) after end
  lined_all e = wrote_as (sym x.whole ∙ ap (λ (t : List ℕ). x.done ++ t) (lines_of_none left e) ∙ append-nil x.done) x.wrote
