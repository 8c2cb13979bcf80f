-- The reader of the words of several rows: each return and each turn as a law over the text, the places and the tests that led there.
-- Assumes nothing.
use Prim.Native.Nat.{ℕ, zero, suc, max, ◌+◌, ◌≤◌, ◌<◌}
use native.Mathlib.Omega.{arith}
use mathlib.Core.Path.{◌≡◌, refl, sym, ap, ◌∙◌, subst}
use mathlib.Core.Logic.{◌⊎◌, inl, inr}
use mathlib.Core.List.{List, [], ◌∷◌, ◌++◌}
use lib.ListN.{length, get_or, drop}
use Rattle.std.proofs.lemmas.List.{drop-drop, drop-append-le, length-drop}
use Rattle.basis.proofs.Tests.{lt_or_ge}
use Rattle.shapes.specs.Forms.{Parts, here, next, Within, word}
use Rattle.shapes.specs.Stuck.{ended}
use Rattle.shapes.specs.Places.{Got, Lost}
use Rattle.shapes.proofs.Forms.{within_later}
use Rattle.source.specs.Words.{many_words, word_of}
use Rattle.words.specs.Rows.{Among}
use Rattle.words.proofs.Words.{small_bytes}
use Rattle.spell.specs.Answers.{Alike, WordRead}

tails_alike : {b c n : ℕ} {xs w : List ℕ} → Alike (c ∷ xs) (b ∷ w) (suc n) → Alike xs w n
tails_alike a = record {
  within_first = omega (arith, a.within_first);
  within_second = omega (arith, a.within_second);
  same = λ k h. a.same (suc k) (omega arith);
  parts = λ h k. a.parts (omega arith) (omega arith);
}

-- a text that has all of a word begins with it
begins : (w xs s : List ℕ) → Alike xs w (length w) → xs ++ s ≡ w ++ (drop (length w) xs ++ s)
begins [] xs s a = refl
begins (b ∷ w) [] s a = absurd (omega (arith, a.within_first))
begins (b ∷ w) (c ∷ xs) s a = ap (λ d. d ∷ (xs ++ s)) (a.same 0 (omega arith)) ∙ ap (λ l. b ∷ l) (begins w xs s (tails_alike a))

-- one that has less parts from it, at the end mark at the latest
parts_at : (w xs : List ℕ) (n : ℕ) → n < length w → Alike xs w n → get_or w n 0 < 256 → Parts w (xs ++ (256 ∷ [])) n
parts_at [] xs n h a s = absurd (omega arith)
parts_at (b ∷ w) [] zero h a s = here (λ e. omega arith)
parts_at (b ∷ w) [] (suc n) h a s = absurd (omega (arith, a.within_first))
parts_at (b ∷ w) (c ∷ xs) zero h a s = here (λ e. a.parts (omega arith) (omega arith) (sym e))
parts_at (b ∷ w) (c ∷ xs) (suc n) h a s =
    subst (λ (d : ℕ). Parts (b ∷ w) (d ∷ (xs ++ (256 ∷ []))) (suc n)) (sym (a.same 0 (omega arith))) (next (parts_at w xs n (omega arith) (tails_alike a) s))

from_place : (text : List ℕ) (at : ℕ) → at ≤ length text → drop at (ended text) ≡ drop at text ++ (256 ∷ [])
from_place text at h = drop-append-le at text (256 ∷ []) h

-- what the count of bytes that a word shares with a text from a place on tells of it
module _ {text xs w : List ℕ} {at n : ℕ} (h : at ≤ length text) (e : xs ≡ drop at text) (a : Alike xs w n) where
  word_got : n ≡ length w → Got (word w) text at tt (at + n)
  word_got f =
      let b : Alike (drop at text) w (length w) = subst (λ (l : List ℕ). Alike l w (length w)) e (subst (Alike xs w) f a) in
      let behind : drop (length w) (drop at text) ≡ drop (at + n) text = drop-drop (length w) at text ∙ ap (λ (k : ℕ). drop (at + k) text) (sym f) in
      let inside : at + n ≤ length text = omega (arith, a.within_first, ap length e, length-drop at text) in
      record {
        ends = omega arith;
        reads = from_place text at h ∙ begins w (drop at text) (256 ∷ []) b
            ∙ ap (λ (l : List ℕ). w ++ l) (ap (λ (l : List ℕ). l ++ (256 ∷ [])) behind ∙ sym (from_place text (at + n) inside));
      }

  word_lost : n < length w → get_or w n 0 < 256 → Lost (word w) text at (at + n)
  word_lost l s =
      let p : Parts w (drop at (ended text)) n = subst (λ (s : List ℕ). Parts w s n) (ap (λ (l : List ℕ). l ++ (256 ∷ [])) e ∙ sym (from_place text at h)) (parts_at w xs n l a s) in
      record { far = n; place = refl; leaves = record { near = tt; goes = p; others = λ x. record { at = n; early = omega arith; parts = p } } }

  module _ (row : ℕ) (r : w ≡ word_of row) where
    pub row_found : {from to : ℕ} → from ≤ row → row < to → n ≡ length w → WordRead from to text at (record { what = row; next = at + n })
    row_found l k f = record { low = l; high = k; got = subst (λ (u : List ℕ). Got (word u) text at tt (at + n)) r (word_got f) }

    pub row_lost : row < many_words → (n ≡ length w → ⊥) → Lost (word (word_of row)) text at (at + n)
    row_lost l f =
        let s : get_or w n 0 < 256 = rw r (small_bytes row n l) in
        subst (λ (u : List ℕ). Lost (word u) text at (at + n)) r (word_lost (omega (arith, a.within_second)) s)

-- one row
among_one : {from : ℕ} {text : List ℕ} {at q : ℕ} → Lost (word (word_of from)) text at q → Lost (Among from (from + 1)) text at q
among_one {from} {text} {at} {q} g = record {
  far = g.far;
  place = g.place;
  leaves = record { near = (from, (omega arith, omega arith)); goes = g.leaves.goes; others = each };
}
  where
    each : (x : (Among from (from + 1)).Of) → Within ((Among from (from + 1)).print x) (drop at (ended text)) g.far
    each x =
        let e : from ≡ x.0 = omega (arith, x.1.0, x.1.1) in
        subst (λ (r : ℕ). Within (word_of r) (drop at (ended text)) g.far) e (g.leaves.others tt)

-- one row more: the further of the two places
module _ {from row : ℕ} {text : List ℕ} {at p q : ℕ} (l : from ≤ row) (f : Lost (Among from row) text at p) (g : Lost (word (word_of row)) text at q) where
  each : (z : ℕ) → f.far ≤ z → g.far ≤ z → (x : (Among from (row + 1)).Of) → Within ((Among from (row + 1)).print x) (drop at (ended text)) z
  each z a b (r, (low, high)) = by (lt_or_ge r row)
    where
      by : (r < row) ⊎ (row ≤ r) → Within (word_of r) (drop at (ended text)) z
      by (inl k) = within_later a (f.leaves.others (r, (low, k)))
      by (inr k) =
          let e : row ≡ r = omega arith in
          subst (λ (i : ℕ). Within (word_of i) (drop at (ended text)) z) e (within_later b (g.leaves.others tt))

  among_more : Lost (Among from (row + 1)) text at (max p q)
  among_more = by (lt_or_ge p q)
    where
      by : (p < q) ⊎ (q ≤ p) → Lost (Among from (row + 1)) text at (max p q)
      by (inl k) = record {
        far = g.far;
        place = omega (arith, g.place);
        leaves = record { near = (row, (l, omega arith)); goes = g.leaves.goes; others = each g.far (omega (arith, f.place, g.place)) (omega arith) };
      }
      by (inr k) =
          let n = f.leaves.near in
          record {
            far = f.far;
            place = omega (arith, f.place);
            leaves = record { near = (n.0, (n.1.0, omega (arith, n.1.1))); goes = f.leaves.goes; others = each f.far (omega arith) (omega (arith, f.place, g.place)) };
          }

-- none of the rows from one up to another stands at a place, and this is how far they go; no row yet, and it is the place itself
pub data Tried (from : ℕ) (text : List ℕ) (at row far : ℕ) : Type 0 where
  no_row : row ≡ from → far ≡ at → Tried from text at row far
  some_rows : Lost (Among from row) text at far → Tried from text at row far

pub row_tried : {from row far q : ℕ} {text : List ℕ} {at : ℕ} → from ≤ row → Tried from text at row far → Lost (word (word_of row)) text at q → Tried from text at (row + 1) (max far q)
row_tried {from} {row} {far} {q} {text} {at} l (no_row e f) g =
    let z : q ≡ max far q = omega (arith, g.place) in
    some_rows (subst (λ (i : ℕ). Lost (Among from (row + 1)) text at i) z (subst (λ (i : ℕ). Lost (Among i (row + 1)) text at q) e (among_one g)))
row_tried l (some_rows f) g = some_rows (among_more l f g)

pub all_tried : {from to row far : ℕ} {text : List ℕ} {at : ℕ} → from < to → row ≡ to → Tried from text at row far → Lost (Among from to) text at far
all_tried h r (no_row e f) = absurd (omega arith)
all_tried {from} {far = far} {text = text} {at = at} h r (some_rows g) = subst (λ (i : ℕ). Lost (Among from i) text at far) r g
