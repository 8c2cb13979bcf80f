-- Laws of what the program prints, by what the head and the table say (document 01, "The program").
-- Assumes nothing.
use Prim.Native.Nat.{ℕ, ◌+◌, ◌<◌}
use native.Mathlib.Omega.{arith}
use native.Mathlib.Decide.{dec_lt, ℕ_discrete}
use mathlib.Core.Path.{◌≡◌, sym, ap, ◌∙◌}
use mathlib.Core.List.{List, ◌++◌, append_assoc}
use borrow.Author.Tests.{eq-eqb, ne_eqb, lt-ltb, le-ltb}
use lib.ListN.{length, get_or, length-append, get_or-append}
use lib.Seq.{take_at, drop_at, drop-append-add}
use Rattle.lines.specs.Lines.{refusal_line, stop_line}
use Rattle.announce.specs.Announced.{announced}
use Rattle.feed.specs.Head.{Stopped, Refused, Table as Tabled}
use Rattle.feed.specs.Head.{kind_table_of, head_size, input_head}
use Rattle.feed.specs.Printed.{run_text, table_text, head_text, printed}
use Rattle.feed.proofs.Heads.{head_empty, head_other, head_short, head_whole}

-- whatever follows it, a head that says something goes on to say it
module _ (b more : List ℕ) where
  front_byte : (i : ℕ) → i < length b → get_or (b ++ more) i 0 ≡ get_or b i 0
  front_byte i h = get_or-append b more 0 i h

  front_some : (length b ≡ 0 → ⊥) → length (b ++ more) ≡ 0 → ⊥
  front_some some e = some (omega (arith, length-append b more))

  pub head_stays : (input_head b ≡ Stopped → ⊥) → input_head (b ++ more) ≡ input_head b
  head_stays says = by_length (ℕ_discrete (length b) 0)
    where
      by_whole : (some : length b ≡ 0 → ⊥) → get_or b 0 0 ≡ kind_table_of → Dec (length b < head_size) → input_head (b ++ more) ≡ input_head b
      by_whole some k (yes h) = absurd (says (head_short b some k h))
      by_whole some k (no h) =
          head_whole (b ++ more) (front_some some) (front_byte 0 (omega arith) ∙ k) (omega (arith, length-append b more))
          ∙ rw (front_byte 1 (omega arith), front_byte 2 (omega arith)) (sym (head_whole b some k (omega arith)))

      by_kind : (some : length b ≡ 0 → ⊥) → Dec (get_or b 0 0 ≡ kind_table_of) → input_head (b ++ more) ≡ input_head b
      by_kind some (no k) = let e = front_byte 0 (omega arith) in head_other (b ++ more) (front_some some) (λ z. k (sym e ∙ z)) ∙ sym (head_other b some k)
      by_kind some (yes k) = by_whole some k (dec_lt (length b) head_size)

      by_length : Dec (length b ≡ 0) → input_head (b ++ more) ≡ input_head b
      by_length (yes e) = absurd (says (head_empty b e))
      by_length (no some) = by_kind some (ℕ_discrete (get_or b 0 0) kind_table_of)

  pub refused_stays : {k p : ℕ} → input_head b ≡ Refused k p → input_head (b ++ more) ≡ Refused k p
  refused_stays e = head_stays (λ s. let z : ◌≡◌ {A = ℕ} 0 1 = cc in omega arith) ∙ e

  pub tabled_stays : {n : ℕ} → input_head b ≡ Tabled n → input_head (b ++ more) ≡ Tabled n
  tabled_stays e = head_stays (λ s. let z : ◌≡◌ {A = ℕ} 0 1 = cc in omega arith) ∙ e

-- the input stops in the head
pub printed_stopped : (b : List ℕ) → input_head b ≡ Stopped → printed b ≡ stop_line (length b)
unfolding printed head_text
printed_stopped b e = rw e

-- the head is refused
pub printed_refused : (b more : List ℕ) {k p : ℕ} → input_head b ≡ Refused k p → printed (b ++ more) ≡ refusal_line k p
unfolding printed head_text
printed_refused b more e = rw (refused_stays b more e)

module _ (h : List ℕ) {n : ℕ} (is : input_head h ≡ Tabled n) (long : length h ≡ head_size) where
  -- it stops in the table
  pub printed_short : (q : List ℕ) → length q < n → printed (h ++ q) ≡ stop_line (length (h ++ q))
  unfolding printed head_text
  printed_short q l = rw (tabled_stays h q is, lt-ltb (length (h ++ q)) (head_size + n) (omega (arith, length-append h q)))

  module _ (s bytes : List ℕ) (whole : length s ≡ n) where
    printed_behind : printed (h ++ (s ++ bytes)) ≡ table_text s bytes (length (h ++ (s ++ bytes)))
    unfolding printed head_text
    printed_behind =
        rw (tabled_stays h (s ++ bytes) is, le-ltb (length (h ++ (s ++ bytes))) (head_size + n) (omega (arith, length-append h (s ++ bytes), length-append s bytes)), drop_at h (s ++ bytes) head_size long, take_at s bytes n whole, ← long, drop-append-add h (s ++ bytes) n, drop_at s bytes n whole)

    -- the table is refused
    pub printed_table : ((announced s).number ≡ 0 → ⊥) → printed ((h ++ s) ++ bytes) ≡ refusal_line (announced s).number (announced s).place
    unfolding table_text
    printed_table r = ap printed (append_assoc h s bytes) ∙ printed_behind ∙ rw (ne_eqb _ _ r)

    -- it is accepted
    pub printed_run : (announced s).number ≡ 0 → printed (h ++ (s ++ bytes)) ≡ run_text s bytes (length (h ++ (s ++ bytes)))
    unfolding table_text
    printed_run a = printed_behind ∙ rw (eq-eqb _ _ a)
