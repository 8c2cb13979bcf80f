-- Laws of turns one after another: one turn more, rows and closing turns from the first on.
-- Assumes nothing.
use Prim.Native.Nat.{ℕ, ◌+◌, ◌*◌, ◌≤◌, ◌<◌}
use native.Mathlib.Omega.{arith}
use native.Mathlib.Numerals.{add-one}
use native.Mathlib.Nat.{suc-mul, zero-mul}
use mathlib.Core.Path.{◌≡◌, refl, ap, sym, ◌∙◌}
use mathlib.Core.Bool.{true, false}
use mathlib.Core.Logic.{⊎_elim}
use mathlib.Core.List.{List, [], ◌++◌, append_assoc}
use lib.ListN.{length, length-append}
use Rattle.basis.proofs.Tests.{lt_or_eq}
use Rattle.basis.proofs.Written.{wrote_nothing, then}
use Rattle.monitor.specs.declared.Run.{Run}
use Rattle.monitor.specs.Refusals.{is_draining_of}
use Rattle.monitor.specs.Calls.{After, row_call_of, drain_call_of}
use Rattle.answers.specs.Words.{words_at}
use Rattle.answers.specs.Rows.{Progress, begun, onward, lent, after_row, after_rows, after_drain, after_drains, Reached, Taken}
use Rattle.answers.proofs.Pieces.{front_words, behind_words}

-- one turn more, whatever the call
pub next_turn : (call : Run → List ℕ → After) {x : Progress} {r r' : Run} {st st' a b c : List ℕ} {p q n : ℕ} → Reached x r st a p b q → Reached (onward (call r st) []) r' st' b q c n → Reached (onward (call x.run x.store) x.text) r' st' a p c n
next_turn call {x} u v =
    let w = rw (u.run_is, u.store_is) at v in
    record { run_is = w.run_is; store_is = w.store_is; wrote = then u.wrote w.wrote }

pub reached_none : (r : Run) (st a : List ℕ) → Reached (begun r st) r st a 0 a 0
reached_none r st a = record { run_is = refl; store_is = refl; wrote = wrote_nothing a 0 }

-- some rows at the input's front have been answered, and `rest` is behind them
pub record Rowed (s : List ℕ) (r₀ : Run) (st₀ a input : List ℕ) (inputs : ℕ) (r : Run) (st b rest : List ℕ) (rows used at : ℕ) : Type 0 where
  pub reached : Reached (after_rows s input inputs rows (begun r₀ st₀)) r st a 0 b at
  pub used_is : used ≡ rows * (4 * inputs)
  pub fewer : rows ≤ used
  pub before : List ℕ
  pub before_long : used ≡ length before
  pub input_is : input ≡ before ++ rest

pub rows_none : (s : List ℕ) (r : Run) (st a input : List ℕ) (inputs : ℕ) → Rowed s r st a input inputs r st a input 0 0 0
unfolding after_rows
rows_none s r st a input inputs = record {
  reached = reached_none r st a;
  used_is = sym (zero-mul (4 * inputs));
  fewer = omega arith;
  before = [];
  before_long = refl;
  input_is = refl;
}

module _ {s : List ℕ} {r₀ : Run} {st₀ a input : List ℕ} {inputs : ℕ} {r : Run} {st b rest : List ℕ} {rows used at : ℕ} (u : Rowed s r₀ st₀ a input inputs r st b rest rows used at) where
  -- the words of the next row are those of its own bytes
  next_words : (row behind : List ℕ) → rest ≡ row ++ behind → length row ≡ 4 * inputs → words_at input used inputs ≡ words_at row 0 inputs
  next_words row behind e l =
      rw (u.input_is, e)
      (behind_words u.before (row ++ behind) used 0 inputs (omega (arith, u.before_long)) ∙ front_words row behind 0 inputs (omega (arith, l)))

  pub rows_more : (row : List ℕ) {behind : List ℕ} {r' : Run} {st' c : List ℕ} {end : ℕ} → 1 ≤ inputs → rest ≡ row ++ behind → length row ≡ 4 * inputs
      → Reached (after_row s (words_at row 0 inputs) (begun r st)) r' st' b at c end → Rowed s r₀ st₀ a input inputs r' st' c behind (rows + 1) (used + length row) end
  unfolding after_rows
  rows_more row {behind} i e l v = record {
    reached =
        let w = rw (← next_words row behind e l) at v in
        rw (add-one, ← u.used_is) (next_turn (λ y st. row_call_of s y (words_at input used inputs) st lent) u.reached w);
    used_is = rw l (ap (λ (k : ℕ). k + 4 * inputs) u.used_is ∙ sym (suc-mul rows (4 * inputs)) ∙ ap (λ (k : ℕ). k * (4 * inputs)) (sym (add-one rows)));
    fewer = omega (arith, u.fewer, l);
    before = u.before ++ row;
    before_long = omega (arith, u.before_long, length-append u.before row);
    input_is = u.input_is ∙ ap (λ (q : List ℕ). u.before ++ q) e ∙ sym (append_assoc u.before row behind);
  }

  -- no row, no text
  pub rows_silent : used ≡ 0 → at ≡ 0
  unfolding after_rows
  rows_silent h =
      let e : rows ≡ 0 = omega (arith, u.fewer) in
      let w = rw e at u.reached.wrote.ends in w

  pub rows_done : (used ≡ 0 → length rest < 4 * inputs) → Taken input inputs rows used
  rows_done h =
      let l : length input ≡ used + length rest = omega (arith, ap length u.input_is, length-append u.before rest, u.before_long) in
      record { used_is = u.used_is; whole = omega (arith, l); some = λ z. omega (arith, l, z, h z) }

-- some closing turns are done
pub drains_none : (s : List ℕ) (r : Run) (st a : List ℕ) → Reached (after_drains s 0 (begun r st)) r st a 0 a 0
unfolding after_drains
drains_none s r st a = reached_none r st a

pub drains_more : (s : List ℕ) (turns : ℕ) (x : Progress) {r r' : Run} {st st' a b c : List ℕ} {p q n : ℕ} → Reached (after_drains s turns x) r st a p b q → Reached (after_drain s (begun r st)) r' st' b q c n → Reached (after_drains s (turns + 1) x) r' st' a p c n
unfolding after_drains
drains_more s turns x u v = rw add-one (next_turn (λ y st. drain_call_of s y st lent) u v)

-- a turn was left before each of them
pub record Going (s : List ℕ) (turns : ℕ) (x : Progress) : Type 0 where
  pub each : (i : ℕ) → i < turns → is_draining_of (after_drains s i x).run.phase ≡ true

pub going_none : (s : List ℕ) (x : Progress) → Going s 0 x
going_none s x = record { each = λ i h. absurd (omega arith) }

pub going_more : {s : List ℕ} {turns : ℕ} {x : Progress} → Going s turns x → {r : Run} {st a b : List ℕ} {q : ℕ} → Reached (after_drains s turns x) r st a 0 b q → is_draining_of r.phase ≡ true → Going s (turns + 1) x
going_more {s} {turns} {x} g u e =
    record { each = λ i h. ⊎_elim (λ l. g.each i l) (λ l. rw l (ap (λ (y : Run). is_draining_of y.phase) (sym u.run_is) ∙ e)) (lt_or_eq (let k : i ≤ turns = omega arith in k)) }

-- no turn, no text
pub drains_silent : (s : List ℕ) (turns : ℕ) (x : Progress) {r : Run} {st a b : List ℕ} {q : ℕ} → x.text ≡ [] → Reached (after_drains s turns x) r st a 0 b q → turns ≡ 0 → q ≡ 0
unfolding after_drains
drains_silent s turns x t u z = let w = rw (z, t) at u.wrote.ends in w

pub drains_left : (s : List ℕ) (turns : ℕ) (x : Progress) {r : Run} {st a b : List ℕ} {q : ℕ} → Reached (after_drains s turns x) r st a 0 b q → is_draining_of r.phase ≡ false → turns ≡ 0 → is_draining_of x.run.phase ≡ false
unfolding after_drains
drains_left s turns x u e z = let w = rw z at u.run_is in ap (λ (y : Run). is_draining_of y.phase) (sym w) ∙ e
