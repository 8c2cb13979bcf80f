-- Laws of an accepted table: I stands in its first record, and is 1 to 31; a store of 4,096 words is long enough for it.
-- Assumes nothing.
use Prim.Native.Nat.{ℕ, ◌≤◌, ◌<◌}
use native.Mathlib.Omega.{arith}
use native.Mathlib.Decide.{ℕ_discrete}
use mathlib.Core.Path.{◌≡◌, refl, sym, ap, subst, ◌∙◌}
use mathlib.Core.Bool.{cond}
use mathlib.Core.List.{List}
use mathlib.Core.Logic.{⊎_elim}
use lib.Dec.{eqb}
use lib.ListN.{length, get_or, get_or-eq_default}
use borrow.Author.Tests.{ne_eqb, le-ltb}
use Rattle.limits.specs.Limits.{most_words}
use Rattle.basis.proofs.Tests.{pick_case, lt_or_ge}
use Rattle.table.specs.Records.{Declared, declares, wrong, heads}
use Rattle.table.specs.Table.{Decoded, decoded, refused, Table, Equations, equated, unfit, equations_at_of, with_heads_of, with_equations_of, table_of, decode}
use Rattle.table.proofs.Sound.{sound}
use Rattle.announce.specs.Announced.{announced}
use Rattle.prepare.specs.PlanFor.{table_in, table_for}
use Rattle.prepare.proofs.Announcing.{accepting}
use Rattle.monitor.specs.Calls.{Answer}
use Rattle.monitor.specs.Refusals.{fault, open_fault}
use Rattle.monitor.specs.Calls.{Opens, open_call}
use Rattle.monitor.proofs.Refusals.{table_passed, table_refused}
use Rattle.feed.specs.Printed.{row_size}

abbrev InFirst : List ℕ → Decoded → Type 0
InFirst s (decoded t) = t.inputs ≡ get_or s 2 0
InFirst s (refused why place) = Unit {0}

with_equations : (s ts rs : List ℕ) (x : Equations)
    → InFirst s (with_equations_of x λ qs e. cond (eqb e (length s)) (decoded (record { edition = get_or s 1 0; inputs = get_or s 2 0; types = ts; roles = rs; equations = qs })) (refused 9 e))
with_equations s ts rs (equated qs e) = pick_case (InFirst s) (eqb e (length s)) _ _ (λ _. refl) (λ _. tt)
with_equations s ts rs (unfit why place) = tt

with_heads : (s : List ℕ) (d : Declared) → InFirst s (with_heads_of d λ ts rs n. table_of s ts rs n)
unfolding table_of
with_heads s (declares ts rs n) = with_equations s ts rs (equations_at_of _ (get_or s 2 0) ts s n)
with_heads s (wrong why place) = tt

inputs_in_first : (s : List ℕ) {t : Table} → decode s ≡ decoded t → t.inputs ≡ get_or s 2 0
unfolding decode
inputs_in_first s e = subst (InFirst s) e (with_heads s (heads s))

byte_within : (s : List ℕ) (i : ℕ) → 1 ≤ get_or s i 0 → i < length s
byte_within s i h = ⊎_elim (λ l. l) (λ g. absurd (omega (arith, get_or-eq_default s 0 g))) (lt_or_ge i (length s))

module _ (s : List ℕ) (n : (announced s).number ≡ 0) where
  -- I, as the code reads it
  pub inputs_first : (table_for s).inputs ≡ get_or s 2 0
  inputs_first = let a = accepting s n in ap (λ (d : Decoded). (table_in d).inputs) a.decodes ∙ inputs_in_first s a.decodes

  pub accepted_inputs : (2 < length s) × (1 ≤ get_or s 2 0) × (get_or s 2 0 ≤ 31)
  accepted_inputs =
      let a = accepting s n in
      let q = sound s a.decodes in
      let e = inputs_in_first s a.decodes in
      let some : 1 ≤ get_or s 2 0 = omega (arith, q.some_input, e) in
      (byte_within s 2 some, some, omega (arith, q.some_output, q.few, e))

  pub some_input : 0 < row_size (table_for s)
  some_input = omega (arith, accepted_inputs.1, inputs_first)

  -- "store at most 4,096 words"
  pub announced_words : (announced s).words ≤ most_words
  announced_words = let a = accepting s n in omega (arith, a.words_are, a.certified.bounded.store)

-- a store as long as any table may announce is long enough: refusal 11 cannot be
module _ (s st : List ℕ) (long : length st ≡ most_words) where
  open_fine : (announced s).number ≡ 0 → open_fault s (length st) ≡ fault 0 0
  unfolding open_fault
  open_fine n = table_passed s _ n ∙ rw (le-ltb (length st) (announced s).words (let w = announced_words s n in omega (arith, w, long)))

  open_table : ((announced s).number ≡ 0 → ⊥) → open_fault s (length st) ≡ fault (announced s).number (announced s).place
  unfolding open_fault
  open_table n = sym (table_refused s _ n)

  open_number : (open_call s st).answer.number ≡ (announced s).number
  unfolding open_call
  open_number = go (ℕ_discrete (announced s).number 0)
    where
      go : Dec ((announced s).number ≡ 0) → (open_call s st).answer.number ≡ (announced s).number
      go (yes e) = rw (open_fine e) (sym e)
      go (no e) = rw (open_table e, ne_eqb _ _ e)

  open_place : ((announced s).number ≡ 0 → ⊥) → (open_call s st).answer.place ≡ (announced s).place
  unfolding open_call
  open_place e = rw (open_table e, ne_eqb _ _ e)

  module _ {a : Answer} {st' : List ℕ} (l : Opens (open_call s st) a st') where
    pub opened_number : a.number ≡ (announced s).number
    opened_number = ap (λ (x : Answer). x.number) l.answer_is ∙ open_number

    pub opened_place : (a.number ≡ 0 → ⊥) → a.place ≡ (announced s).place
    opened_place n = ap (λ (x : Answer). x.place) l.answer_is ∙ open_place (λ e. n (opened_number ∙ e))
