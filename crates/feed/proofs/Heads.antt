-- Laws of the head: each of its cases, and that the length of a table to be read lies within document 01's limits.
-- Assumes nothing.
use Prim.Native.Nat.{ℕ, ◌+◌, ◌*◌, ◌≤◌, ◌<◌}
use native.Mathlib.Omega.{arith}
use native.Mathlib.Decide.{dec_lt, ℕ_discrete}
use mathlib.Core.Path.{◌≡◌, sym, subst}
use mathlib.Core.List.{List}
use lib.ListN.{length, get_or}
use borrow.Author.Tests.{eq-eqb, ne_eqb, lt-ltb, le-ltb}
use Rattle.limits.specs.Limits.{most_table}
use Rattle.limits.specs.Refusals.{table_length, wrong_kind}
use Rattle.feed.specs.Head.{Head}
use Rattle.feed.specs.Head.{Stopped, Refused, Table}
use Rattle.feed.specs.Head.{kind_table_of, head_size, input_head, length_of}

module _ (s : List ℕ) where
  pub head_empty : length s ≡ 0 → input_head s ≡ Stopped
  unfolding input_head
  head_empty h = rw (eq-eqb _ _ h)

  module _ (some : length s ≡ 0 → ⊥) where
    pub head_other : (get_or s 0 0 ≡ kind_table_of → ⊥) → input_head s ≡ Refused wrong_kind 0
    unfolding input_head
    head_other h = rw (ne_eqb _ _ some, ne_eqb _ _ h)

    module _ (kind : get_or s 0 0 ≡ kind_table_of) where
      pub head_short : length s < head_size → input_head s ≡ Stopped
      unfolding input_head
      head_short h = rw (ne_eqb _ _ some, eq-eqb _ _ kind, lt-ltb _ _ h)

      pub head_whole : head_size ≤ length s → input_head s ≡ length_of (get_or s 1 0 + 256 * get_or s 2 0)
      unfolding input_head
      head_whole h = rw (ne_eqb _ _ some, eq-eqb _ _ kind, le-ltb _ _ h)

pub length_none : {n : ℕ} → n ≡ 0 → length_of n ≡ Refused table_length 0
unfolding length_of
length_none h = rw (eq-eqb _ _ h)

pub length_over : {n : ℕ} → (n ≡ 0 → ⊥) → most_table < n → length_of n ≡ Refused table_length 0
unfolding length_of
length_over h k = rw (ne_eqb _ _ h, lt-ltb _ _ k)

pub length_fine : {n : ℕ} → (n ≡ 0 → ⊥) → n ≤ most_table → length_of n ≡ Table n
unfolding length_of
length_fine h k = rw (ne_eqb _ _ h, le-ltb _ _ k)

module _ (s : List ℕ) where
  -- by what the head has of its bytes
  head_cases : (P : Head → Type 0) → ((length s < head_size) → P Stopped) → ((length s ≡ 0 → ⊥) → P (Refused wrong_kind 0))
      → (head_size ≤ length s → P (length_of (get_or s 1 0 + 256 * get_or s 2 0))) → P (input_head s)
  head_cases P short other whole = by_length (ℕ_discrete (length s) 0)
    where
      by_whole : (some : length s ≡ 0 → ⊥) → get_or s 0 0 ≡ kind_table_of → Dec (length s < head_size) → P (input_head s)
      by_whole some k (yes h) = subst P (sym (head_short s some k h)) (short h)
      by_whole some k (no h) = subst P (sym (head_whole s some k (omega arith))) (whole (omega arith))

      by_kind : (some : length s ≡ 0 → ⊥) → Dec (get_or s 0 0 ≡ kind_table_of) → P (input_head s)
      by_kind some (no k) = subst P (sym (head_other s some k)) (other some)
      by_kind some (yes k) = by_whole some k (dec_lt (length s) head_size)

      by_length : Dec (length s ≡ 0) → P (input_head s)
      by_length (yes e) = subst P (sym (head_empty s e)) (short (omega arith))
      by_length (no some) = by_kind some (ℕ_discrete (get_or s 0 0) kind_table_of)

-- by the length of the table
length_cases : (n : ℕ) (P : Head → Type 0) → P (Refused table_length 0) → (1 ≤ n → n ≤ most_table → P (Table n)) → P (length_of n)
length_cases n P refused fine = by_none (ℕ_discrete n 0)
  where
    by_most : (n ≡ 0 → ⊥) → Dec (most_table < n) → P (length_of n)
    by_most some (yes h) = subst P (sym (length_over some h)) refused
    by_most some (no h) = subst P (sym (length_fine some (omega arith))) (fine (omega arith) (omega arith))

    by_none : Dec (n ≡ 0) → P (length_of n)
    by_none (yes e) = subst P (sym (length_none e)) refused
    by_none (no some) = by_most some (dec_lt most_table n)

-- what a head that says nothing yet, or names a table, has of its bytes
pub stopped_short : (s : List ℕ) → input_head s ≡ Stopped → length s < head_size
stopped_short s =
    head_cases s (λ (x : Head). x ≡ Stopped → length s < head_size) (λ h _. h) (λ _ e. let z : ◌≡◌ {A = ℕ} 0 1 = cc in absurd (omega arith))
    (λ _. length_cases _ (λ (x : Head). x ≡ Stopped → length s < head_size) (λ e. let z : ◌≡◌ {A = ℕ} 0 1 = cc in absurd (omega arith)) (λ _ _ e. let z : ◌≡◌ {A = ℕ} 0 1 = cc in absurd (omega arith)))

pub record TableHead (s : List ℕ) (n : ℕ) : Type 0 where
  pub whole : head_size ≤ length s
  pub some : 1 ≤ n
  pub at_most : n ≤ most_table

pub table_head : (s : List ℕ) {n : ℕ} → input_head s ≡ Table n → TableHead s n
table_head s {n} =
    head_cases s (λ (x : Head). x ≡ Table n → TableHead s n) (λ _ e. let z : ◌≡◌ {A = ℕ} 0 1 = cc in absurd (omega arith)) (λ _ e. let z : ◌≡◌ {A = ℕ} 0 1 = cc in absurd (omega arith))
    (λ h. length_cases _ (λ (x : Head). x ≡ Table n → TableHead s n) (λ e. let z : ◌≡◌ {A = ℕ} 0 1 = cc in absurd (omega arith))
    (λ a b e. let z : get_or s 1 0 + 256 * get_or s 2 0 ≡ n = cc in record { whole = h; some = omega (arith, a, z); at_most = omega (arith, b, z) }))
