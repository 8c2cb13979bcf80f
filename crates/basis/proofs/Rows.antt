-- Rows of numbers: a column's entries, what writing one entry does to a column, and that entries determine rows.
-- Assumes nothing.
use Prim.Native.Nat.{ℕ, zero, suc, ◌<◌}
use mathlib.Core.Path.{◌≡◌, refl, ap, sym, ◌∙◌}
use mathlib.Core.List.{List, [], ◌∷◌}
use native.Mathlib.Omega.{arith}
use native.Mathlib.Decide.{ℕ_discrete}
use lib.ListN.{length, get_or, set, length-set}
use lib.Seq.{get_or-set_same, get_or-set_other, ext_get_or}
use Rattle.basis.specs.Rows.{entry, column, put, Shaped}

pub column_at : (i : ℕ) (rows : List (List ℕ)) (v : ℕ) → get_or (column i rows) v 0 ≡ entry rows v i
unfolding column
column_at i [] v = refl
column_at i (r ∷ rows) zero = refl
column_at i (r ∷ rows) (suc v) = column_at i rows v

-- columns that are the same have the same entries
pub column_same : (i v : ℕ) (a b : List (List ℕ)) → column i a ≡ column i b → entry a v i ≡ entry b v i
column_same i v a b e = sym (column_at i a v) ∙ ap (λ (l : List ℕ). get_or l v 0) e ∙ column_at i b v

pub column_long : (i : ℕ) (rows : List (List ℕ)) → length (column i rows) ≡ length rows
unfolding column
column_long i [] = refl
column_long i (r ∷ rows) = ap suc (column_long i rows)

-- a row changed in its entry i alone
column_row : (i : ℕ) (rows : List (List ℕ)) (v : ℕ) (row : List ℕ) → column i (set rows v row) ≡ set (column i rows) v (get_or row i 0)
unfolding column
column_row i [] v row = refl
column_row i (r ∷ rows) zero row = refl
column_row i (r ∷ rows) (suc v) row = ap (λ (l : List ℕ). get_or r i 0 ∷ l) (column_row i rows v row)

set_own : (l : List ℕ) (v : ℕ) → set l v (get_or l v 0) ≡ l
set_own [] v = refl
set_own (x ∷ l) zero = refl
set_own (x ∷ l) (suc v) = ap (λ (m : List ℕ). x ∷ m) (set_own l v)

module _ (rows : List (List ℕ)) (v i x : ℕ) where
  -- the column that was written
  pub column_put : i < length (get_or rows v []) → column i (put rows v i x) ≡ set (column i rows) v x
  column_put h = column_row i rows v (set (get_or rows v []) i x) ∙ ap (set (column i rows) v) (get_or-set_same (get_or rows v []) i x 0 h)

  -- another one
  pub column_left : (j : ℕ) → (j ≡ i → ⊥) → column j (put rows v i x) ≡ column j rows
  column_left j h =
      column_row j rows v (set (get_or rows v []) i x)
      ∙ ap (set (column j rows) v) (get_or-set_other (get_or rows v []) i j x 0 h ∙ sym (column_at j rows v))
      ∙ set_own (column j rows) v

  -- a row's entries: the one that was written, and those of another row or another entry
  pub entry_put : v < length rows → i < length (get_or rows v []) → entry (put rows v i x) v i ≡ x
  entry_put h g = ap (λ (r : List ℕ). get_or r i 0) (get_or-set_same rows v (set (get_or rows v []) i x) [] h) ∙ get_or-set_same (get_or rows v []) i x 0 g

  pub entry_row : (u j : ℕ) → (u ≡ v → ⊥) → entry (put rows v i x) u j ≡ entry rows u j
  entry_row u j h = ap (λ (r : List ℕ). get_or r j 0) (get_or-set_other rows v u (set (get_or rows v []) i x) [] h)

  pub entry_other : (j : ℕ) → (j ≡ i → ⊥) → entry (put rows v i x) v j ≡ entry rows v j
  entry_other j h = column_same j v (put rows v i x) rows (column_left j h)

-- writing an entry keeps the shape
pub shaped_put : {n m : ℕ} {rows : List (List ℕ)} (v i x : ℕ) → Shaped n m rows → Shaped n m (put rows v i x)
shaped_put {n} {m} {rows} v i x s = record {
  long = length-set rows v (set (get_or rows v []) i x) ∙ s.long;
  wide = λ u l. go u l (ℕ_discrete u v);
}
  where
    go : (u : ℕ) → u < n → Dec (u ≡ v) → length (get_or (put rows v i x) u []) ≡ m
    go u l (yes p) =
        let h : v < length rows = omega (arith, s.long, l, p) in
        let e : length (get_or rows v []) ≡ m = s.wide v (omega (arith, l, p)) in
        rw p (ap length (get_or-set_same rows v (set (get_or rows v []) i x) [] h) ∙ length-set (get_or rows v []) i x ∙ e)
    go u l (no p) = ap length (get_or-set_other rows v u (set (get_or rows v []) i x) [] p) ∙ s.wide u l

-- rows of the same shape with the same entries are the same
pub rows_once : {n m : ℕ} {a b : List (List ℕ)} → Shaped n m a → Shaped n m b → ((v i : ℕ) → v < n → i < m → entry a v i ≡ entry b v i) → a ≡ b
rows_once {n} {m} {a} {b} s t e = ext_get_or [] a b (s.long ∙ sym t.long) (λ v l. row v (omega (arith, s.long, l)))
  where
    row : (v : ℕ) → v < n → get_or a v [] ≡ get_or b v []
    row v l = ext_get_or 0 (get_or a v []) (get_or b v []) (s.wide v l ∙ sym (t.wide v l)) (λ i k. e v i l (omega (arith, s.wide v l, k)))
