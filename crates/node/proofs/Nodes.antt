-- The node of a kind: a constant, a reference or an operator, by what stands in its body; and which of them have no operands.
-- Assumes nothing.
use mathlib.Core.Path.{◌≡◌, refl}
use mathlib.Core.Bool.{false}
use mathlib.Core.List.{List, [], ◌∷◌}
use Prim.Native.Nat.{ℕ, zero, suc, ◌+◌, ◌≤◌}
use native.Mathlib.Nat.{le_of_suc-le-suc, not-suc-le-zero}
use borrow.Author.Tests.{ne_eqb}
use lib.ListN.{length, get_or}
use lib.IntN.{ℤ}
use Rattle.wire.specs.Bytes.{word_at}
use Rattle.node.specs.Node.{node_of, signed_of, is_leaf_of, standing}
use Rattle.node.specs.declared.Node.TheVariants.{Constant, Now, At, Operator}

pub is_16 : (s : List ℕ) (k at : ℕ) → k ≡ 16 → Constant 0 (get_or s at 0) ≡ node_of s k at
unfolding node_of
is_16 s k at e = rw e

pub is_17 : (s : List ℕ) (k at : ℕ) → k ≡ 17 → Constant 1 (word_at s at) ≡ node_of s k at
unfolding node_of
is_17 s k at e = rw e

pub is_18 : (s : List ℕ) (k at : ℕ) → k ≡ 18 → Constant 2 (word_at s at) ≡ node_of s k at
unfolding node_of
is_18 s k at e = rw e

pub is_19 : (s : List ℕ) (k at : ℕ) → k ≡ 19 → Now (get_or s at 0) ≡ node_of s k at
unfolding node_of
is_19 s k at e = rw e

pub is_20 : (s : List ℕ) (k at : ℕ) {v d : ℕ} {z : ℤ} → k ≡ 20 → v ≡ get_or s at 0 → z ≡ signed_of (get_or s (at + 1) 0) → d ≡ word_at s (at + 2)
    → At v z d ≡ node_of s k at
unfolding node_of
is_20 s k at e v f g = rw (e, v, f, g)

pub is_other : (s : List ℕ) (k at : ℕ) → (k ≡ 16 → ⊥) → (k ≡ 17 → ⊥) → (k ≡ 18 → ⊥) → (k ≡ 19 → ⊥) → (k ≡ 20 → ⊥) → Operator k ≡ node_of s k at
unfolding node_of
is_other s k at a b c d e = simp (ne_eqb _ _ a, ne_eqb _ _ b, ne_eqb _ _ c, ne_eqb _ _ d, ne_eqb _ _ e)

-- past a list's end there is 0
pub past : (l : List ℕ) (i : ℕ) → length l ≤ i → 0 ≡ get_or l i 0
past [] i h = refl
past (x ∷ l) zero h = absurd (not-suc-le-zero h)
past (x ∷ l) (suc i) h = past l i (le_of_suc-le-suc h)

-- past a table's end stands no leaf
pub none_stands : (s : List ℕ) (at : ℕ) → length s ≤ at → false ≡ is_leaf_of (standing s at)
unfolding node_of is_leaf_of
none_stands s at h = rw (← past s at h)
