-- Laws of two numbers that are 0 past a stream: all of them as one number, bit by bit.
-- Assumes nothing.
use mathlib.Core.Path.{◌≡◌, refl}
use mathlib.Core.Logic.{⊎_elim}
use mathlib.Core.List.{List}
use Prim.Native.Nat.{ℕ, ◌+◌, ◌≤◌, ◌<◌}
use native.Mathlib.Omega.{arith}
use lib.ListN.{get_or}
use lib.Bits.{bit_or, and_le_l, and_le_r, or_add_and}
use Rattle.basis.proofs.Tests.{lt_or_eq}

-- a join is 0 where both are
or_none : (a b : ℕ) → bit_or a b ≡ 0 → (a ≡ 0) × (b ≡ 0)
or_none a b e = (omega (arith, or_add_and a b, and_le_r a b), omega (arith, or_add_and a b, and_le_l a b))

-- both numbers are 0 from s up to v
abbrev pub Clear : List ℕ → List ℕ → ℕ → ℕ → Type 0
Clear look kept s v = (u : ℕ) → s ≤ u → u < v → (get_or look u 0 ≡ 0) × (get_or kept u 0 ≡ 0)

-- `any` is 0 exactly where they are
pub record Joined (look kept : List ℕ) (s v any : ℕ) : Type 0 where
  pub clear : any ≡ 0 → Clear look kept s v
  pub none : Clear look kept s v → any ≡ 0

module _ {look kept : List ℕ} {s : ℕ} where
  pub joined_on : {v any : ℕ} → s ≤ v → Joined look kept s v any → Joined look kept s (v + 1) (bit_or any (bit_or (get_or look v 0) (get_or kept v 0)))
  joined_on {v} {any} h j = record { clear = on; none = off }
    where
      on : bit_or any (bit_or (get_or look v 0) (get_or kept v 0)) ≡ 0 → Clear look kept s (v + 1)
      on e u a b =
          let f = or_none any (bit_or (get_or look v 0) (get_or kept v 0)) e in
          let g = or_none (get_or look v 0) (get_or kept v 0) f.1 in
          ⊎_elim (λ l. j.clear f.0 u a l) (λ i. rw i g) (lt_or_eq (let b' : u ≤ v = omega arith in b'))

      off : Clear look kept s (v + 1) → bit_or any (bit_or (get_or look v 0) (get_or kept v 0)) ≡ 0
      off c = let o = c v h (omega arith) in rw (j.none (λ u a b. c u a (omega arith)), o.0, o.1) refl
