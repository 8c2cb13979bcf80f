-- The value of at(v, k), as the code finds it: `i` is the position, `a` the note of k in rising order, `m` the number of rows known.
-- Assumes nothing.
use mathlib.Core.Path.{◌≡◌, ap, ◌∙◌}
use Prim.Native.Nat.{ℕ, ◌+◌, ◌-◌, ◌≤◌, ◌<◌}
use native.Mathlib.Omega.{arith}
use borrow.Author.Tests.{lt-ltb, le-ltb, le-leb, lt-leb}
use lib.IntN.{ℤ}
use mir.Syntax.{w8}
use mir.Val.{SFits, to_z, of_z}
use mir.Facts.{to_z-of_z}
use Rattle.limits.specs.Limits.{rise_of_zero}
use Rattle.basis.specs.Notes.{rising}
use Rattle.basis.specs.Parts.{up, down}
use Rattle.basis.proofs.Parts.{mag_parts}
use Rattle.lola.specs.Expressions.{at}
use Rattle.lola.specs.Models.{refer}

module _ {j : ℕ} {k : ℤ} (small : SFits w8 k) {i a : ℕ} (ei : i ≡ j) (ea : a ≡ rising (to_z w8 (of_z w8 k))) where
  noted : i + a + down k ≡ j + rise_of_zero + up k
  unfolding rising
  noted = let m = mag_parts k 128 small.sfits in omega (arith, ei, ea ∙ ap rising (to_z-of_z small))

  pub refers_to : rise_of_zero ≤ i + a → i + a - rise_of_zero + down k ≡ j + up k
  refers_to h = omega (arith, noted)

  module _ {W : Type 0} (σ : ℕ → ℕ → W) (n v : ℕ) (d : W) {m : ℕ} (em : m ≡ n) where
    pub held_inside : {r : W} → rise_of_zero ≤ i + a → i + a - rise_of_zero < m → r ≡ σ v (i + a - rise_of_zero) → r ≡ refer σ n j (at v k d)
    unfolding refer
    held_inside h l g =
        let h' : down k ≤ j + up k = omega (arith, noted) in
        let l' : j + up k < n + down k = omega (arith, em, noted) in
        let q : i + a - rise_of_zero ≡ j + up k - down k = omega (arith, noted) in
        g ∙ rw (q, le-leb _ _ h', lt-ltb _ _ l')

    pub default_past : {r : W} → rise_of_zero ≤ i + a → m ≤ i + a - rise_of_zero → r ≡ d → r ≡ refer σ n j (at v k d)
    unfolding refer
    default_past h l g =
        let h' : down k ≤ j + up k = omega (arith, noted) in
        let l' : n + down k ≤ j + up k = omega (arith, em, noted) in
        g ∙ rw (le-leb _ _ h', le-ltb _ _ l')

  pub default_below : {W : Type 0} (σ : ℕ → ℕ → W) (n v : ℕ) (d : W) {r : W} → i + a < rise_of_zero → r ≡ d → r ≡ refer σ n j (at v k d)
  unfolding refer
  default_below σ n v d h g = let l : j + up k < down k = omega (arith, noted) in g ∙ rw (lt-leb _ _ l)
