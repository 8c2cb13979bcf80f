-- What is read off a square of S streams depends only on its cells below S.
-- Assumes nothing.
use mathlib.Core.Path.{◌≡◌, refl, ap, ap₂}
use mathlib.Core.Bool.{Bool, not, ◌&&◌, cond}
use mathlib.Core.Logic.{⊎_elim}
use Prim.Native.Nat.{ℕ, zero, suc, ◌≤◌, ◌<◌}
use native.Mathlib.Omega.{arith}
use borrow.Author.Tests.{le-ltb}
use lib.Dec.{ltb}
use Rattle.basis.proofs.Tests.{lt_or_ge}
use Rattle.walks.specs.Longest.{Best, larger, plus, below, through, all_below, loops_below_of, look_of, back, short_loop_of, lowest, place_of}
use Rattle.walks.proofs.LookAhead.{look_same}
use Rattle.walks.proofs.Place.{sup_same}

all_below_same : (f g : ℕ → Best) (n : ℕ) → ((m : ℕ) → m < n → f m ≡ g m) → all_below f n ≡ all_below g n
unfolding all_below
all_below_same f g zero h = refl
all_below_same f g (suc n) h = ap₂ ◌&&◌ (all_below_same f g n (λ m p. h m (omega arith))) (ap below (h n (omega arith)))

lowest_same : (f g : ℕ → Bool) (n : ℕ) → ((m : ℕ) → m < n → f m ≡ g m) → lowest f n ≡ lowest g n
unfolding lowest
lowest_same f g zero h = refl
lowest_same f g (suc n) h = ap₂ (λ (b : Bool) (p : ℕ). cond b zero (suc p)) (h zero (omega arith)) (lowest_same (λ v. f (suc v)) (λ v. g (suc v)) n (λ m p. h (suc m) (omega arith)))

module _ (S : ℕ) (A B : ℕ → ℕ → Best) (same : (i j : ℕ) → i < S → j < S → A i j ≡ B i j) where
  pub loops_same : loops_below_of A S ≡ loops_below_of B S
  unfolding loops_below_of
  loops_same = all_below_same (λ v. A v v) (λ v. B v v) S (λ v h. same v v h h)

  pub look_of_same : (v : ℕ) → look_of A S v ≡ look_of B S v
  unfolding look_of
  look_of_same v = ⊎_elim (λ h. ap (λ (n : ℕ). cond (ltb v S) n 0) (look_same (A v) (B v) S (λ m p. same v m h p))) (λ h. rw (le-ltb v S h)) (lt_or_ge v S)

  pub through_same : (k : ℕ) → k ≤ S → (i j : ℕ) → i < S → j < S → through A k i j ≡ through B k i j
  unfolding through
  through_same zero q i j h g = same i j h g
  through_same (suc k) q i j h g = ap₂ larger (through_same k (omega arith) i j h g) (ap₂ plus (through_same k (omega arith) i k h q) (through_same k (omega arith) k j q g))

  back_same : (v : ℕ) → v < S → (n i : ℕ) → i < S → back S A v n i ≡ back S B v n i
  unfolding back
  back_same v l zero i h = same i v h l
  back_same v l (suc n) i h = sup_same (λ m. plus (A i m) (back S A v n m)) (λ m. plus (B i m) (back S B v n m)) S (λ m p. ap₂ plus (same i m h p) (back_same v l n m p))

  pub place_same : place_of A S ≡ place_of B S
  unfolding place_of short_loop_of
  place_same = lowest_same (short_loop_of S A) (short_loop_of S B) S (λ v l. ap not (all_below_same (λ n. back S A v n v) (λ n. back S B v n v) S (λ n h. back_same v l n v l)))
