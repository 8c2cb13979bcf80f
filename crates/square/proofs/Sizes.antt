-- How large totals grow: a bit for each stream of the relaxed square, and for each edge of a walk.
-- Assumes nothing.
use mathlib.Core.Path.{sym, subst}
use mathlib.Core.Logic.{⊎_elim}
use Prim.Native.Nat.{ℕ, zero, suc, ◌+◌, ◌^◌, ◌≤◌, ◌<◌}
use native.Mathlib.Omega.{arith}
use native.Mathlib.Nat.{two-pow-succ}
use lib.Pow.{pow_mono}
use lib.IntN.{ℤ, ◌+ℤ◌}
use lib.Signed.{mag}
use Rattle.limits.specs.Limits.{most_streams}
use Rattle.basis.proofs.Parts.{mag_sum}
use Rattle.walks.specs.Longest.{Best, some, larger, plus, relax_b, through, sup_to, back}
use Rattle.walks.proofs.Best.{max_is}
use Rattle.square.specs.Square.{Small, small_none, small_some}

pub small_mag : {n : ℕ} {d : ℤ} → Small n (some d) → mag d < 2 ^ n
small_mag (small_some h) = h

pub small_more : {n m : ℕ} {b : Best} → n ≤ m → Small n b → Small m b
small_more h small_none = small_none
small_more {n} {m} h (small_some {d = d} k) = let p : 2 ^ n ≤ 2 ^ m = pow_mono h in small_some {d = d} (omega arith)

pub small_larger : {n : ℕ} {a b : Best} → Small n a → Small n b → Small n (larger a b)
small_larger small_none t = t
small_larger (small_some h) small_none = small_some h
small_larger {n} (small_some {d = a} h) (small_some {d = b} k) = small_some (⊎_elim (λ e. subst (λ (z : ℤ). mag z < 2 ^ n) (sym e) h) (λ e. subst (λ (z : ℤ). mag z < 2 ^ n) (sym e) k) (max_is a b))

pub small_plus : {n : ℕ} {a b : Best} → Small n a → Small n b → Small (suc n) (plus a b)
small_plus small_none t = small_none
small_plus (small_some h) small_none = small_none
small_plus {n} (small_some {d = a} h) (small_some {d = b} k) = small_some (subst (λ (m : ℕ). mag (a +ℤ b) < m) (sym (two-pow-succ n)) (mag_sum (2 ^ n) a b h k))

pub small_relax : {n : ℕ} {a b c : Best} → Small n a → Small n b → Small n c → Small (suc n) (relax_b a b c)
small_relax s t u = small_larger (small_more (omega arith) s) (small_plus t u)

-- n bits more for each stream
pub small_through : (A : ℕ → ℕ → Best) (s n : ℕ) → ((i j : ℕ) → i < s → j < s → Small n (A i j)) → (k : ℕ) → k ≤ s → (i j : ℕ) → i < s → j < s → Small (n + k) (through A k i j)
unfolding through
small_through A s n h zero q i j p r = small_more (omega arith) (h i j p r)
small_through A s n h (suc k) q i j p r = small_more {n = suc (n + k)} (omega arith)
    (small_relax (small_through A s n h k (omega arith) i j p r) (small_through A s n h k (omega arith) i k p (omega arith)) (small_through A s n h k (omega arith) k j (omega arith) r))

small_sup : {k : ℕ} (f : ℕ → Best) (n : ℕ) → ((m : ℕ) → m < n → Small k (f m)) → Small k (sup_to f n)
unfolding sup_to
small_sup f zero h = small_none
small_sup f (suc n) h = small_larger (small_sup f n (λ m p. h m (omega arith))) (h n (omega arith))

pub small_back : (S k v : ℕ) (A : ℕ → ℕ → Best) → S ≤ most_streams → v < most_streams → ((i j : ℕ) → i < most_streams → j < most_streams → Small k (A i j)) → (n i : ℕ) → i < most_streams → Small (k + n) (back S A v n i)
unfolding back
small_back S k v A q p h zero i r = small_more (omega arith) (h i v r p)
small_back S k v A q p h (suc n) i r = small_more {n = suc (k + n)} (omega arith) (small_sup (λ m. plus (A i m) (back S A v n m)) S
    (λ m l. small_plus (small_more {n = k} (omega arith) (h i m r (omega arith))) (small_back S k v A q p h n m (omega arith))))
