-- Look-aheads with slack on every edge, each 0 or reached by a tight edge, and with a rank that falls along tight edges, are those announced;
-- and those announced are such.
-- Assumes nothing.
use mathlib.Core.Path.{◌≡◌}
use mathlib.Core.Logic.{◌⊎◌, inl, inr, ⊎_elim}
use Prim.Native.Nat.{ℕ, zero, suc, ◌+◌, ◌≤◌, ◌<◌}
use native.Mathlib.Omega.{arith}
use native.Mathlib.Nat.{eq-or-lt_of_le}
use lib.IntN.{ℤ, pos, ◌+ℤ◌}
use Rattle.basis.specs.Parts.{up, down}
use Rattle.basis.proofs.Parts.{sum_parts, le_from_parts, lt_from_parts, eq_from_parts}
use Rattle.walks.specs.Walks.{Edges, Within, Walk, stay, step, LoopsBelow, LookAhead}
use Rattle.certificate.specs.Certificate.{Slack, Tight}
use Rattle.walks.proofs.Schedule.{look_reached}

-- a look-ahead is 0, or a tight edge reaches it
abbrev pub Reached : Edges → ℕ → (ℕ → ℕ) → Type 0
Reached E S look = (y : ℕ) → y < S → (look y ≡ 0) ⊎ ((v : ℕ) × Tight E look y v)

-- a rank falls along tight edges
abbrev pub Ranked : Edges → (ℕ → ℕ) → (ℕ → ℕ) → Type 0
Ranked E look rank = (y v : ℕ) → Tight E look y v → rank v < rank y

module _ (E : Edges) (look : ℕ → ℕ) (slack : Slack E look) where
  -- no walk asks more than the look-ahead of its start has
  along : {n i j : ℕ} {t : ℤ} → Walk E n i j t → up t + look j ≤ look i + down t
  along stay = omega arith
  along {i = i} (step {m = m} {k = w} {t = t} e u) = omega (arith, along u, slack i m w e, sum_parts w t)

  module _ (rank : ℕ → ℕ) (ranked : Ranked E look rank) where
    -- a walk of one edge or more loses something, or its rank falls
    loses : {n i j : ℕ} {t : ℤ} → Walk E n i j t → (up t + look j < look i + down t) ⊎ ((rank j + n ≤ rank i) × (up t + look j ≡ look i + down t))
    loses stay = inr (omega arith, omega arith)
    loses {j = j} (step {n = n} {i = i} {m = m} {k = w} {t = t} e u) = go (eq-or-lt_of_le (slack i m w e)) (loses u)
      where
        go : (up w + look m ≡ look i + down w) ⊎ (up w + look m < look i + down w) → (up t + look j < look m + down t) ⊎ ((rank j + n ≤ rank m) × (up t + look j ≡ look m + down t)) → (up (w +ℤ t) + look j < look i + down (w +ℤ t)) ⊎ ((rank j + suc n ≤ rank i) × (up (w +ℤ t) + look j ≡ look i + down (w +ℤ t)))
        go (inr h) x = inl (omega (arith, along u, sum_parts w t))
        go (inl h) (inl x) = inl (omega (arith, sum_parts w t))
        go (inl h) (inr x) = let r = ranked i m (record { k = w; edge = e; tight = h }) in inr (omega (arith, x.0), omega (arith, x.1, sum_parts w t))

    -- every loop totals below 0
    pub sound_below : LoopsBelow E
    unfolding LoopsBelow
    sound_below n v t u = ⊎_elim (λ h. lt_from_parts t (pos 0) (omega arith)) (λ h. absurd (omega (arith, h.0))) (loses u)

    -- a walk reaches each look-ahead
    reach : (S : ℕ) → Reached E S look → Within E S → (f v : ℕ) → rank v < f → v < S → (n : ℕ) × (j : ℕ) × Walk E n v j (pos (look v))
    reach S b ends zero v h l = absurd (omega arith)
    reach S b ends (suc f) v h l = go (b v l) (reach S b ends f)
      where
        go : (look v ≡ 0) ⊎ ((m : ℕ) × Tight E look v m) → ((m : ℕ) → rank m < f → m < S → (n : ℕ) × (j : ℕ) × Walk E n m j (pos (look m))) → (n : ℕ) × (j : ℕ) × Walk E n v j (pos (look v))
        go (inl e) ih = (zero, v, rw e stay)
        go (inr (m, x)) ih =
            let r = ih m (omega (arith, ranked v m x)) (ends v m x.k x.edge).1 in
            let e : x.k +ℤ pos (look m) ≡ pos (look v) = eq_from_parts (x.k +ℤ pos (look m)) (pos (look v)) (omega (arith, x.tight, sum_parts x.k (pos (look m)))) in
            (suc r.0, r.1, rw (← e) (step x.edge r.2))

    -- which is the largest total
    pub sound_ahead : (S : ℕ) → Reached E S look → Within E S → (v : ℕ) → v < S → LookAhead E v (look v)
    sound_ahead S b ends v l = record { all = λ n j t u. le_from_parts t (pos (look v)) (omega (arith, along u)); real = reach S b ends (suc (rank v)) v (omega arith) l }

-- a look-ahead that is announced is reached
pub tight_reaches : {E : Edges} {S : ℕ} {look : ℕ → ℕ} → Within E S → ((v : ℕ) → v < S → LookAhead E v (look v)) → Reached E S look
tight_reaches ends ahead y l = ⊎_elim inl (λ q. inr (q.0, record { k = q.1; edge = q.2; tight = q.3 })) (look_reached ends ahead y l)

-- where a rank falls along tight edges, no set of streams has a tight edge from each of them into the set
pub none_stuck : {E : Edges} {look rank : ℕ → ℕ} → Ranked E look rank → (U : ℕ → Type 0) → ((y : ℕ) → U y → (v : ℕ) × Tight E look y v × U v) → (bound y : ℕ) → rank y < bound → U y → ⊥
none_stuck ranked U on zero y h u = omega arith
none_stuck ranked U on (suc bound) y h u = let q = on y u in none_stuck ranked U on bound q.0 (omega (arith, ranked y q.0 q.1)) q.2
