-- How large look-aheads can be, for offsets from -128 to 127 and at most 32 streams (document 01, "Numbers").
-- Assumes nothing.
use mathlib.Core.Logic.{⊎_elim}
use Prim.Native.Nat.{ℕ, zero, suc, ◌+◌, ◌*◌, ◌≤◌, ◌<◌}
use native.Mathlib.Omega.{arith}
use lib.IntN.{ℤ}
use Rattle.limits.specs.Limits.{most_streams, most_ahead, most_look}
use Rattle.basis.specs.Parts.{up}
use Rattle.walks.specs.Walks.{Edges, Within, LookAhead}
use Rattle.walks.specs.Schedule.{Schedule}
use Rattle.walks.proofs.Schedule.{look_reached}

module _ {E : Edges} {S : ℕ} {look : ℕ → ℕ} (ends : Within E S) (ahead : (v : ℕ) → v < S → LookAhead E v (look v)) (s : Schedule E S look) (high : (y v : ℕ) (k : ℤ) → E y v k → up k ≤ most_ahead) where
  -- a look-ahead grows by at most 127 with each rank
  by_rank : (n y : ℕ) → y < S → s.rank y < n → look y ≤ most_ahead * s.rank y
  by_rank zero y l h = absurd (omega arith)
  by_rank (suc n) y l h = ⊎_elim (λ e. omega arith)
      (λ q. omega (arith, q.3, high y q.0 q.1 q.2, s.falls y q.0 q.1 q.2 q.3, by_rank n q.0 (ends y q.0 q.1 q.2).1 (omega (arith, s.falls y q.0 q.1 q.2 q.3))))
      (look_reached ends ahead y l)

  pub look_bound : (v : ℕ) → v < S → look v + most_ahead ≤ most_ahead * S
  look_bound v l = omega (arith, by_rank (suc (s.rank v)) v l (omega arith), s.few v l)

  pub look_small : S ≤ most_streams → (v : ℕ) → v < S → look v ≤ most_look
  look_small h v l = omega (arith, look_bound v l)
