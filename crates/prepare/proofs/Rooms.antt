-- The room for the values of a turn is the announced one: 10 bytes for each output and 6 for each trigger (document 01).
-- Assumes nothing.
use Prim.Native.Nat.{ℕ, zero, suc, ◌+◌, ◌-◌, ◌*◌, ◌≤◌, ◌<◌}
use mathlib.Core.Path.{◌≡◌, refl, ap, ◌∙◌}
use mathlib.Core.Bool.{cond}
use mathlib.Core.List.{List}
use mathlib.Core.Logic.{◌⊎◌, inl, inr}
use native.Mathlib.Omega.{arith}
use lib.Dec.{eqb}
use lib.ListN.{get_or}
use Rattle.basis.specs.Firsts.{of}
use Rattle.basis.specs.Sums.{total}
use Rattle.basis.proofs.Sums.{total_bound}
use Rattle.basis.proofs.Tests.{lt_or_ge}
use Rattle.records.specs.Kinds.{trigger_size_of, room_for}
use Rattle.output.specs.Encoding.{room_from_of}

module _ (roles : List ℕ) (role_is : (v : ℕ) → get_or roles v 0 ≤ 1) where
  trigger_room : (v : ℕ) → cond (eqb (get_or roles v 0) 1) trigger_size_of 0 ≡ trigger_size_of * get_or roles v 0
  trigger_room v = go (lt_or_ge (get_or roles v 0) 1)
    where
      go : (get_or roles v 0 < 1) ⊎ (1 ≤ get_or roles v 0) → cond (eqb (get_or roles v 0) 1) trigger_size_of 0 ≡ trigger_size_of * get_or roles v 0
      go (inl h) = let e : get_or roles v 0 ≡ 0 = omega arith in rw e refl
      go (inr h) = let e : get_or roles v 0 ≡ 1 = omega (arith, role_is v) in rw e refl

  total_suc : (v : ℕ) → total (of roles) (suc v) ≡ total (of roles) v + of roles v
  unfolding total
  total_suc v = refl

  room_from : (k y : ℕ) → room_from_of roles k y + trigger_size_of * total (of roles) y ≡ room_for k (total (of roles) (y + k))
  unfolding room_from_of
  room_from zero y = let e : y + 0 ≡ y = omega arith in rw e refl
  room_from (suc k) y =
      let e : y + suc k ≡ suc y + k = omega arith in
      rw e (omega (arith, trigger_room y, room_from k (suc y), total_suc y))

  -- inputs are no triggers
  pub room_of_outputs : (inputs streams : ℕ) → inputs ≤ streams → ((v : ℕ) → v < inputs → get_or roles v 0 ≡ 0)
      → room_from_of roles (streams - inputs) inputs ≡ room_for (streams - inputs) (total (of roles) streams)
  room_of_outputs inputs streams h plain =
      let none = total_bound (of roles) inputs 0 (λ v l. omega (arith, plain v l)) in
      let e : inputs + (streams - inputs) ≡ streams = omega arith in
      let all : room_from_of roles (streams - inputs) inputs + trigger_size_of * total (of roles) inputs ≡ room_for (streams - inputs) (total (of roles) streams) =
      room_from (streams - inputs) inputs ∙ ap (λ (n : ℕ). room_for (streams - inputs) (total (of roles) n)) e in
      omega (arith, none, all)
