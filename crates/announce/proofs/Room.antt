-- No table announces more room than the most that its records can take (document 01, "What the check announces").
-- Assumes nothing.
use Prim.Native.Nat.{ℕ, zero, suc, ◌+◌, ◌≤◌}
use native.Mathlib.Omega.{arith}
use native.Mathlib.Nat.{add-zero, add-suc}
use mathlib.Core.Path.{◌≡◌, refl}
use mathlib.Core.Bool.{Bool, true, false, cond}
use mathlib.Core.List.{List}
use lib.Dec.{leb}
use lib.ListN.{length, get_or}
use Rattle.limits.specs.Limits.{most_words}
use Rattle.limits.specs.Refusals.{wrong_loop, over_words}
use Rattle.basis.specs.Sums.{total}
use Rattle.basis.proofs.Sums.{total_bound}
use Rattle.records.specs.Kinds.{most_room}
use Rattle.records.proofs.Sizes.{room_at_most}
use Rattle.table.specs.Table.{Table, Decoded, decoded, refused, decode, streams, edges}
use Rattle.table.proofs.Sound.{sound}
use Rattle.walks.specs.Longest.{square_for, loops_below_of, place_of}
use Rattle.announce.specs.Announced.{longest, store_words, room_bytes_of, refusal, acceptance, weigh_table, after_scan, announced}

-- k streams behind the first n are at most k triggers
triggers_behind : (f : ℕ → ℕ) (n k : ℕ) → ((v : ℕ) → f v ≤ 1) → total f (n + k) ≤ total f n + k
unfolding total
triggers_behind f n zero h = rw (add-zero n) (omega arith)
triggers_behind f n (suc k) h = rw (add-suc n k) (omega (arith, triggers_behind f n k h, h (n + k)))

-- a trigger is an output
room_of_table : (s : List ℕ) (t : Table) → decode s ≡ decoded t → room_bytes_of t ≤ most_room
unfolding room_bytes_of
room_of_table s t e =
    let x = sound s e in
    let none = total_bound (λ v. get_or t.roles v 0) t.inputs 0 (λ v l. omega (arith, x.input_is_plain v l)) in
    let some = triggers_behind (λ v. get_or t.roles v 0) t.inputs (length t.equations) x.role_is in
    let all : total (λ v. get_or t.roles v 0) (streams t) ≤ total (λ v. get_or t.roles v 0) t.inputs + length t.equations = rw x.outputs at some in
    room_at_most (length t.equations) (total (λ v. get_or t.roles v 0) (streams t)) (omega (arith, x.some_input, x.few, x.outputs)) (omega (arith, none, all))

-- a refusal announces 0
room_of_answer : (t : Table) → room_bytes_of t ≤ most_room → (weigh_table t).room ≤ most_room
unfolding weigh_table
room_of_answer t h = go (loops_below_of (longest t) (streams t)) (leb (store_words t) most_words)
  where
    go : (a b : Bool) → (cond a (cond b (acceptance t) (refusal over_words 0)) (refusal wrong_loop (place_of (square_for (edges t)) (streams t)))).room ≤ most_room
    go true true = h
    go true false = omega arith
    go false b = omega arith

pub room_announced : (s : List ℕ) → (announced s).room ≤ most_room
unfolding announced
room_announced s = go (decode s) refl
  where
    go : (d : Decoded) → decode s ≡ d → (after_scan d).room ≤ most_room
    go (decoded t) e = room_of_answer t (room_of_table s t e)
    go (refused n p) e = omega arith
