-- A list as an array of 32 entries that is 0 past the list's end, and an array that is filled from the front.
-- Assumes nothing.
use mathlib.Core.Path.{◌≡◌, refl, sym, ap, ◌∙◌}
use mathlib.Core.List.{List, ◌∷◌, ◌++◌}
use Prim.Native.Nat.{ℕ, zero, suc, ◌+◌, ◌-◌, ◌≤◌, ◌<◌}
use native.Mathlib.Omega.{arith}
use native.Mathlib.Nat.{le_of_suc-le-suc, not-suc-le-zero}
use lib.ListN.{length, get_or, take, drop, set, replicate, take-append-drop, length-append, length-drop, length-replicate, get_or-replicate}
use lib.Seq.{ext_get_or, get_or-drop, get_or-set_other, length-take-le}
use Rattle.limits.specs.Limits.{most_streams}
use Rattle.node.proofs.Tabulated.{same_at}
use Rattle.table.specs.Answers.{padded}

-- zeros from the place n on
pub record ZeroFrom (n : ℕ) (l : List ℕ) : Type 0 where
  pub zero_at : (k : ℕ) → n ≤ k → get_or l k 0 ≡ 0

pub zeros_at_first : (n : ℕ) → ZeroFrom n (replicate most_streams 0)
zeros_at_first n = record { zero_at = λ k h. same_at 0 most_streams k }

pub zeros_front : (n m : ℕ) → n ≤ m → take {A = ℕ} n (replicate m 0) ≡ replicate n 0
zeros_front zero m h = refl
zeros_front (suc n) zero h = absurd (not-suc-le-zero h)
zeros_front (suc n) (suc m) h = ap (λ (l : List ℕ). 0 ∷ l) (zeros_front n m (le_of_suc-le-suc h))

pub zeros_left : {l : List ℕ} {i : ℕ} (x : ℕ) → ZeroFrom i l → ZeroFrom (i + 1) (set l i x)
zeros_left {l} {i} x z =
    record { zero_at = λ k h. get_or-set_other l i k x 0 (λ e. omega arith) ∙ z.zero_at k (omega arith) }

pub zeros_after : {l : List ℕ} {i : ℕ} → ZeroFrom i l → ZeroFrom (i + 1) l
zeros_after z = record { zero_at = λ k h. z.zero_at k (omega arith) }

rest_is_zeros : (l : List ℕ) (n : ℕ) → length l ≡ most_streams → ZeroFrom n l → drop n l ≡ replicate (most_streams - n) 0
rest_is_zeros l n h z =
    ext_get_or 0 (drop n l) (replicate (most_streams - n) 0) (rw (length-drop, length-replicate, h)) λ i lt.
    let b : i < most_streams - n = rw (length-drop, h) at lt in
    get_or-drop n l i 0 ∙ z.zero_at (n + i) (omega arith) ∙ sym (get_or-replicate (most_streams - n) i 0 0 b)

-- an array that is 0 from n on is the padded list of its first n entries
pub padded_front : (l : List ℕ) (n : ℕ) → length l ≡ most_streams → n ≤ most_streams → ZeroFrom n l → l ≡ padded (take n l)
padded_front l n h le z =
    sym (take-append-drop n l)
    ∙ ap (λ (r : List ℕ). take n l ++ r) (rest_is_zeros l n h z)
    ∙ ap (λ (k : ℕ). take n l ++ replicate (most_streams - k) 0) (sym (length-take-le n l (omega arith)))

pub padded_length : (l : List ℕ) → length l ≤ most_streams → length (padded l) ≡ most_streams
padded_length l h = length-append l (replicate (most_streams - length l) 0) ∙ ap (λ (k : ℕ). length l + k) (length-replicate (most_streams - length l) 0) ∙ omega arith
