-- Writing nothing, and writing at the front of the output.
-- Assumes nothing.
use mathlib.Core.Path.{◌≡◌, ap, ◌∙◌}
use mathlib.Core.List.{List, [], ◌++◌}
use Prim.Native.Nat.{ℕ, ◌+◌}
use native.Mathlib.Omega.{arith}
use lib.ListN.{length, drop}
use Rattle.basis.specs.Written.{Wrote}
use Rattle.basis.proofs.Written.{wrote_nothing, wrote_as, after_is}
use Rattle.output.specs.Encoding.{Emitted}

pub wrote_none : (l : List ℕ) (place : ℕ) {bs : List ℕ} → bs ≡ [] → Wrote l place bs l place
wrote_none l place e = wrote_as e (wrote_nothing l place)

-- written at the front
pub wrote_front : {a b bs : List ℕ} {r : ℕ} → Wrote a 0 bs b r → Emitted bs a b r
wrote_front {a} {b} {bs} {r} w =
    let e : 0 + length bs ≡ length bs = omega arith in
    record { counted = w.ends ∙ e; written = after_is w ∙ ap (λ (k : ℕ). bs ++ drop k a) e }
