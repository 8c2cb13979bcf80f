-- The sums and the test of numbers past the last stream are determined by what is promised of them. Assumes nothing.
use Prim.Native.Nat.{ℕ}
use mathlib.Core.Path.{◌≡◌, refl, sym, ◌∙◌}
use mathlib.Core.Bool.{Bool, true, false}
use Rattle.numbers.specs.declared.Totals.{Totals}
use Rattle.numbers.specs.Past.{Decides}

-- a test that decides P has one outcome
pub decides_once : (P : Type 0) (a b : Bool) → Decides a P → Decides b P → a ≡ b
decides_once P true true p q = refl
decides_once P true false p q = absurd (q p)
decides_once P false true p q = absurd (p q)
decides_once P false false p q = refl

-- `sums`: its three numbers are all of its answer
pub totals_once :
    {words triggers closing : ℕ} {a b : Totals} →
    (a.words ≡ words) × (a.triggers ≡ triggers) × (a.closing ≡ closing) → (b.words ≡ words) × (b.triggers ≡ triggers) × (b.closing ≡ closing) → a ≡ b
totals_once p q = is p ∙ sym (is q)
  where
    is : {words triggers closing : ℕ} {t : Totals} → (t.words ≡ words) × (t.triggers ≡ triggers) × (t.closing ≡ closing) → t ≡ record { words = words; triggers = triggers; closing = closing }
    is e = rw (← e.0, ← e.1, ← e.2) refl
