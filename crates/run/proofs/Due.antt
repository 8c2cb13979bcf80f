-- On which turn a value is due (document 01, "A run").
-- Assumes nothing.
use Prim.Native.Nat.{ℕ, ◌+◌, ◌-◌, ◌≤◌, ◌<◌}
use mathlib.Core.Path.{◌≡◌, refl}
use mathlib.Core.Bool.{Bool, true, false}
use native.Mathlib.Omega.{arith}
use borrow.Author.Tests.{ltb-true, leb-true, lt-ltb, le-leb}
use lib.Dec.{leb, ltb}
use Rattle.basis.proofs.Tests.{bool_eq, and_true, true_and}
use Rattle.run.specs.Turn.{due}

pub due_facts : (look : ℕ → ℕ) (n t y : ℕ) → due look n t y ≡ true → (look y ≤ t) × (t < n + look y)
due_facts look n t y h =
    let a = and_true (leb (look y) t) (ltb t (n + look y)) h in
    (leb-true (look y) t a.0, ltb-true t (n + look y) a.1)

pub due_from : (look : ℕ → ℕ) (n t y : ℕ) → look y ≤ t → t < n + look y → due look n t y ≡ true
due_from look n t y a b = true_and (le-leb (look y) t a) (lt-ltb t (n + look y) b)

-- two numbers of rows that agree up to turn t
due_more : (look : ℕ → ℕ) (n N t y : ℕ) → ((q : ℕ) → q ≤ t → q < n → q < N) → due look n t y ≡ true → due look N t y ≡ true
due_more look n N t y to h =
    let a = due_facts look n t y h in
    due_from look N t y a.0 (omega (arith, a.0, a.1, to (t - look y) (omega arith) (omega (arith, a.0, a.1))))

pub due_same :
    (look : ℕ → ℕ) (n N t y : ℕ) → ((q : ℕ) → q ≤ t → q < n → q < N) → ((q : ℕ) → q ≤ t → q < N → q < n) → due look n t y ≡ due look N t y
due_same look n N t y to from = bool_eq _ _ (due_more look n N t y to) (due_more look N n t y from)

-- the value at position p is due on turn p plus the look-ahead
pub due_yes : (look : ℕ → ℕ) (n t v p : ℕ) → p + look v ≡ t → p < n → due look n t v ≡ true
due_yes look n t v p e h = due_from look n t v (omega arith) (omega arith)

pub due_not : (look : ℕ → ℕ) (n t v : ℕ) → (look v ≤ t → t < n + look v → ⊥) → due look n t v ≡ false
due_not look n t v h = go (due look n t v) refl
  where
    go : (b : Bool) → due look n t v ≡ b → due look n t v ≡ false
    go true e = let f = due_facts look n t v e in absurd (h f.0 f.1)
    go false e = e
