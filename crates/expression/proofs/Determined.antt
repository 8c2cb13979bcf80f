-- What a scan determines: its answer, all that is kept of the streams where there is no fault, and all but the notes where there is one.
-- Assumes nothing.
use Rattle.std.proofs.Common.{Result, Ok, Err}
use Prim.Native.Nat.{ℕ}
use mathlib.Core.Path.{◌≡◌, sym, ap, ◌∙◌}
use mathlib.Core.List.{List}
use native.Mathlib.Omega.{arith}
use native.Mathlib.Decide.{ℕ_discrete}
use Rattle.limits.specs.Faults.{number_for}
use Rattle.limits.specs.declared.Refusal.{Refusal}
use Rattle.limits.proofs.Faults.{fault_once}
use Rattle.basis.specs.Rows.{column}
use Rattle.basis.proofs.Rows.{column_same, rows_once}
use Rattle.expression.specs.Syntax.{Expr}
use Rattle.expression.specs.Grammar.{Parsed, good}
use Rattle.expression.specs.Seen.{seen_rise, seen_fall, Seen}
use Rattle.expression.specs.Scanning.{Outcome, NotesAlone, Scanning}

pub scanning_once :
    {p : Parsed} {s ts : List ℕ} {seen a b : List (List ℕ)} {m n : ℕ} → Scanning p s ts seen a m → Scanning p s ts seen b n →
    (m ≡ n) × NotesAlone a b × ((e : Expr) (k : ℕ) → p ≡ good e k → a ≡ b)
scanning_once {p} {seen = seen} {a = a} {b = b} x y = (x.answer ∙ sym y.answer, others, λ e k q. rows_once x.left.shape y.left.shape (λ v i h l. column_same i v a b (columns e k q i (ℕ_discrete i seen_rise) (ℕ_discrete i seen_fall))))
  where
    others : NotesAlone a b
    others j h g = y.others j h g ∙ sym (x.others j h g)

    columns : (e : Expr) (k : ℕ) → p ≡ good e k → (i : ℕ) → Dec (i ≡ seen_rise) → Dec (i ≡ seen_fall) → column i a ≡ column i b
    columns e k q i (yes z) d = rw z (x.rises e k q ∙ sym (y.rises e k q))
    columns e k q i (no h) (yes z) = rw z (x.falls e k q ∙ sym (y.falls e k q))
    columns e k q i (no h) (no g) = sym (others i h g)

-- the scans, which answer over whatever streams these are the rows of: `f` is what the grammar reads over the types ts
module _ (f : List ℕ → Parsed) {s ts : List ℕ} {seen : List (List ℕ)} (rows : Seen ts seen) where
  pub scans_once :
      {a b : List (List ℕ)} {m n : ℕ} → ((us : List ℕ) → Seen us seen → Scanning (f us) s us seen a m) → ((us : List ℕ) → Seen us seen → Scanning (f us) s us seen b n) →
      (m ≡ n) × NotesAlone a b × ((e : Expr) (k : ℕ) → f ts ≡ good e k → a ≡ b)
  scans_once x y = scanning_once (x ts rows) (y ts rows)

-- and what an answer says is determined by its number
pub outcome_once : (code : ℕ) (r q : Result ℕ Refusal) → Outcome code r → Outcome code q → r ≡ q
outcome_once code (Ok a) (Ok b) x y = ap Ok (x.1 ∙ sym y.1)
outcome_once code (Ok a) (Err q) x y = absurd (omega (arith, x.0, y.0))
outcome_once code (Err r) (Ok b) x y = absurd (omega (arith, x.0, y.0))
outcome_once code (Err r) (Err q) x y =
    let f : number_for r.fault ≡ number_for q.fault = omega (arith, x.1, x.2, y.1, y.2) in
    let p : r.place ≡ q.place = omega (arith, x.1, x.2, y.1, y.2) in
    ap Err (λ i. record { fault = fault_once r.fault q.fault f i; place = p i })
