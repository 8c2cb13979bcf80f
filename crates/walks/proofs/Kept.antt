-- `kept_from` is the kept number (document 01, "Kept values of v"). Assumes nothing.
use mathlib.Core.Path.{◌≡◌, refl, subst}
use mathlib.Core.Bool.{Bool, true, false, cond}
use mathlib.Core.Logic.{◌⊎◌, inl, inr, ⊎_elim}
use mathlib.Core.List.{List, [], ◌∷◌}
use Prim.Native.Nat.{ℕ, ◌+◌, ◌-◌, ◌≤◌, max}
use native.Mathlib.Omega.{arith}
use lib.Dec.{eqb}
use lib.IntN.{ℤ}
use borrow.Author.Tests.{eqb-true, eq-eqb}
use Rattle.basis.specs.Parts.{up, down}
use Rattle.basis.specs.Edges.{Edge, Has, here, later, Among}
use Rattle.basis.proofs.Tests.{lt_or_ge}
use Rattle.walks.specs.Walks.{Kept}
use Rattle.walks.specs.Longest.{slack_of, kept_from}

module _ (look : ℕ → ℕ) (v : ℕ) where
  abbrev slack_at_of : Edge → ℕ
  slack_at_of e = look e.from + down e.weight - (up e.weight + look v)

  slack_all : {y : ℕ} {k : ℤ} {es : List Edge} → Has y v k es → look y + down k ≤ slack_of es look v + (up k + look v)
  unfolding slack_of
  slack_all (here {e = e} {es = es} p q r) = rw (← p, ← r, eq-eqb e.to v q) (omega arith)
  slack_all (later {e = e} {es = es} h) = omega (arith, slack_all h)

  abbrev Reached : List Edge → ℕ → Type 0
  Reached es n = (n ≡ 0) ⊎ ((y : ℕ) × (k : ℤ) × Has y v k es × (look y + down k ≡ n + (up k + look v)))

  more : (e : Edge) (es : List Edge) (n : ℕ) → Reached es n → Reached (e ∷ es) n
  more e es n (inl p) = inl p
  more e es n (inr q) = inr (q.0, q.1, later q.2, q.3)

  -- the larger of what was reached and one edge more
  larger_reached : (e : Edge) (es : List Edge) (n : ℕ) (b : Bool) → eqb e.to v ≡ b → Reached es n → Reached (e ∷ es) (max n (cond b (slack_at_of e) 0))
  larger_reached e es n false p r = subst (Reached (e ∷ es)) (omega arith) (more e es n r)
  larger_reached e es n true p r = ⊎_elim
      (λ h. inr (e.from, e.weight, here refl (eqb-true e.to v p) refl, omega arith))
      (λ h. subst (Reached (e ∷ es)) (omega arith) (more e es n r)) (lt_or_ge n (slack_at_of e))

  slack_real : (es : List Edge) → Reached es (slack_of es look v)
  unfolding slack_of
  slack_real [] = inl refl
  slack_real (e ∷ es) = larger_reached e es (slack_of es look v) (eqb e.to v) refl (slack_real es)

  pub kept_is : (es : List Edge) → Kept (Among es) look v (kept_from es look v)
  unfolding kept_from
  kept_is es = record { some = omega arith; all = λ y k h. omega (arith, slack_all h); real = ⊎_elim (λ p. inl (omega arith)) (λ q. inr (q.0, q.1, q.2, omega (arith, q.3))) (slack_real es) }
