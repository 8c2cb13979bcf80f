-- The square of a list of edges: `square_for` holds the largest weight of each pair.
-- Assumes nothing.
use mathlib.Core.Path.{◌≡◌, refl, ap, ◌∙◌}
use mathlib.Core.Bool.{Bool, true, false, cond}
use mathlib.Core.Logic.{⊎_elim}
use mathlib.Core.List.{List, [], ◌∷◌}
use Prim.Native.Nat.{ℕ}
use lib.Dec.{eqb}
use lib.IntN.{ℤ}
use borrow.Author.Tests.{eqb-true, eq-eqb}
use Rattle.basis.specs.Edges.{Edge, Has, here, later, Among}
use Rattle.basis.proofs.Tests.{and_true, true_and}
use Rattle.walks.specs.Longest.{none, some, joins, only, square_for}
use Rattle.walks.proofs.Best.{Covers, Largest, covers_left, covers_right, covers_self, larger_is, none_some}

pub joins_ends : (e : Edge) (y v : ℕ) → joins e y v ≡ true → (e.from ≡ y) × (e.to ≡ v)
joins_ends e y v h = let q = and_true (eqb e.from y) (eqb e.to v) h in (eqb-true e.from y q.0, eqb-true e.to v q.1)

pub ends_join : (e : Edge) (y v : ℕ) → e.from ≡ y → e.to ≡ v → joins e y v ≡ true
ends_join e y v p q = true_and (eq-eqb e.from y p) (eq-eqb e.to v q)

only_real : (b : Bool) (k t : ℤ) → cond b (some k) none ≡ some t → (b ≡ true) × (k ≡ t)
only_real true k t e = (refl, cc)
only_real false k t e = none_some e

square_all : {y v : ℕ} {k : ℤ} {es : List Edge} → Has y v k es → Covers (square_for es y v) k
unfolding square_for only
square_all {y} {v} {k} (here {e = e} {es = es} p q r) = covers_right (square_for es y v) (covers_self (ap (λ (b : Bool). cond b (some e.weight) none) (ends_join e y v p q) ∙ ap some r))
square_all {y} {v} {k} (later {e = e} {es = es} h) = covers_left (only e y v) (square_all h)

square_real : (es : List Edge) (y v : ℕ) (t : ℤ) → square_for es y v ≡ some t → Has y v t es
unfolding square_for only
square_real [] y v t e = none_some e
square_real (x ∷ es) y v t e = ⊎_elim (λ p. later (square_real es y v t p))
    (λ p. let q = only_real (joins x y v) x.weight t p in let r = joins_ends x y v q.0 in here r.0 r.1 q.1) (larger_is (square_for es y v) (only x y v) t e)

pub square_is : (es : List Edge) (y v : ℕ) → Largest (λ k. Among es y v k) (square_for es y v)
square_is es y v = record { all = λ k h. square_all h; real = square_real es y v }
