-- The edges of two lists joined are those of the one and those of the other.
-- Assumes nothing.
use Prim.Native.Nat.{ℕ}
use mathlib.Core.List.{List, [], ◌∷◌, ◌++◌}
use mathlib.Core.Logic.{◌⊎◌, inl, inr, ⊎_elim}
use lib.IntN.{ℤ}
use Rattle.basis.specs.Edges.{Edge, Has, here, later}

pub has_after : {y v : ℕ} {k : ℤ} (rs : List Edge) {es : List Edge} → Has y v k es → Has y v k (rs ++ es)
has_after [] h = h
has_after (r ∷ rs) h = later (has_after rs h)

pub has_before : {y v : ℕ} {k : ℤ} {rs : List Edge} (es : List Edge) → Has y v k rs → Has y v k (rs ++ es)
has_before es (here p q r) = here p q r
has_before es (later h) = later (has_before es h)

pub has_either : {y v : ℕ} {k : ℤ} (rs : List Edge) {es : List Edge} → Has y v k (rs ++ es) → Has y v k rs ⊎ Has y v k es
has_either [] h = inr h
has_either (r ∷ rs) (here p q e) = inl (here p q e)
has_either (r ∷ rs) (later h) = ⊎_elim (λ a. inl (later a)) inr (has_either rs h)
