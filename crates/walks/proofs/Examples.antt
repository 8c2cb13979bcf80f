-- Source 004's closed walks and cycles on the loops of document 01's cases P6, P7, P9 and P10.
-- Assumes nothing.
use Prim.Native.Nat.{ℕ}
use mathlib.Core.Path.{◌≡◌, refl, ap}
use mathlib.Core.List.{List, [], ◌∷◌}
use native.Mathlib.Omega.{arith}
use lib.IntN.{ℤ, pos, negsuc}
use lib.Signed.{◌<ℤ◌}
use Rattle.basis.specs.Parts.{up}
use Rattle.basis.specs.Edges.{Edge, here, later, Among}
use Rattle.walks.specs.Walks.{Within, Walk, stay, step, LoopsBelow}
use Rattle.walks.specs.Longest.{only, square_for, through, all_below, loops_below_of}
use Rattle.walks.specs.Cycles.{ClosedWalk, starts, Cycle}
use Rattle.walks.proofs.Announced.{accepted_loops}
use Rattle.walks.proofs.Cycles.{loops_no_zero, loops_no_cycle}

-- P6 y = now(y)
abbrev edges_p6 : List Edge
edges_p6 = record { from = 1; to = 1; weight = pos 0 } ∷ []

-- P7 y = at(y,1)
abbrev edges_p7 : List Edge
edges_p7 = record { from = 1; to = 1; weight = pos 1 } ∷ []

-- P9 y = at(z,1), z = at(y,-1)
abbrev edges_p9 : List Edge
edges_p9 = record { from = 1; to = 2; weight = pos 1 } ∷ record { from = 2; to = 1; weight = negsuc 0 } ∷ []

-- P10 y = at(z,1), z = at(y,-2)
abbrev edges_p10 : List Edge
edges_p10 = record { from = 1; to = 2; weight = pos 1 } ∷ record { from = 2; to = 1; weight = negsuc 1 } ∷ []

-- P6 and P9 have a closed walk of weight zero
pub p6_not_formed : ClosedWalk (Among edges_p6) (pos 0)
p6_not_formed = record { n = 0; v = 1; walk = step (here refl refl refl) stay }

pub p9_not_formed : ClosedWalk (Among edges_p9) (pos 0)
p9_not_formed = record { n = 1; v = 1; walk = step (here refl refl refl) (step (later (here refl refl refl)) stay) }

-- P7 has none, and a cycle of positive weight
walk_p7 : {n i j : ℕ} {t : ℤ} → Walk (Among edges_p7) n i j t → t ≡ pos n
walk_p7 stay = refl
walk_p7 (step (later h) w) = elim h [ ]
walk_p7 (step (here p q r) w) = rw (← r, walk_p7 w) (ap pos (omega arith))

pub p7_formed : ClosedWalk (Among edges_p7) (pos 0) → ⊥
p7_formed c = let e = ap up (walk_p7 c.walk) in omega arith

pub p7_not_bounded : Cycle (Among edges_p7) (pos 1)
unfolding starts
p7_not_bounded = record { closed = record { n = 0; v = 1; walk = step (here refl refl refl) stay }; simple = ((λ h. h), tt) }

-- P10 has neither
within_p10 : Within (Among edges_p10) 3
within_p10 y v k (here p q r) = (omega arith, omega arith)
within_p10 y v k (later (here p q r)) = (omega arith, omega arith)
within_p10 y v k (later (later h)) = elim h [ ]

below_p10 : LoopsBelow (Among edges_p10)
unfolding loops_below_of all_below through square_for only
below_p10 = accepted_loops edges_p10 3 within_p10 refl

pub p10_formed : ClosedWalk (Among edges_p10) (pos 0) → ⊥
p10_formed = loops_no_zero below_p10

pub p10_bounded : (t : ℤ) → pos 0 <ℤ t → Cycle (Among edges_p10) t → ⊥
p10_bounded = loops_no_cycle below_p10
