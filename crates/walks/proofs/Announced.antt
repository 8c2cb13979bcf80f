-- What the executable definitions announce of a list of edges is what `Walks` says (document 01, "What the check announces", and refusal 7).
-- The edges lie between streams below S. Assumes nothing.
use mathlib.Core.Path.{◌≡◌, sym, subst}
use mathlib.Core.Bool.{Bool, true, false, cond}
use mathlib.Core.List.{List}
use Prim.Native.Nat.{ℕ, ◌<◌}
use borrow.Author.Tests.{lt-ltb}
use Rattle.basis.specs.Edges.{Edge, Among}
use Rattle.walks.specs.Walks.{Within, LoopsBelow, LookAhead, PlaceOfLoop, Right}
use Rattle.walks.specs.Longest.{square_for, through, loops_below_of, look_to, look_of, place_of, kept_from}
use Rattle.walks.proofs.Squares.{square_is}
use Rattle.walks.proofs.Loops.{diagonal_loops, loops_diagonal}
use Rattle.walks.proofs.LookAhead.{look_ahead_lem}
use Rattle.walks.proofs.Place.{place_of_loop_lem}
use Rattle.walks.proofs.Kept.{kept_is}
use Rattle.walks.proofs.Unique.{right_one}

module _ (es : List Edge) (S : ℕ) (ends : Within (Among es) S) where
  -- accepted: every loop, of any length, is below 0
  pub accepted_loops : loops_below_of (through (square_for es) S) S ≡ true → LoopsBelow (Among es)
  accepted_loops = diagonal_loops (Among es) S (square_for es) (square_is es) ends

  -- and only then
  pub loops_accepted : LoopsBelow (Among es) → loops_below_of (through (square_for es) S) S ≡ true
  loops_accepted = loops_diagonal (Among es) S (square_for es) (square_is es) ends

  -- the numbers of an accepted table are look-aheads
  pub accepted_look : loops_below_of (through (square_for es) S) S ≡ true → (v : ℕ) → v < S → LookAhead (Among es) v (look_of (through (square_for es) S) S v)
  unfolding look_of
  accepted_look h v l = subst (λ (b : Bool). LookAhead (Among es) v (cond b (look_to (through (square_for es) S v) S) 0)) (sym (lt-ltb v S l)) (look_ahead_lem (Among es) S (square_for es) (square_is es) ends h v)

  -- a refused one has its place
  pub refused_place : loops_below_of (through (square_for es) S) S ≡ false → PlaceOfLoop (Among es) S (place_of (square_for es) S)
  refused_place = place_of_loop_lem (Among es) S (square_for es) (square_is es) ends

  -- the announced numbers, whole
  pub accepted_right : loops_below_of (through (square_for es) S) S ≡ true → Right (Among es) S (look_of (through (square_for es) S) S) (kept_from es (look_of (through (square_for es) S) S))
  accepted_right h = record { below = accepted_loops h; ahead = accepted_look h; keeps = λ v l. kept_is (look_of (through (square_for es) S) S) v es }

  -- and whatever numbers are right are the announced ones
  pub right_accepted : {look kept : ℕ → ℕ} → Right (Among es) S look kept → loops_below_of (through (square_for es) S) S ≡ true
  right_accepted r = loops_accepted r.below

  pub right_announced : {look kept : ℕ → ℕ} → Right (Among es) S look kept → (v : ℕ) → v < S → (look v ≡ look_of (through (square_for es) S) S v) × (kept v ≡ kept_from es (look_of (through (square_for es) S) S) v)
  right_announced r = right_one ends r (accepted_right (right_accepted r))
