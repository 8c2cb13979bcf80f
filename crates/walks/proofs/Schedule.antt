-- Where every loop is below 0, look-aheads leave slack on every edge, and a rank falls along the tight edges, those without slack.
-- The rank of y is the number of v with longest(y, v) + look-ahead(v) = look-ahead(y). Assumes nothing.
use mathlib.Core.Path.{◌≡◌, refl, sym, ap, subst}
use mathlib.Core.Bool.{Bool, true, false}
use mathlib.Core.Logic.{◌⊎◌, inl, inr}
use mathlib.Core.List.{List}
use Prim.Native.Nat.{ℕ, suc, ◌+◌, ◌≤◌, ◌<◌}
use native.Mathlib.Omega.{arith}
use lib.Dec.{eqb}
use lib.IntN.{ℤ, pos, ◌+ℤ◌}
use borrow.Author.Tests.{eqb-true, eq-eqb, ne_eqb}
use Rattle.basis.specs.Parts.{up, down}
use Rattle.basis.specs.Edges.{Edge, Among}
use Rattle.basis.proofs.Parts.{sum_parts, le_parts, lt_parts}
use Rattle.basis.proofs.Tests.{true_false}
use Rattle.walks.specs.Walks.{Edges, Within, Walk, stay, step, LoopsBelow, LookAhead}
use Rattle.walks.specs.Schedule.{Schedule}
use Rattle.walks.specs.Longest.{Best, none, some, below, square_for, through, loops_below_of}
use Rattle.walks.proofs.Best.{Largest, covers_some, below_lt}
use Rattle.walks.proofs.Through.{WalkIn, last, next, join, real}
use Rattle.walks.proofs.Loops.{all_below_each, square_covers, loops_diagonal}
use Rattle.walks.proofs.Squares.{square_is}
use Rattle.walks.proofs.Rank.{rank_of, rank_falls, rank_small}

module _ {E : Edges} {S : ℕ} {look : ℕ → ℕ} (ends : Within E S) (ahead : (v : ℕ) → v < S → LookAhead E v (look v)) where
  -- an edge asks no more than the look-ahead of its source
  pub slack_of_edge : (y v : ℕ) (k : ℤ) → E y v k → up k + look v ≤ look y + down k
  slack_of_edge y v k e =
      let r = (ahead v (ends y v k e).1).real in
      omega (arith, le_parts ((ahead y (ends y v k e).0).all (suc r.0) r.1 (k +ℤ pos (look v)) (step e r.2)), sum_parts k (pos (look v)))

  first_edge : {n y j : ℕ} {t : ℤ} → Walk E n y j t → t ≡ pos (look y) → (look y ≡ 0) ⊎ ((v : ℕ) × (k : ℤ) × E y v k × (up k + look v ≡ look y + down k))
  first_edge stay q = inl (omega (arith, ap up q))
  first_edge {y = y} {j = j} (step {n = n} {m = m} {k = w} {t = t} e u) q =
      inr (m, w, e, omega (arith, slack_of_edge y m w e, le_parts ((ahead m (ends y m w e).1).all n j t u), sum_parts w t, ap up q, ap down q))

  -- a look-ahead is 0, or a tight edge reaches it
  pub look_reached : (y : ℕ) → y < S → (look y ≡ 0) ⊎ ((v : ℕ) × (k : ℤ) × E y v k × (up k + look v ≡ look y + down k))
  look_reached y l = let r = (ahead y l).real in first_edge r.2 refl

  along : {k i j : ℕ} {t : ℤ} → WalkIn E k i j t → up t + look j ≤ look i + down t
  along {i = i} {j = j} (last {w = w} e) = slack_of_edge i j w e
  along {i = i} (next {m = m} {w = w} {t = t} e h u) = omega (arith, along u, slack_of_edge i m w e, sum_parts w t)

-- a total that is there and takes b to a
abbrev takes : Best → ℕ → ℕ → Bool
takes none a b = false
takes (some t) a b = eqb (up t + b) (a + down t)

takes_some : (d : Best) (a b : ℕ) → takes d a b ≡ true → (t : ℤ) × (d ≡ some t) × (up t + b ≡ a + down t)
takes_some none a b e = true_false e refl
takes_some (some t) a b e = (t, refl, eqb-true (up t + b) (a + down t) e)

some_takes : (d : Best) (a b : ℕ) (t : ℤ) → d ≡ some t → up t + b ≡ a + down t → takes d a b ≡ true
some_takes d a b t e h = subst (λ (x : Best). takes x a b ≡ true) (sym e) (eq-eqb (up t + b) (a + down t) h)

module _ {E : Edges} {S : ℕ} {look : ℕ → ℕ} (A : ℕ → ℕ → Best) (A-is : (i j : ℕ) → Largest (E i j) (A i j)) (ends : Within E S) (ahead : (v : ℕ) → v < S → LookAhead E v (look v)) (neg : loops_below_of (through A S) S ≡ true) where
  -- a tight walk from y to v
  abbrev tight : ℕ → ℕ → Bool
  tight y v = takes (through A S y v) (look y) (look v)

  -- where a walk is tight, the longest is
  walk_tight : (y v : ℕ) (t : ℤ) → WalkIn E S y v t → up t + look v ≡ look y + down t → tight y v ≡ true
  walk_tight y v t u h =
      let q = covers_some (square_covers E S A A-is ends neg y v t u) in
      let w = along ends ahead (real E A A-is S y v q.0 q.1) in
      some_takes (through A S y v) (look y) (look v) q.0 q.1 (omega (arith, le_parts q.2))

  tight_through : (y v w : ℕ) → y < S → v < S → w < S → tight y v ≡ true → tight v w ≡ true → tight y w ≡ true
  tight_through y v w a b l h g =
      let p = takes_some (through A S y v) (look y) (look v) h in
      let q = takes_some (through A S v w) (look v) (look w) g in
      walk_tight y w (p.0 +ℤ q.0) (join b (real E A A-is S y v p.0 p.1) (real E A A-is S v w q.0 q.1)) (omega (arith, p.2, q.2, sum_parts p.0 q.0))

  no_tight_loop : (v : ℕ) → v < S → tight v v ≡ false
  unfolding loops_below_of
  no_tight_loop v l = go (through A S v v) (all_below_each (λ x. through A S x x) S neg v l)
    where
      no : (t : ℤ) → below (some t) ≡ true → up t + look v ≡ look v + down t → ⊥
      no t e h = omega (arith, lt_parts (below_lt {t = t} e))

      go : (d : Best) → below d ≡ true → takes d (look v) (look v) ≡ false
      go none e = refl
      go (some t) e = ne_eqb (up t + look v) (look v + down t) (no t e)

  pub schedule_of : Schedule E S look
  schedule_of = record {
    rank = rank_of S tight tight_through no_tight_loop;
    few = rank_small S tight tight_through no_tight_loop;
    slack = slack_of_edge ends ahead;
    falls = λ y v k e h. rank_falls S tight tight_through no_tight_loop y v (ends y v k e).0 (ends y v k e).1 (walk_tight y v k (last e) h);
  }

-- for a list of edges, of which nothing more than `Walks` says need be known
pub schedule : (es : List Edge) (S : ℕ) (look : ℕ → ℕ) → Within (Among es) S → LoopsBelow (Among es) → ((v : ℕ) → v < S → LookAhead (Among es) v (look v)) → Schedule (Among es) S look
schedule es S look ends h ahead = schedule_of (square_for es) (square_is es) ends ahead (loops_diagonal (Among es) S (square_for es) (square_is es) ends h)
