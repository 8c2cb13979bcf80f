-- What `weighed` announces of a square: it asks the cells below S only, and its look-aheads fit (document 01, "What the check announces",
-- and refusal 7). Assumes nothing.
use mathlib.Core.Path.{◌≡◌, refl, sym, ap, ◌∙◌, subst}
use mathlib.Core.List.{List}
use Rattle.std.specs.Prelude.{Result, Ok, Err}
use mathlib.Core.Bool.{Bool, true, false, ◌&&◌, cond}
use Prim.Native.Nat.{ℕ, ◌^◌, ◌≤◌, ◌<◌}
use native.Mathlib.Omega.{arith}
use borrow.Author.Tests.{lt-ltb, ltb-true}
use lib.Dec.{ltb}
use lib.ListN.{get_or}
use lib.IntN.{ℤ}
use Rattle.limits.specs.Limits.{most_streams, most_ahead, most_look}
use Rattle.basis.specs.Parts.{up}
use Rattle.basis.proofs.Parts.{mag_parts}
use Rattle.basis.proofs.Tests.{and_true, true_and, pick_case}
use Rattle.walks.specs.Walks.{Within, LookAhead}
use Rattle.walks.specs.Longest.{Best, none, some, EdgesOf, through, loops_below_of, look_to, look_of, place_of}
use Rattle.walks.proofs.Best.{Largest, covers_self, none_some}
use Rattle.walks.proofs.LookAhead.{look_ahead_lem, look_same}
use Rattle.walks.proofs.Schedule.{schedule_of}
use Rattle.walks.proofs.Bound.{look_small}
use Rattle.walks.proofs.Same.{loops_same, look_of_same, through_same, place_same}
use Rattle.basis.specs.Firsts.{firsts}
use Rattle.square.specs.Square.{Small, weighed}
use Rattle.square.proofs.Sizes.{small_mag}
use Rattle.basis.proofs.Firsts.{firsts_same, get_d_firsts}

-- ---- accepted or refused

module _ (A : ℕ → ℕ → Best) (S : ℕ) where
  pub weighed_accepted : {look : List ℕ} → Ok look ≡ weighed A S → (loops_below_of (through A S) S ≡ true) × (look ≡ firsts (look_of (through A S) S) most_streams)
  unfolding weighed
  weighed_accepted {look} e = go (loops_below_of (through A S) S) e
    where
      go : (b : Bool) → Ok look ≡ cond {A = Result (List ℕ) ℕ} b (Ok (firsts (look_of (through A S) S) most_streams)) (Err (place_of A S)) → (b ≡ true) × (look ≡ firsts (look_of (through A S) S) most_streams)
      go true q = (refl, cc)
      go false q = absurd (cc)

  pub weighed_refused : {place : ℕ} → Err place ≡ weighed A S → (loops_below_of (through A S) S ≡ false) × (place ≡ place_of A S)
  unfolding weighed
  weighed_refused {place} e = go (loops_below_of (through A S) S) e
    where
      go : (b : Bool) → Err place ≡ cond {A = Result (List ℕ) ℕ} b (Ok (firsts (look_of (through A S) S) most_streams)) (Err (place_of A S)) → (b ≡ false) × (place ≡ place_of A S)
      go true q = absurd (cc)
      go false q = (refl, cc)

-- ---- look-aheads fit

-- the square's cells below S, nothing elsewhere
unfoldable inside : ℕ → (ℕ → ℕ → Best) → ℕ → ℕ → Best
inside S A i j = cond (ltb i S && ltb j S) (A i j) none

inside_is : (S : ℕ) (A : ℕ → ℕ → Best) (i j : ℕ) → i < S → j < S → A i j ≡ inside S A i j
unfolding inside
inside_is S A i j h g = ap (λ (b : Bool). cond b (A i j) none) (sym (true_and (lt-ltb i S h) (lt-ltb j S g)))

inside_within : (S : ℕ) (A : ℕ → ℕ → Best) → Within (EdgesOf (inside S A)) S
unfolding inside
inside_within S A i j k e = go (ltb i S && ltb j S) refl e
  where
    go : (b : Bool) → ltb i S && ltb j S ≡ b → cond b (A i j) none ≡ some k → (i < S) × (j < S)
    go true q e = let w = and_true (ltb i S) (ltb j S) q in (ltb-true i S w.0, ltb-true j S w.1)
    go false q e = none_some e

edges_largest : (A : ℕ → ℕ → Best) (i j : ℕ) → Largest (EdgesOf A i j) (A i j)
edges_largest A i j = record { all = λ k e. covers_self e; real = λ k e. e }

-- for at most 32 streams and weights from -128 to 127
module _ (S : ℕ) (A : ℕ → ℕ → Best) (few : S ≤ most_streams) (small : (i j : ℕ) → i < most_streams → j < most_streams → Small 7 (A i j)) where
  pub look_fits : loops_below_of (through A S) S ≡ true → (v : ℕ) → v < S → look_to (through A S v) S ≤ most_look
  look_fits neg v l = subst (λ (n : ℕ). n ≤ most_look) (sym (look_same (through A S v) (through B S v) S (λ m p. relaxed v m l p)))
      (look_small ends ahead (schedule_of B (edges_largest B) ends ahead neg_B) high few v l)
    where
      B : ℕ → ℕ → Best
      B = inside S A

      ends : Within (EdgesOf B) S
      ends = inside_within S A

      relaxed : (i j : ℕ) → i < S → j < S → through A S i j ≡ through B S i j
      relaxed = through_same S A B (inside_is S A) S (omega arith)

      neg_B : loops_below_of (through B S) S ≡ true
      neg_B = sym (loops_same S (through A S) (through B S) relaxed) ∙ neg

      ahead : (v : ℕ) → v < S → LookAhead (EdgesOf B) v (look_to (through B S v) S)
      ahead v l = look_ahead_lem (EdgesOf B) S B (edges_largest B) ends neg_B v

      high : (y v : ℕ) (k : ℤ) → B y v ≡ some k → up k ≤ most_ahead
      high y v k e = let q = ends y v k e in let w = mag_parts k (2 ^ 7) (small_mag (subst (Small 7) (inside_is S A y v q.0 q.1 ∙ e) (small y v (omega arith) (omega arith)))) in omega arith

  look_of_fits : loops_below_of (through A S) S ≡ true → (v : ℕ) → look_of (through A S) S v ≤ most_look
  unfolding look_of
  look_of_fits neg v = pick_case (λ (n : ℕ). n ≤ most_look) (ltb v S) (look_to (through A S v) S) 0 (λ e. look_fits neg v (ltb-true v S e)) (λ e. omega arith)

  -- the look-aheads of an accepted square
  pub weighed_look_small : {look : List ℕ} → Ok look ≡ weighed A S → (v : ℕ) → v < most_streams → get_or look v 0 ≤ most_look
  weighed_look_small e v h = let f = weighed_accepted A S e in rw (f.1, get_d_firsts (look_of (through A S) S) most_streams v 0 h) (look_of_fits f.0 v)

-- ---- by the relaxed square D, which is known cell by cell

module _ (S : ℕ) (A D : ℕ → ℕ → Best) (few : S ≤ most_streams) (relaxed : (i j : ℕ) → i < most_streams → j < most_streams → D i j ≡ through A S i j) where
  below_S : (i j : ℕ) → i < S → j < S → D i j ≡ through A S i j
  below_S i j h g = relaxed i j (omega arith) (omega arith)

  test_same : {b : Bool} → loops_below_of D S ≡ b → loops_below_of (through A S) S ≡ b
  test_same e = sym (loops_same S D (through A S) below_S) ∙ e

  pub relaxed_fits : ((i j : ℕ) → i < most_streams → j < most_streams → Small 7 (A i j)) → loops_below_of D S ≡ true → (v : ℕ) → v < S → look_to (D v) S < 65536
  relaxed_fits small e v h = let b = look_fits S A few small (test_same e) v h in omega (arith, look_same (D v) (through A S v) S (λ m p. below_S v m h p))

  pub weighed_true : loops_below_of D S ≡ true → Ok (firsts (look_of D S) most_streams) ≡ weighed A S
  unfolding weighed
  weighed_true e = ap Ok (firsts_same (look_of D S) (look_of (through A S) S) most_streams (λ v h. look_of_same S D (through A S) below_S v)) ∙ sym (rw (test_same e))

  pub weighed_false : loops_below_of D S ≡ false → Err (place_of A S) ≡ weighed A S
  unfolding weighed
  weighed_false e = sym (rw (test_same e))

-- two squares that agree below S
pub weighed_same : (S : ℕ) (A B : ℕ → ℕ → Best) → ((i j : ℕ) → i < S → j < S → A i j ≡ B i j) → weighed A S ≡ weighed B S
unfolding weighed
weighed_same S A B same = rw (loops_same S (through A S) (through B S) relaxed, firsts_same (look_of (through A S) S) (look_of (through B S) S) most_streams (λ v h. look_of_same S (through A S) (through B S) relaxed v), place_same S A B same)
  where
    relaxed : (i j : ℕ) → i < S → j < S → through A S i j ≡ through B S i j
    relaxed = through_same S A B same S (omega arith)
