-- The largest of 0 and a row of the relaxed square is the stream's look-ahead (document 01, "What the check announces").
-- E are any edges between streams below S, A holds the largest of each pair, every loop is below 0. Assumes nothing.
use mathlib.Core.Path.{◌≡◌, refl, sym, ap, ap₂, ◌∙◌, subst}
use mathlib.Core.Logic.{◌⊎◌, inl, inr, ⊎_elim}
use mathlib.Core.Bool.{true}
use Prim.Native.Nat.{ℕ, zero, suc, ◌+◌, ◌≤◌, ◌<◌}
use native.Mathlib.Omega.{arith}
use native.Mathlib.Nat.{not-suc-le-zero, le_of_suc-le-suc}
use lib.IntN.{ℤ, pos, negsuc, ◌+ℤ◌}
use lib.Signed.{◌≤ℤ◌}
use Rattle.basis.specs.Parts.{up, down}
use Rattle.basis.proofs.Parts.{le_parts, le_from_parts}
use Rattle.basis.proofs.Tests.{lt_or_eq, lt_or_ge}
use Rattle.walks.specs.Walks.{Edges, Within, Walk, stay, step, LookAhead}
use Rattle.walks.specs.Longest.{Best, none, some, through, loops_below_of, or_more, look_to}
use Rattle.walks.proofs.Best.{Covers, covers, Largest}
use Rattle.walks.proofs.Through.{real}
use Rattle.walks.proofs.Loops.{inner, outer, end_within, square_covers}

or_more_old : (a : ℕ) (b : Best) → a ≤ or_more a b
or_more_old a none = omega arith
or_more_old a (some t) = omega arith

or_more_new : (a : ℕ) {b : Best} {t : ℤ} → Covers b t → up t ≤ or_more a b + down t
or_more_new a (covers {d = d} {t = t} h) = omega (arith, le_parts h)

-- a row's entry is at most its look-ahead
pub look_covers : (f : ℕ → Best) (n j : ℕ) (t : ℤ) → j < n → Covers (f j) t → up t ≤ look_to f n + down t
unfolding look_to
look_covers f zero j t h c = absurd (not-suc-le-zero h)
look_covers f (suc n) j t h c = ⊎_elim (λ p. omega (arith, look_covers f n j t p c, or_more_old (look_to f n) (f n)))
    (λ e. or_more_new (look_to f n) (subst (λ (m : ℕ). Covers (f m) t) e c)) (lt_or_eq (le_of_suc-le-suc h))

or_more_is : (a : ℕ) (b : Best) → (or_more a b ≡ a) ⊎ (b ≡ some (pos (or_more a b)))
or_more_is a none = inl refl
or_more_is a (some (pos t)) = ⊎_elim (λ p. inr (ap (λ (n : ℕ). some (pos n)) (omega arith))) (λ p. inl (omega arith)) (lt_or_ge a t)
or_more_is a (some (negsuc t)) = inl (omega arith)

-- and it is 0, or the total of an entry
look_real : (f : ℕ → Best) (n : ℕ) → (look_to f n ≡ 0) ⊎ ((j : ℕ) × (f j ≡ some (pos (look_to f n))))
unfolding look_to
look_real f zero = inl refl
look_real f (suc n) = ⊎_elim (λ e. ⊎_elim (λ g. inl (e ∙ g)) (λ q. inr (q.0, q.1 ∙ ap (λ (n : ℕ). some (pos n)) (sym e))) (look_real f n)) (λ g. inr (n, g)) (or_more_is (look_to f n) (f n))

pub look_same : (f g : ℕ → Best) (n : ℕ) → ((m : ℕ) → m < n → f m ≡ g m) → look_to f n ≡ look_to g n
unfolding look_to
look_same f g zero h = refl
look_same f g (suc n) h = ap₂ or_more (look_same f g n (λ m p. h m (omega arith))) (h n (omega arith))

module _ (E : Edges) (S : ℕ) (A : ℕ → ℕ → Best) (A-is : (i j : ℕ) → Largest (E i j) (A i j)) (ends : Within E S) (neg : loops_below_of (through A S) S ≡ true) where
  most : (v : ℕ) {n j : ℕ} {t : ℤ} → Walk E n v j t → t ≤ℤ pos (look_to (through A S v) S)
  most v stay = le_from_parts (pos 0) _ (omega arith)
  most v {j = j} (step {k = w} {t = t} e u) = le_from_parts (w +ℤ t) _
      (omega (arith, look_covers (through A S v) S j (w +ℤ t) (end_within ends (step e u)) (square_covers E S A A-is ends neg v j (w +ℤ t) (inner ends (step e u)))))

  reached : (v a : ℕ) → (a ≡ 0) ⊎ ((j : ℕ) × (through A S v j ≡ some (pos a))) → (n : ℕ) × (j : ℕ) × Walk E n v j (pos a)
  reached v a (inl e) = (zero, v, subst (λ (z : ℕ). Walk E zero v v (pos z)) (sym e) stay)
  reached v a (inr q) = let o = outer (real E A A-is S v q.0 (pos a) q.1) in (suc o.0, q.0, o.1)

  pub look_ahead_lem : (v : ℕ) → LookAhead E v (look_to (through A S v) S)
  look_ahead_lem v = record { all = λ n j t u. most v u; real = reached v (look_to (through A S v) S) (look_real (through A S v) S) }
