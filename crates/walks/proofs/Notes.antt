-- The largest note of the edges between two streams: at least each of them, and 0 or one of them.
-- Assumes nothing.
use Prim.Native.Nat.{ℕ, ◌≤◌, max}
use native.Mathlib.Omega.{arith}
use mathlib.Core.Path.{◌≡◌, refl, subst}
use mathlib.Core.Bool.{Bool, true, false, cond}
use mathlib.Core.Logic.{◌⊎◌, inl, inr, ⊎_elim}
use mathlib.Core.List.{List, [], ◌∷◌}
use lib.IntN.{ℤ}
use Rattle.basis.specs.Edges.{Edge, Has, here, later}
use Rattle.basis.proofs.Tests.{lt_or_ge}
use Rattle.walks.specs.Longest.{joins, note_of}
use Rattle.walks.proofs.Squares.{joins_ends, ends_join}

module _ (m : ℤ → ℕ) (y v : ℕ) where
  pub note_all : {k : ℤ} {es : List Edge} → Has y v k es → m k ≤ note_of m es y v
  unfolding note_of
  note_all (here {e = e} {es = es} p q r) = rw (ends_join e y v p q, r) (omega arith)
  note_all (later {e = e} {es = es} h) = omega (arith, note_all h)

  abbrev pub NoteOf : List Edge → ℕ → Type 0
  NoteOf es n = (n ≡ 0) ⊎ ((k : ℤ) × Has y v k es × (n ≡ m k))

  note_later : (e : Edge) (es : List Edge) {n : ℕ} → NoteOf es n → NoteOf (e ∷ es) n
  note_later e es (inl p) = inl p
  note_later e es (inr q) = inr (q.0, later q.1, q.2)

  note_larger : (e : Edge) (es : List Edge) (n : ℕ) (b : Bool) → joins e y v ≡ b → NoteOf es n → NoteOf (e ∷ es) (max n (cond b (m e.weight) 0))
  note_larger e es n false p f = subst (NoteOf (e ∷ es)) (omega arith) (note_later e es f)
  note_larger e es n true p f = ⊎_elim
      (λ h. let w = joins_ends e y v p in inr (e.weight, here w.0 w.1 refl, omega arith))
      (λ h. subst (NoteOf (e ∷ es)) (omega arith) (note_later e es f)) (lt_or_ge n (m e.weight))

  pub note_real : (es : List Edge) → NoteOf es (note_of m es y v)
  unfolding note_of
  note_real [] = inl refl
  note_real (e ∷ es) = note_larger e es (note_of m es y v) (joins e y v) refl (note_real es)

  -- a number that is at least each note, and 0 or one of them, is the largest
  pub note_one : {es : List Edge} {n : ℕ} → ((k : ℤ) → Has y v k es → m k ≤ n) → NoteOf es n → note_of m es y v ≡ n
  note_one {es} {n} all real = omega (arith, below (note_real es), above real)
    where
      below : NoteOf es (note_of m es y v) → note_of m es y v ≤ n
      below (inl e) = omega arith
      below (inr q) = omega (arith, q.2, all q.0 q.1)

      above : NoteOf es n → n ≤ note_of m es y v
      above (inl e) = omega arith
      above (inr q) = omega (arith, q.2, note_all q.1)

  pub no_note : {es : List Edge} → ((k : ℤ) → Has y v k es → ⊥) → note_of m es y v ≡ 0
  no_note h = note_one (λ k e. absurd (h k e)) (inl refl)
