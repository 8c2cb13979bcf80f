-- Slack and kept numbers from the smallest weights: the loop's steps, the bound, and that they are the kept numbers of the edges (document 01,
-- "Kept values of v"). Assumes nothing.
use mathlib.Core.Path.{◌≡◌, refl, ap, ap₂, ◌∙◌, subst}
use mathlib.Core.Logic.{◌⊎◌, inl, inr, ⊎_elim}
use mathlib.Core.List.{List}
use Prim.Native.Nat.{ℕ, zero, suc, ◌+◌, ◌-◌, ◌≤◌, ◌<◌, max}
use native.Mathlib.Omega.{arith}
use native.Mathlib.Nat.{not-suc-le-zero, le_of_suc-le-suc}
use native.Mathlib.Numerals.{add-one}
use lib.ListN.{get_or}
use lib.IntN.{ℤ}
use Rattle.basis.specs.Firsts.{of}
use Rattle.basis.specs.Notes.{falling}
use Rattle.limits.specs.Limits.{most_streams, most_back, most_ahead, fall_of_zero, most_note, most_look}
use Rattle.basis.specs.Parts.{up, down}
use Rattle.basis.specs.Rows.{entry}
use Rattle.basis.specs.Edges.{Edge, Has, Among}
use Rattle.basis.proofs.Tests.{lt_or_eq, lt_or_ge}
use Rattle.walks.specs.Walks.{Within, Kept}
use Rattle.walks.specs.Longest.{fall_of, kept_from}
use Rattle.walks.proofs.Notes.{note_all, NoteOf, note_real}
use Rattle.walks.proofs.Kept.{kept_is}
use Rattle.walks.proofs.Unique.{kept_one}
use Rattle.kept.specs.Kept.{Looks, Falls, slack_at_of, slack_over, kept_over}

pub slack_there : (f a b : ℕ) → (f ≡ 0 → ⊥) → slack_at_of f a b ≡ a + f - (fall_of_zero + b)
slack_there zero a b h = absurd (h refl)
slack_there (suc m) a b h = refl

slack_at_most : (f a b : ℕ) → slack_at_of f a b ≤ a + f
slack_at_most zero a b = omega arith
slack_at_most (suc m) a b = omega arith

pub slack_over_most : (fall look : ℕ → ℕ) (v n B : ℕ) → ((y : ℕ) → y < n → look y + fall y ≤ B) → slack_over fall look v n ≤ B
unfolding slack_over
slack_over_most fall look v zero B h = omega arith
slack_over_most fall look v (suc n) B h = omega (arith, slack_over_most fall look v n B (λ y p. h y (omega arith)), slack_at_most (fall n) (look n) (look v), h n (omega arith))

-- from arrays within their bounds
pub slack_small : (look : List ℕ) (fall : List (List ℕ)) (v n : ℕ) → v < most_streams → n ≤ most_streams → Looks look → Falls fall → slack_over (λ y. entry fall y v) (of look) v n ≤ most_look + most_note
slack_small look fall v n h k a b = slack_over_most (λ y. entry fall y v) (of look) v n (most_look + most_note) (λ y p. omega (arith, a y (omega arith), b y v (omega arith) h))

pub slack_over_more : (fall look : ℕ → ℕ) (v y : ℕ) → slack_over fall look v (y + 1) ≡ max (slack_over fall look v y) (slack_at_of (fall y) (look y) (look v))
unfolding slack_over
slack_over_more fall look v y = rw add-one

-- ---- the kept numbers of a list of edges

slack_over_same : (fall fall' look : ℕ → ℕ) (v n : ℕ) → ((y : ℕ) → y < n → fall y ≡ fall' y) → slack_over fall look v n ≡ slack_over fall' look v n
unfolding slack_over
slack_over_same fall fall' look v zero h = refl
slack_over_same fall fall' look v (suc n) h = ap₂ max (slack_over_same fall fall' look v n (λ y p. h y (omega arith))) (ap (λ (f : ℕ). slack_at_of f (look n) (look v)) (h n (omega arith)))

-- each slack is at most the largest, and the largest is 0 or one of them
slack_over_all : (fall look : ℕ → ℕ) (v n y : ℕ) → y < n → slack_at_of (fall y) (look y) (look v) ≤ slack_over fall look v n
unfolding slack_over
slack_over_all fall look v zero y h = absurd (not-suc-le-zero h)
slack_over_all fall look v (suc n) y h = ⊎_elim (λ p. omega (arith, slack_over_all fall look v n y p)) (λ e. rw e (omega arith)) (lt_or_eq (le_of_suc-le-suc h))

abbrev OneOf : (ℕ → ℕ) → (ℕ → ℕ) → ℕ → ℕ → Type 0
OneOf fall look v m = (m ≡ 0) ⊎ ((y : ℕ) × (m ≡ slack_at_of (fall y) (look y) (look v)))

slack_over_real : (fall look : ℕ → ℕ) (v n : ℕ) → OneOf fall look v (slack_over fall look v n)
unfolding slack_over
slack_over_real fall look v zero = inl refl
slack_over_real fall look v (suc n) = ⊎_elim (λ h. inr (n, omega arith)) (λ h. subst (OneOf fall look v) (omega arith) (slack_over_real fall look v n)) (lt_or_ge (slack_over fall look v n) (slack_at_of (fall n) (look n) (look v)))

module _ (es : List Edge) (low : (y v : ℕ) (k : ℤ) → Has y v k es → down k ≤ most_back) where
  -- no note is above the largest
  pub fall_small : (y v : ℕ) → fall_of es y v ≤ most_note
  unfolding falling
  fall_small y v = ⊎_elim (λ e. omega arith) (λ q. omega (arith, q.2, low y v q.0 q.1)) (note_real falling y v es)

module _ (es : List Edge) (S : ℕ) (ends : Within (Among es) S) (few : S ≤ most_streams) (high : (y v : ℕ) (k : ℤ) → Has y v k es → up k ≤ most_ahead) where
  slack_kept : (look : ℕ → ℕ) (v : ℕ) → Kept (Among es) look v (suc (slack_over (λ y. fall_of es y v) look v most_streams))
  unfolding falling
  slack_kept look v = record { some = omega arith; all = all; real = ⊎_elim (λ e. inl (omega arith)) real (slack_over_real (λ y. fall_of es y v) look v most_streams) }
    where
      there : (n : ℕ) → 1 ≤ n → n ≡ 0 → ⊥
      there n h e = omega arith

      all : (y : ℕ) (k : ℤ) → Has y v k es → look y + down k + 1 ≤ suc (slack_over (λ y. fall_of es y v) look v most_streams) + (up k + look v)
      all y k h = omega (
        arith,
        slack_over_all (λ y. fall_of es y v) look v most_streams y (omega (arith, (ends y v k h).0)),
        note_all falling y v h,
        high y v k h,
        slack_there (fall_of es y v) (look y) (look v) (there (fall_of es y v) (omega (arith, note_all falling y v h, high y v k h))),
      )

      at_edge : (y m : ℕ) → m ≡ slack_at_of (fall_of es y v) (look y) (look v) → NoteOf falling y v es (fall_of es y v)
          → (suc m ≡ 1) ⊎ ((y : ℕ) × (k : ℤ) × Has y v k es × (look y + down k + 1 ≡ suc m + (up k + look v)))
      at_edge y m e (inl z) = inl (omega (arith, e ∙ ap (λ (f : ℕ). slack_at_of f (look y) (look v)) z))
      at_edge y m e (inr q) = ⊎_elim (λ h. inl (omega arith))
          (λ h. inr (y, q.0, q.1, omega (arith, high y v q.0 q.1, q.2, e ∙ slack_there (fall_of es y v) (look y) (look v) (there (fall_of es y v) (omega (arith, q.2, high y v q.0 q.1))))))
          (lt_or_ge m 1)

      real : (y : ℕ) × (slack_over (λ y. fall_of es y v) look v most_streams ≡ slack_at_of (fall_of es y v) (look y) (look v))
          → (suc (slack_over (λ y. fall_of es y v) look v most_streams) ≡ 1) ⊎ ((y : ℕ) × (k : ℤ) × Has y v k es × (look y + down k + 1 ≡ suc (slack_over (λ y. fall_of es y v) look v most_streams) + (up k + look v)))
      real q = at_edge q.0 _ q.1 (note_real falling q.0 v es)

  -- from an array that holds `fall_of`, the kept numbers of the edges
  pub kept_over_edges : (look : List ℕ) (fall : List (List ℕ)) (v : ℕ) → ((y : ℕ) → y < most_streams → entry fall y v ≡ fall_of es y v) → kept_over look fall v ≡ kept_from es (λ y. get_or look y 0) v
  unfolding kept_over
  kept_over_edges look fall v h = ap suc (slack_over_same (λ y. entry fall y v) (λ y. fall_of es y v) (λ y. get_or look y 0) v most_streams h) ∙ kept_one (slack_kept (λ y. get_or look y 0) v) (kept_is (λ y. get_or look y 0) v es)
