-- What noting an equation leaves of what the scan kept of it: no note, so that the next equation finds what the first one found.
-- Assumes nothing.
use Rattle.std.specs.Prelude.{ℕ, ◌≤◌, ◌<◌, ◌≡◌, cond, List, [], get_or, eqb}
use Rattle.limits.specs.Limits.{most_streams}
use Rattle.basis.specs.Rows.{entry, put, Shaped}
use Rattle.expression.specs.Seen.{seen_rise, seen_fall, seen_entries}

-- the notes of the largest and of the smallest weight, as functions of the stream
abbrev pub rises : List (List ℕ) → ℕ → ℕ
rises seen v = entry seen v seen_rise

abbrev pub falls : List (List ℕ) → ℕ → ℕ
falls seen v = entry seen v seen_fall

-- the notes of v put to 0, where there are some
unfoldable pub wiped : ℕ → List (List ℕ) → List (List ℕ)
wiped v seen = cond (eqb (rises seen v) 0) seen (put (put seen v seen_rise 0) v seen_fall 0)

-- the notes of the streams below s are put to 0 and nothing else is changed; the note of the smallest weight where none stood without the other
pub record Forgotten (s : ℕ) (seen seen' : List (List ℕ)) : Type 0 where
  pub shape : Shaped most_streams seen_entries seen'
  pub others : (v i : ℕ) → (i ≡ seen_rise → ⊥) → (i ≡ seen_fall → ⊥) → entry seen' v i ≡ entry seen v i
  pub no_rise : (v : ℕ) → v < s → rises seen' v ≡ 0
  pub no_fall : (v : ℕ) → v < s → (rises seen v ≡ 0 → falls seen v ≡ 0) → falls seen' v ≡ 0
  pub past : (v : ℕ) → s ≤ v → get_or seen' v [] ≡ get_or seen v []
