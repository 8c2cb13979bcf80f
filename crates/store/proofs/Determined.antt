-- What laying a frame determines of it. The parts past the last stream, the lap of a stream that the turn has no position of, and the position
-- are left open: nobody reads them before they are written.
-- Assumes nothing.
use Prim.Native.Nat.{ℕ, ◌≤◌, ◌<◌}
use mathlib.Core.Path.{◌≡◌, sym, ◌∙◌}
use mathlib.Core.List.{List}
use Rattle.basis.specs.Firsts.{of}
use Rattle.store.specs.declared.Frame.{Frame}
use Rattle.store.specs.Store.{part_of, Framed}

-- two frames of one turn, where they are read
pub record SameFrame (look : List ℕ) (streams t : ℕ) (a b : Frame) : Type 0 where
  pub laps : (v : ℕ) → v < streams → of look v ≤ t → (part_of a v).lap ≡ (part_of b v).lap
  pub starts : (v : ℕ) → v < streams → (part_of a v).start ≡ (part_of b v).start
  pub keeps : (v : ℕ) → v < streams → (part_of a v).kept ≡ (part_of b v).kept
  pub typed : (v : ℕ) → v < streams → (part_of a v).kind ≡ (part_of b v).kind
  pub known : a.known ≡ b.known

pub framed_once : {types look kept : List ℕ} {streams n t : ℕ} {a b : Frame} → Framed types look kept streams n t a → Framed types look kept streams n t b → SameFrame look streams t a b
framed_once x y = let f = x.laid in let g = y.laid in record {
  laps = λ v l h. f.laps v l h ∙ sym (g.laps v l h);
  starts = λ v l. f.starts v l ∙ sym (g.starts v l);
  keeps = λ v l. f.keeps v l ∙ sym (g.keeps v l);
  typed = λ v l. f.typed v l ∙ sym (g.typed v l);
  known = x.known ∙ sym y.known;
}
