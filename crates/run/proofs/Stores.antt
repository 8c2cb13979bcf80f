-- What is written into a store, over any layout: `write` puts each named stream's value into its slot and leaves everything else.
-- Assumes nothing.
use Prim.Native.Nat.{ℕ, zero, suc, ◌≤◌, ◌<◌}
use mathlib.Core.Path.{◌≡◌, refl, sym, ap, ap₂, ◌∙◌}
use mathlib.Core.Bool.{Bool, true, false, ◌&&◌, cond}
use mathlib.Core.List.{List}
use mathlib.Core.Logic.{◌⊎◌, inl, inr}
use lib.ListN.{length, take, drop}
use native.Mathlib.Omega.{arith}
use borrow.Author.Tests.{eqb-true, eqb-false}
use lib.Dec.{eqb}
use native.Mathlib.Nat.{eq-or-lt_of_le}
use Rattle.run.specs.Layout.{Layout, Lays}
use Rattle.run.specs.Run.{write}

-- who is written, and with what, says what the store becomes
pub write_cong : {W B : Type 0} (l : Layout W B) (which which' : ℕ → Bool) (slot : ℕ → ℕ) (f : ℕ → W) (m : ℕ) (st : List B) →
    ((v : ℕ) → v < m → which v ≡ which' v) → write l which slot f m st ≡ write l which' slot f m st
unfolding write
write_cong l which which' slot f zero st e = refl
write_cong {W} {B} l which which' slot f (suc m) st e =
    let ih = write_cong l which which' slot f m st (λ v h. e v (omega arith)) in
    ap₂ (λ (b : Bool) (a : List B). cond b (l.write a m (slot m) (f m)) a) (e m (omega arith)) ih

-- no one is written
pub write_none : {W B : Type 0} (l : Layout W B) (slot : ℕ → ℕ) (f : ℕ → W) (m : ℕ) (st : List B) → write l (λ v. false) slot f m st ≡ st
unfolding write
write_none l slot f zero st = refl
write_none l slot f (suc m) st = write_none l slot f m st

module _ {W B : Type 0} (l : Layout W B) (S : ℕ) (kept : ℕ → ℕ) (Fits : ℕ → W → Type 0) (laid : Lays l S kept Fits) (slot : ℕ → ℕ) (small : (v : ℕ) → v < S → slot v < kept v) where
  pub write_length : (which : ℕ → Bool) (f : ℕ → W) (m : ℕ) (st : List B) → m ≤ S → length (write l which slot f m st) ≡ length st
  unfolding write
  write_length which f zero st b = refl
  write_length which f (suc m) st b = go (which m) (write_length which f m st (omega arith))
    where
      go : (c : Bool) → length (write l which slot f m st) ≡ length st → length (cond c (l.write (write l which slot f m st) m (slot m) (f m)) (write l which slot f m st)) ≡ length st
      go true ih = laid.size _ m (slot m) (f m) b (small m b) ∙ ih
      go false ih = ih

  pub write_rest : (which : ℕ → Bool) (f : ℕ → W) (m : ℕ) (st : List B) → m ≤ S → drop l.words (write l which slot f m st) ≡ drop l.words st
  unfolding write
  write_rest which f zero st b = refl
  write_rest which f (suc m) st b = go (which m) (write_rest which f m st (omega arith))
    where
      go : (c : Bool) → drop l.words (write l which slot f m st) ≡ drop l.words st → drop l.words (cond c (l.write (write l which slot f m st) m (slot m) (f m)) (write l which slot f m st)) ≡ drop l.words st
      go true ih = laid.rest _ m (slot m) (f m) b (small m b) ∙ ih
      go false ih = ih

  -- a slot that is not the one of m
  step_other : (which : ℕ → Bool) (f : ℕ → W) (m v i : ℕ) (st : List B) → m < S → v < S → i < kept v → (v ≡ m → i ≡ slot m → ⊥) → l.read (write l which slot f (suc m) st) v i ≡ l.read (write l which slot f m st) v i
  unfolding write
  step_other which f m v i st b c h ne = go (which m)
    where
      go : (c : Bool) → l.read (cond c (l.write (write l which slot f m st) m (slot m) (f m)) (write l which slot f m st)) v i ≡ l.read (write l which slot f m st) v i
      go true = laid.others _ m (slot m) (f m) v i b (small m b) c h ne
      go false = refl

  -- streams that come later are not yet written
  later : (which : ℕ → Bool) (f : ℕ → W) (m v i : ℕ) (st : List B) → m ≤ v → v < S → i < kept v → l.read (write l which slot f m st) v i ≡ l.read st v i
  unfolding write
  later which f zero v i st a c h = refl
  later which f (suc m) v i st a c h = step_other which f m v i st (omega arith) c h (λ e d. omega arith) ∙ later which f m v i st (omega arith) c h

  -- m's own slots, where a is the store before
  own : (f : ℕ → W) (m i : ℕ) (st a : List B) → m < S → i < kept m → l.words ≤ length a → l.read a m i ≡ l.read st m i → (b : Bool) → (b ≡ true → Fits m (f m)) →
      l.read (cond b (l.write a m (slot m) (f m)) a) m i ≡ cond (b && eqb i (slot m)) (f m) (l.read st m i)
  own f m i st a ms h z e false fit = e
  own f m i st a ms h z e true fit = go (eqb i (slot m)) refl
    where
      go : (c : Bool) → eqb i (slot m) ≡ c → l.read (l.write a m (slot m) (f m)) m i ≡ cond (eqb i (slot m)) (f m) (l.read st m i)
      go true k =
          let q : i ≡ slot m = eqb-true i (slot m) k in
          rw (k, q) (laid.back a m (slot m) (f m) ms (small m ms) (fit refl) z)
      go false k = rw k (laid.others a m (slot m) (f m) m i ms (small m ms) ms h (λ x y. eqb-false i (slot m) k y) ∙ e)

  -- what is read of a store that was written
  pub write_at : (which : ℕ → Bool) (f : ℕ → W) → ((v : ℕ) → v < S → which v ≡ true → Fits v (f v)) → (m v i : ℕ) (st : List B) → m ≤ S → v < m → i < kept v → l.words ≤ length st →
      l.read (write l which slot f m st) v i ≡ cond (which v && eqb i (slot v)) (f v) (l.read st v i)
  unfolding write
  write_at which f fit zero v i st b h k z = absurd (omega arith)
  write_at which f fit (suc m) v i st b h k z = go (eq-or-lt_of_le h) (write_at which f fit m v i st (omega arith))
    where
      go : (suc v ≡ suc m) ⊎ (suc v < suc m) → (v < m → i < kept v → l.words ≤ length st → l.read (write l which slot f m st) v i ≡ cond (which v && eqb i (slot v)) (f v) (l.read st v i)) →
          l.read (write l which slot f (suc m) st) v i ≡ cond (which v && eqb i (slot v)) (f v) (l.read st v i)
      go (inl e) ih =
          let e' : v ≡ m = omega arith in
          let k' : i < kept m = rw (← e') k in
          rw e' (own f m i st (write l which slot f m st) b k' (omega (arith, write_length which f m st (omega arith))) (later which f m m i st (omega arith) b k') (which m) (fit m b))
      go (inr q) ih = step_other which f m v i st b (omega arith) k (λ e d. omega arith) ∙ ih (omega arith) k z

  -- one stream more is written
  pub write_more : (which which' : ℕ → Bool) (f : ℕ → W) (v : ℕ) → v < S → which v ≡ false → which' v ≡ true → ((w : ℕ) → (w ≡ v → ⊥) → which' w ≡ which w) →
      (m : ℕ) (st : List B) → m ≤ S → v < m → l.write (write l which slot f m st) v (slot v) (f v) ≡ write l which' slot f m st
  unfolding write
  write_more which which' f v lv old new same zero st b h = absurd (omega arith)
  write_more which which' f v lv old new same (suc m) st b h = go (eq-or-lt_of_le h) (write_more which which' f v lv old new same m st (omega arith))
    where
      -- m comes after v
      past : (v ≡ m → ⊥) → (c : Bool) → l.write (write l which slot f m st) v (slot v) (f v) ≡ write l which' slot f m st →
          l.write (cond c (l.write (write l which slot f m st) m (slot m) (f m)) (write l which slot f m st)) v (slot v) (f v) ≡ cond c (l.write (write l which' slot f m st) m (slot m) (f m)) (write l which' slot f m st)
      past ne true ih = laid.swap _ m (slot m) (f m) v (slot v) (f v) b (small m b) lv (small v lv) ne ∙ ap (λ (a : List B). l.write a m (slot m) (f m)) ih
      past ne false ih = ih

      go : (suc v ≡ suc m) ⊎ (suc v < suc m) → (v < m → l.write (write l which slot f m st) v (slot v) (f v) ≡ write l which' slot f m st) →
          l.write (write l which slot f (suc m) st) v (slot v) (f v) ≡ write l which' slot f (suc m) st
      go (inl e) ih =
          let e' : m ≡ v = omega arith in
          rw (e', old, new) (ap (λ (a : List B). l.write a v (slot v) (f v)) (write_cong l which which' slot f v st (λ w k. sym (same w (λ z. omega arith)))))
      go (inr q) ih =
          let ne : m ≡ v → ⊥ = λ z. omega arith in
          rw (same m ne) (past (λ z. omega arith) (which m) (ih (omega arith)))

  -- the announced words alone say what they become
  pub write_same : (which : ℕ → Bool) (f g : ℕ → W) (st st' : List B) → take l.words st ≡ take l.words st' → ((v : ℕ) → v < S → f v ≡ g v) → (m : ℕ) → m ≤ S →
      take l.words (write l which slot f m st) ≡ take l.words (write l which slot g m st')
  unfolding write
  write_same which f g st st' same e zero b = same
  write_same which f g st st' same e (suc m) b = go (which m) (write_same which f g st st' same e m (omega arith))
    where
      x : List B
      x = write l which slot f m st

      y : List B
      y = write l which slot g m st'

      go : (c : Bool) → take l.words x ≡ take l.words y → take l.words (cond c (l.write x m (slot m) (f m)) x) ≡ take l.words (cond c (l.write y m (slot m) (g m)) y)
      go true ih = laid.writes x y m (slot m) (f m) b (small m b) ih ∙ ap (λ (z : W). take l.words (l.write y m (slot m) z)) (e m b)
      go false ih = ih

-- whatever each single write keeps
pub write_keeps : {W B : Type 0} (l : Layout W B) (S : ℕ) (kept : ℕ → ℕ) (P : List B → Type 0) → ((st : List B) (v i : ℕ) (x : W) → v < S → i < kept v → P st → P (l.write st v i x)) →
    (which : ℕ → Bool) (slot : ℕ → ℕ) → ((v : ℕ) → v < S → slot v < kept v) → (f : ℕ → W) (m : ℕ) (st : List B) → m ≤ S → P st → P (write l which slot f m st)
unfolding write
write_keeps l S kept P step which slot small f zero st b h = h
write_keeps l S kept P step which slot small f (suc m) st b h = go (which m) (write_keeps l S kept P step which slot small f m st (omega arith) h)
  where
    go : (c : Bool) → P (write l which slot f m st) → P (cond c (l.write (write l which slot f m st) m (slot m) (f m)) (write l which slot f m st))
    go true ih = step _ m (slot m) (f m) b (small m b) ih
    go false ih = ih
