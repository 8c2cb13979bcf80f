-- Values are of their streams' types, so that the store gives back what was put into it.
-- Assumes nothing.
use Prim.Native.Nat.{ℕ, zero, suc, ◌+◌, ◌-◌, ◌%◌, ◌≤◌, ◌<◌}
use mathlib.Core.Path.{◌≡◌, refl, subst}
use mathlib.Core.Bool.{Bool, true, false, cond}
use mathlib.Core.List.{List}
use mathlib.Core.Logic.{◌⊎◌, inl, inr}
use lib.ListN.{get_or}
use native.Mathlib.Omega.{arith}
use borrow.Author.Tests.{eqb-true, lt-ltb, le-ltb}
use lib.Dec.{eqb}
use lib.IntN.{ℤ}
use native.Mathlib.Nat.{mod-lt}
use Rattle.basis.specs.Parts.{up, down}
use Rattle.basis.proofs.Tests.{lt_or_ge}
use Rattle.lola.specs.Expressions.{Ref, now, at, Spec, target, rise, fall}
use Rattle.lola.specs.Graph.{Edge}
use Rattle.lola.specs.Models.{inside, refer, Model}
use Rattle.run.specs.Run.{Plan, Typed, Announced, view, due_of}
use Rattle.lola.specs.Schedule.{Schedule}
use Rattle.run.specs.Turn.{due, fetch, due_within_of, due_value}
use Rattle.run.proofs.Due.{due_facts}
use Rattle.lola.proofs.References.{inside_place}
use Rattle.lola.proofs.Schedules.{cost, cheaper}

pub refer_fits : {W : Type 0} (Fits : ℕ → W → Type 0) (σ : ℕ → ℕ → W) (N j : ℕ) (r : Ref W) → j < N →
    ((v : ℕ) (k : ℤ) (d : W) → r ≡ at v k d → Fits v d) →
    ((q : ℕ) → q + fall r ≡ j + rise r → q < N → Fits (target r) (σ (target r) q)) →
    Fits (target r) (refer σ N j r)
unfolding refer
refer_fits Fits σ N j (now v) jN dflt h = h j refl jN
refer_fits {W} Fits σ N j (at v k d) jN dflt h = go (inside N j k) refl
  where
    go : (b : Bool) → inside N j k ≡ b → Fits v (cond b (σ v (j + up k - down k)) d)
    go true e = let w = inside_place N j k e in h (j + up k - down k) w.0 w.1
    go false e = dflt v k d refl

-- Each value of a model is of its stream's type, where the inputs', the defaults and what the equations give are.
module _ {W F : Type 0} (s : Spec W F) (look rank : ℕ → ℕ) (Fits : ℕ → W → Type 0) (sch : Schedule s look rank) (ty : Typed s Fits) (N : ℕ) (input σ : ℕ → ℕ → W) (m : Model s N input σ) (in_ok : (x j : ℕ) → x < s.streams → j < N → Fits x (input x j)) where
  fits_below : (b v j : ℕ) → cost s look rank v j < b → v < s.streams → j < N → Fits v (σ v j)
  fits_below zero v j c l h = absurd (omega arith)
  fits_below (suc b) v j c l h = go (lt_or_ge v s.inputs) (fits_below b)
    where
      go : (v < s.inputs) ⊎ (s.inputs ≤ v) → ((w q : ℕ) → cost s look rank w q < b → w < s.streams → q < N → Fits w (σ w q)) → Fits v (σ v j)
      go (inl x) ih = rw (m.given v j x h) (in_ok v j l h)
      go (inr y) ih =
          rw (m.holds v j y l h)
          (ty.equations v y l (refer σ N j) (λ r i.
          let e : Edge s v r = record { output = y; stream = l; occurs = i } in
          refer_fits Fits σ N j r h
          (λ w k d q. ty.defaults v w k d (subst (λ (x : Ref W). Edge s v x) q e))
          (λ q u z. ih (target r) q (omega (arith, cheaper s look rank sch v r j q e u)) (sch.named v r e) z)))

  pub model_fits : (v j : ℕ) → v < s.streams → j < N → Fits v (σ v j)
  model_fits v j l h = fits_below (suc (cost s look rank v j)) v j (omega arith) l h

-- The value due for v is of v's type, whatever the store holds.
module _ {W B F : Type 0} (p : Plan W B F) (rank : ℕ → ℕ) (Fits : ℕ → W → Type 0) (an : Announced p rank Fits) (n t : ℕ) (ws st : List B) where
  abbrev within : ℕ → ℕ → W
  within = due_within_of p.spec p.look p.kept p.blank n t (λ x. p.get x (get_or ws x p.zero_word)) (view p st)

  fetch_fits : (fresh : ℕ → W) (w q : ℕ) → w < p.spec.streams → (q + p.look w ≡ t → Fits w (fresh w)) → Fits w (fetch p.look p.kept t (view p st) fresh w q)
  unfolding fetch
  fetch_fits fresh w q l h = go (eqb (q + p.look w) t) refl
    where
      go : (b : Bool) → eqb (q + p.look w) t ≡ b → Fits w (cond b (fresh w) (view p st w (q % p.kept w)))
      go true e = h (eqb-true (q + p.look w) t e)
      go false e = an.laid.typed st w _ l (mod-lt q (an.keeps.some w l))

  within_fits : (f v j : ℕ) → rank v < f → v < p.spec.streams → j + p.look v ≡ t → j < n → Fits v (within f v)
  unfolding due_within_of
  within_fits zero v j a l e h = absurd (omega arith)
  within_fits (suc f) v j a l e h = go (lt_or_ge v p.spec.inputs) (within_fits f)
    where
      go : (v < p.spec.inputs) ⊎ (p.spec.inputs ≤ v) → ((w q : ℕ) → rank w < f → w < p.spec.streams → q + p.look w ≡ t → q < n → Fits w (within f w)) → Fits v (within (suc f) v)
      go (inl x) ih = rw (lt-ltb v p.spec.inputs x) (an.reads v _ l)
      go (inr y) ih =
          let j' : t - p.look v ≡ j = omega arith in
          rw (le-ltb v p.spec.inputs y, j')
          (an.typed.equations v y l _ (λ r i.
          let d : Edge p.spec v r = record { output = y; stream = l; occurs = i } in
          let lw : target r < p.spec.streams = an.schedule.named v r d in
          refer_fits Fits _ n j r h
          (λ w k x q. an.typed.defaults v w k x (subst (λ (x : Ref W). Edge p.spec v x) q d))
          (λ q u z. fetch_fits (within f) (target r) q lw (λ s. ih (target r) q (omega (arith, an.schedule.tight v r d (omega arith))) lw s z))))

  pub due_fits : (v : ℕ) → v < p.spec.streams → due p.look n t v ≡ true → Fits v (due_of p n t ws st v)
  unfolding due_value
  due_fits v l d =
      let f = due_facts p.look n t v d in
      within_fits p.spec.streams v (t - p.look v) (an.schedule.small v l) l (omega (arith, f.0)) (omega (arith, f.0, f.1))
