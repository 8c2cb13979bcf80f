-- Store words past the announced number change no answer: two stores that agree on the announced words get the same answer, and agree on
-- them again; so two runs of the same calls give the same throughout.
-- Assumes nothing.
use Prim.Native.Nat.{ℕ, zero, suc, ◌+◌, ◌-◌, ◌%◌, ◌≤◌, ◌<◌}
use mathlib.Core.Path.{◌≡◌, refl, sym, ap₂, ◌∙◌}
use mathlib.Core.Bool.{Bool, true, false, cond}
use mathlib.Core.List.{List, [], ◌∷◌, ◌++◌}
use mathlib.Core.Logic.{◌⊎◌, inl, inr}
use lib.ListN.{length, take, drop, replicate, length-append, length-replicate}
use lib.Seq.{take_at}
use native.Mathlib.Omega.{arith}
use borrow.Author.Tests.{le-leb}
use lib.Dec.{eqb}
use native.Mathlib.Nat.{mod-lt}
use Rattle.basis.proofs.Tests.{true_false, lt_or_ge}
use Rattle.lola.specs.Expressions.{Spec, target}
use Rattle.lola.specs.Graph.{Edge}
use Rattle.basis.specs.Given.{Given}
use Rattle.run.specs.Run.{Plan, Announced, words, view, slot_on, due_of, store_after, given_on, reading, Rec, Call, row, close, drain, refuse, turn, accepts, answered, answer, opened, Alike, turns_of, Run, opening, taken, refused}
use Rattle.run.specs.Demands.{SamePoint}
use Rattle.run.proofs.Runs.{turn_length}
use Rattle.lola.specs.Schedule.{Schedule}
use Rattle.run.specs.Keeps.{Keeps}
use Rattle.run.specs.Turn.{due, fetch, due_within_of, due_value}
use Rattle.run.proofs.Calls.{answered_yes, refused_store, lent_same}
use Rattle.lola.proofs.Choices.{choose_lt, choose_ge}
use Rattle.run.proofs.Gathers.{gather_cong}
use Rattle.lola.proofs.References.{value_cong, refer_same}
use Rattle.run.proofs.Stores.{write_same}

-- stores that hold the same values have the same due
module _ {W F : Type 0} (s : Spec W F) (look rank kept : ℕ → ℕ) (sch : Schedule s look rank) (kp : Keeps s look kept) (blank : W) (n t : ℕ) (row : ℕ → W) (store store' : ℕ → ℕ → W)
    (alike : (v i : ℕ) → v < s.streams → i < kept v → store v i ≡ store' v i) where
  abbrev due_on : (ℕ → ℕ → W) → ℕ → ℕ → W
  due_on = due_within_of s look kept blank n t row

  fetch_same : (f w q : ℕ) → w < s.streams → due_on store f w ≡ due_on store' f w → fetch look kept t store (due_on store f) w q ≡ fetch look kept t store' (due_on store' f) w q
  unfolding fetch
  fetch_same f w q l e = ap₂ (λ (a b : W). cond (eqb (q + look w) t) a b) e (alike w (q % kept w) l (mod-lt q (kp.some w l)))

  within_same : (f v : ℕ) → v < s.streams → due_on store f v ≡ due_on store' f v
  unfolding due_within_of
  within_same zero v l = refl
  within_same (suc f) v l = go (lt_or_ge v s.inputs) (within_same f)
    where
      go : (v < s.inputs) ⊎ (s.inputs ≤ v) → ((w : ℕ) → w < s.streams → due_on store f w ≡ due_on store' f w) → due_on store (suc f) v ≡ due_on store' (suc f) v
      go (inl x) ih = choose_lt v s.inputs _ _ x ∙ sym (choose_lt v s.inputs _ _ x)
      go (inr y) ih =
          choose_ge v s.inputs _ _ y
          ∙ value_cong s.ops _ _ (s.equation v) (λ r i.
          let e : Edge s v r = record { output = y; stream = l; occurs = i } in
          let lw : target r < s.streams = sch.named v r e in
          refer_same _ _ n (t - look v) r (λ q. fetch_same f (target r) q lw (ih (target r) lw)))
          ∙ sym (choose_ge v s.inputs _ _ y)

  pub due_same_store : (v : ℕ) → v < s.streams → due_value s look kept blank n t row store v ≡ due_value s look kept blank n t row store' v
  unfolding due_value
  due_same_store v l = within_same s.streams v l

module _ {W B F : Type 0} (p : Plan W B F) (rank : ℕ → ℕ) (Fits : ℕ → W → Type 0) (an : Announced p rank Fits) (st st' : List B) (alike : Alike (words p) st st') where
  view_same : (v i : ℕ) → v < p.spec.streams → i < p.kept v → view p st v i ≡ view p st' v i
  view_same v i l h = an.laid.reads st st' v i l h alike.same

  module _ (n t : ℕ) (ws : List B) where
    same_due : (v : ℕ) → v < p.spec.streams → due_of p n t ws st v ≡ due_of p n t ws st' v
    same_due = due_same_store p.spec p.look rank p.kept an.schedule an.keeps p.blank n t _ (view p st) (view p st') view_same

    -- a turn gives the same on both, and leaves them alike
    pub turn_same : (c : Rec) → ((turn p n t ws st c).given ≡ (turn p n t ws st' c).given) × Alike (words p) (turn p n t ws st c).store (turn p n t ws st' c).store
    unfolding turn store_after given_on
    turn_same c = (
      gather_cong p.look n n t _ _ (p.spec.streams - p.spec.inputs) p.spec.inputs (λ v. refl) (λ v a b d. same_due v (omega arith)),
      record {
        same = write_same p.layout p.spec.streams p.kept Fits an.laid (slot_on p t) (λ v l. mod-lt (t - p.look v) (an.keeps.some v l)) (due p.look n t) _ _ st st' alike.same same_due p.spec.streams (omega arith);
        long = omega (arith, alike.long, turn_length p rank Fits an n t ws st c);
        long' = omega (arith, alike.long', turn_length p rank Fits an n t ws st' c);
      },
    )

  -- Two stores alike: of an accepted call the same values and record, and stores alike again.
  answered_same : (k : Call B) (c : Rec) →
      ((answered p k c st).given ≡ (answered p k c st').given) × ((answered p k c st).after ≡ (answered p k c st').after) × Alike (words p) (answered p k c st).store (answered p k c st').store
  unfolding answered turn
  answered_same (row ws out) c = let x = turn_same (suc c.rows) c.rows ws c in (x.0, refl, x.1)
  answered_same close c = (refl, refl, alike)
  answered_same (drain out) c = let x = turn_same c.rows (c.rows + c.done) [] c in (x.0, refl, x.1)

  accepts_same : (k : Call B) (c : Rec) → accepts p k c st ≡ accepts p k c st'
  accepts_same (row ws out) c = rw (le-leb (words p) (length st) alike.long, le-leb (words p) (length st') alike.long')
  accepts_same close c = refl
  accepts_same (drain out) c = rw (le-leb (words p) (length st) alike.long, le-leb (words p) (length st') alike.long')

  -- store words past the announced number change no answer
  pub answer_same : (k : Call B) (c : Rec) →
      ((answer p k c st).accepted ≡ (answer p k c st').accepted) × ((answer p k c st).after ≡ (answer p k c st').after)
      × ((answer p k c st).given ≡ (answer p k c st').given) × Alike (words p) (answer p k c st).store (answer p k c st').store
  unfolding answer
  answer_same k c = go (accepts p k c st) (accepts p k c st') (accepts_same k c)
    where
      go : (x y : Bool) → x ≡ y →
          ((cond x (answered p k c st) (refuse p c st)).accepted ≡ (cond y (answered p k c st') (refuse p c st')).accepted)
          × ((cond x (answered p k c st) (refuse p c st)).after ≡ (cond y (answered p k c st') (refuse p c st')).after)
          × ((cond x (answered p k c st) (refuse p c st)).given ≡ (cond y (answered p k c st') (refuse p c st')).given)
          × Alike (words p) (cond x (answered p k c st) (refuse p c st)).store (cond y (answered p k c st') (refuse p c st')).store
      go true true e = let s = answered_same k c in (answered_yes p k c st ∙ sym (answered_yes p k c st'), s.1, s.0, s.2)
      go false false e = (refl, refl, refl, alike)
      go true false e = true_false refl e
      go false true e = true_false e refl

-- "Opening puts 0 into exactly the announced store words": two stores are alike then, whatever they held
pub zeroed_alike : {B : Type 0} (n : ℕ) (z : B) (st st' : List B) → Alike n (replicate n z ++ drop n st) (replicate n z ++ drop n st')
zeroed_alike {B} n z st st' = record { same = zeros st ∙ sym (zeros st'); long = long st; long' = long st' }
  where
    zeros : (l : List B) → take n (replicate n z ++ drop n l) ≡ replicate n z
    zeros l = take_at (replicate n z) _ n (length-replicate n z)

    long : (l : List B) → n ≤ length (replicate n z ++ drop n l)
    long l = omega (arith, length-append (replicate n z) (drop n l), length-replicate n z)

-- ---- two runs of the same accepted calls, each on a store of its own

module _ {W B F : Type 0} (p : Plan W B F) (rank : ℕ → ℕ) (Fits : ℕ → W → Type 0) (an : Announced p rank Fits) where
  opened_alike : (st₀ st₁ : List B) → Alike (words p) (opened p st₀) (opened p st₁)
  unfolding opened
  opened_alike = zeroed_alike (words p) p.zero_word

  -- one accepted call more
  same_more : (k : Call B) {c d : Rec} {st st' : List B} {log log' : List (List (Given W))} → SamePoint p c d st st' log log' →
      SamePoint p (answer p k c st).after (answer p k d st').after (answer p k c st).store (answer p k d st').store (log ++ turns_of k (answer p k c st).given) (log' ++ turns_of k (answer p k d st').given)
  same_more k {c} {d} {st} {st'} s =
      let x = answer_same p rank Fits an st st' s.stores k c in
      rw (← s.record_same) (record {
        record_same = x.1;
        given_same = ap₂ (λ (l : List (List (Given W))) (g : List (Given W)). l ++ turns_of k g) s.given_same x.2;
        stores = x.3;
      })

  first : (st₀ : List B) {st₁ : List B} {d : Rec} {st' : List B} {log' : List (List (Given W))} → Run p st₁ [] d st' log' →
      SamePoint p (record { rows = 0; phase = reading; done = 0 }) d (opened p st₀) st' [] log'
  first st₀ {st₁} (opening b) = record { record_same = refl; given_same = refl; stores = opened_alike st₀ st₁ }
  first st₀ (refused s q k c' {lent = lent} l h) = rw (lent_same l (refused_store q k c' lent h)) (first st₀ s)

  next : {st₁ : List B} {ks : List (Call B)} (c : Rec) (st : List B) (log : List (List (Given W))) (k : Call B) →
      ((d : Rec) (st' : List B) (log' : List (List (Given W))) → Run p st₁ ks d st' log' → SamePoint p c d st st' log log') →
      {d : Rec} {st' : List B} {log' : List (List (Given W))} → Run p st₁ (k ∷ ks) d st' log' →
      SamePoint p (answer p k c st).after d (answer p k c st).store st' (log ++ turns_of k (answer p k c st).given) log'
  next c st log k ih (taken s k' h) = same_more k' (ih _ _ _ s)
  next c st log k ih (refused s q k' c' {lent = lent} l h) = rw (lent_same l (refused_store q k' c' lent h)) (next c st log k ih s)

  pub two_runs : {st₀ st₁ : List B} {ks : List (Call B)} {c d : Rec} {st st' : List B} {log log' : List (List (Given W))} →
      Run p st₀ ks c st log → Run p st₁ ks d st' log' → SamePoint p c d st st' log log'
  two_runs {st₀ = st₀} (opening a) s = first st₀ s
  two_runs (taken {c = c} {st = st} {log = log} r k h) s = next c st log k (λ d st' log' s. two_runs r s) s
  two_runs (refused r q k c' {lent = lent} l h) s = rw (lent_same l (refused_store q k c' lent h)) (two_runs r s)
