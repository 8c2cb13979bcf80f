-- Of a trace of N rows each output's value for each position j < N is owed exactly once, on turn j plus its look-ahead.
-- Assumes nothing.
use Prim.Native.Nat.{ℕ, zero, suc, ◌+◌, ◌-◌, ◌≤◌, ◌<◌}
use mathlib.Core.Path.{◌≡◌, refl, sym, ap, ap₂, ◌∙◌}
use mathlib.Core.Bool.{Bool, true, false, ◌&&◌, cond}
use mathlib.Core.List.{List, [], ◌∷◌, ◌++◌, flatten, append-nil, append_assoc}
use mathlib.Core.Logic.{◌⊎◌, inl, inr}
use lib.ListN.{length, get_or, length-append, get_or-append}
use lib.Seq.{get_or_at}
use native.Mathlib.Omega.{arith}
use borrow.Author.Tests.{eqb-true, eq-eqb}
use lib.Dec.{eqb}
use native.Mathlib.Nat.{eq-or-lt_of_le}
use Rattle.run.specs.Demands.{given_for}
use Rattle.basis.specs.Given.{Given}
use Rattle.run.specs.Run.{Plan, gather, owed, owed_before}
use Rattle.run.specs.Turn.{due}
use Rattle.run.proofs.Due.{due_facts, due_from}

given_append : {W : Type 0} (y j : ℕ) (gs hs : List (Given W)) → given_for y j (gs ++ hs) ≡ given_for y j gs ++ given_for y j hs
unfolding given_for
given_append y j [] hs = refl
given_append {W} y j (g ∷ gs) hs = go (eqb g.stream y && eqb g.position j) (given_append y j gs hs)
  where
    go : (b : Bool) → given_for y j (gs ++ hs) ≡ given_for y j gs ++ given_for y j hs
        → cond b (g.word ∷ given_for y j (gs ++ hs)) (given_for y j (gs ++ hs)) ≡ cond b (g.word ∷ given_for y j gs) (given_for y j gs) ++ given_for y j hs
    go true e = ap (λ (l : List W). g.word ∷ l) e
    go false e = e

flatten_snoc : {A : Type 0} (ts : List (List A)) (l : List A) → flatten (ts ++ (l ∷ [])) ≡ flatten ts ++ l
unfolding flatten
flatten_snoc [] l = append-nil l
flatten_snoc (t ∷ ts) l = ap (λ (m : List _). t ++ m) (flatten_snoc ts l) ∙ sym (append_assoc t (flatten ts) l)

module _ {W : Type 0} (look : ℕ → ℕ) (n t : ℕ) (f : ℕ → W) (y j : ℕ) where
  abbrev here : ℕ → Bool
  here a = eqb a y && eqb (t - look a) j

  abbrev from : ℕ → ℕ → List W
  from k a = given_for y j (gather look n t f k a)

  -- one step of `gather`, by whether a is due
  step_due : (k a : ℕ) → due look n t a ≡ true → from (suc k) a ≡ cond (here a) (f a ∷ from k (suc a)) (from k (suc a))
  unfolding gather given_for
  step_due k a d = rw d

  step_not : (k a : ℕ) → due look n t a ≡ false → from (suc k) a ≡ from k (suc a)
  unfolding gather
  step_not k a d = rw d

  here_other : (a : ℕ) → (a ≡ y → t - look a ≡ j → ⊥) → here a ≡ false
  here_other a h = go (eqb a y) (eqb (t - look a) j) refl refl
    where
      go : (b c : Bool) → eqb a y ≡ b → eqb (t - look a) j ≡ c → b && c ≡ false
      go false c p q = refl
      go true false p q = refl
      go true true p q = absurd (h (eqb-true a y p) (eqb-true (t - look a) j q))

  -- another stream, or one that is not due for j, adds nothing
  step_other : (k a : ℕ) → (a ≡ y → due look n t a ≡ true → t - look a ≡ j → ⊥) → from (suc k) a ≡ from k (suc a)
  step_other k a h = go (due look n t a) refl
    where
      go : (b : Bool) → due look n t a ≡ b → from (suc k) a ≡ from k (suc a)
      go true d = step_due k a d ∙ rw (here_other a (λ q e. h q d e))
      go false d = step_not k a d

  -- none among streams that are not y, or where the turn is another
  none : (k a : ℕ) → ((v : ℕ) → a ≤ v → v < a + k → v ≡ y → due look n t v ≡ true → t - look v ≡ j → ⊥) → from k a ≡ []
  unfolding gather given_for
  none zero a h = refl
  none (suc k) a h = step_other k a (λ q d e. h a (omega arith) (omega arith) q d e) ∙ none k (suc a) (λ v b c. h v (omega arith) (omega arith))

  one : (k a : ℕ) → a ≤ y → y < a + k → j + look y ≡ t → j < n → from k a ≡ f y ∷ []
  one zero a b c e l = absurd (omega arith)
  one (suc k) a b c e l = go (eq-or-lt_of_le b) (one k (suc a))
    where
      go : (a ≡ y) ⊎ (a < y) → (suc a ≤ y → y < suc a + k → j + look y ≡ t → j < n → from k (suc a) ≡ f y ∷ []) → from (suc k) a ≡ f y ∷ []
      go (inl q) ih =
          let e' : j + look a ≡ t = rw q e in
          let x : here a ≡ true = rw (eq-eqb a y q, eq-eqb (t - look a) j (omega arith)) in
          step_due k a (due_from look n t a (omega arith) (omega arith))
          ∙ rw x (ap₂ (λ (v : W) (l : List W). v ∷ l) (ap f q) (none k (suc a) (λ v u w z. absurd (omega arith))))
      go (inr q) ih = step_other k a (λ z. absurd (omega arith)) ∙ ih q (omega arith) e l

module _ {W B F : Type 0} (p : Plan W B F) (σ : ℕ → ℕ → W) (N : ℕ) where
  pub owed_turns : (T : ℕ) → length (owed_before p σ N T) ≡ T
  unfolding owed_before
  owed_turns zero = refl
  owed_turns (suc T) = omega (arith, length-append (owed_before p σ N T) (owed p σ N T ∷ []), owed_turns T)

  -- what the turns owe, turn by turn
  pub owed_at : (T t : ℕ) → t < T → get_or (owed_before p σ N T) t [] ≡ owed p σ N t
  unfolding owed_before
  owed_at zero t h = absurd (omega arith)
  owed_at (suc T) t h = go (eq-or-lt_of_le h) (owed_at T t)
    where
      go : (suc t ≡ suc T) ⊎ (suc t < suc T) → (t < T → get_or (owed_before p σ N T) t [] ≡ owed p σ N t) → get_or (owed_before p σ N (suc T)) t [] ≡ owed p σ N t
      go (inl e) ih =
          let q : t ≡ T = omega arith in
          get_or_at (owed_before p σ N T) (owed p σ N T) [] [] t (owed_turns T ∙ sym q) ∙ ap (owed p σ N) (sym q)
      go (inr e) ih = get_or-append (owed_before p σ N T) (owed p σ N T ∷ []) [] t (omega (arith, owed_turns T)) ∙ ih (omega arith)

  module _ (y j : ℕ) (o : p.spec.inputs ≤ y) (l : y < p.spec.streams) (h : j < N) where
    pub owed_here : given_for y j (owed p σ N (j + p.look y)) ≡ σ y j ∷ []
    unfolding owed
    owed_here =
        let e : j + p.look y - p.look y ≡ j = omega arith in
        one p.look N (j + p.look y) _ y j (p.spec.streams - p.spec.inputs) p.spec.inputs o (omega arith) refl h ∙ ap (λ (q : ℕ). σ y q ∷ []) e

    owed_elsewhere : (t : ℕ) → (j + p.look y ≡ t → ⊥) → given_for y j (owed p σ N t) ≡ []
    unfolding owed
    owed_elsewhere t e =
        none p.look N t _ y j (p.spec.streams - p.spec.inputs) p.spec.inputs
        (λ v a b c d q. e (let u : p.look v ≡ p.look y = ap p.look c in omega (arith, (due_facts p.look N t v d).0)))

    -- in all turns up to T
    abbrev up_to : ℕ → List W
    up_to T = given_for y j (flatten (owed_before p σ N T))

    one_more : (T : ℕ) → up_to (suc T) ≡ up_to T ++ given_for y j (owed p σ N T)
    unfolding owed_before
    one_more T = ap (given_for y j) (flatten_snoc (owed_before p σ N T) (owed p σ N T)) ∙ given_append y j (flatten (owed_before p σ N T)) (owed p σ N T)

    -- not before turn j plus y's look-ahead
    owed_later : (T : ℕ) → T ≤ j + p.look y → up_to T ≡ []
    unfolding owed_before given_for flatten
    owed_later zero z = refl
    owed_later (suc T) z = one_more T ∙ ap₂ ◌++◌ (owed_later T (omega arith)) (owed_elsewhere T (λ e. omega arith))

    -- once, from that turn on
    pub owed_once : (T : ℕ) → j + p.look y < T → up_to T ≡ σ y j ∷ []
    owed_once zero z = absurd (omega arith)
    owed_once (suc T) z = go (eq-or-lt_of_le z) (owed_once T)
      where
        go : (suc (j + p.look y) ≡ suc T) ⊎ (suc (j + p.look y) < suc T) → (j + p.look y < T → up_to T ≡ σ y j ∷ []) → up_to (suc T) ≡ σ y j ∷ []
        go (inl e) ih =
            let q : j + p.look y ≡ T = omega arith in
            one_more T ∙ ap₂ ◌++◌ (owed_later T (omega arith)) (ap (λ (t : ℕ). given_for y j (owed p σ N t)) (sym q) ∙ owed_here)
        go (inr e) ih = one_more T ∙ ap₂ ◌++◌ (ih (omega arith)) (owed_elsewhere T (λ x. omega arith))
