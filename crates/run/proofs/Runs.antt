-- What is so at every point of a run: the store holds the model's values that are still needed, and what was given is what the model owes.
-- Assumes nothing.
use Prim.Native.Nat.{ℕ, suc, ◌+◌, ◌-◌, ◌%◌, ◌≤◌, ◌<◌}
use mathlib.Core.Path.{◌≡◌, refl, sym, ap, ap₂, ◌∙◌}
use mathlib.Core.Bool.{Bool, true, false, ◌&&◌, cond}
use mathlib.Core.List.{List, [], ◌∷◌, ◌++◌, append-nil}
use mathlib.Core.Logic.{◌⊎◌, inl, inr}
use lib.ListN.{length, get_or, drop, replicate, length-append, length-drop, length-replicate}
use native.Mathlib.Omega.{arith}
use borrow.Author.Tests.{ltb-false, lt-ltb, le-leb}
use lib.Dec.{ltb}
use native.Mathlib.Nat.{eq-zero-or-pos, mod-lt}
use lib.Seq.{get_or-append_seam, drop_at, append_snoc}
use Rattle.basis.proofs.Tests.{true_and, true_false}
use Rattle.basis.specs.Given.{Given}
use Rattle.run.specs.Run.{Plan, Announced, words, view, slot_on, store_after, given_on, reading, draining, over, Rec, Call, row, close, drain, is_reading_of, in_phase, of_table_of, turn, accepts, answered, opened, rows_in, Run, opening, taken, refused, ModelOf, owed, owed_before}
use Rattle.run.specs.Turn.{due}
use Rattle.run.proofs.Calls.{row_facts, drain_facts, close_facts, reading_done, draining_done, over_agrees, passed, answer_eq, refused_store, lent_same}
use Rattle.run.proofs.Due.{due_facts, due_same}
use Rattle.run.proofs.Gathers.{gather_cong}
use Rattle.run.proofs.Stores.{write_length, write_rest, write_at}
use Rattle.run.proofs.Turns.{stored, Holds, due_ok, stored_ok}
use Rattle.run.proofs.Types.{due_fits}

module _ {W B F : Type 0} (p : Plan W B F) (rank : ℕ → ℕ) (Fits : ℕ → W → Type 0) (an : Announced p rank Fits) where
  -- one turn: t is the turn, n the rows known, N the rows of the trace
  module _ (rows : List (List B)) (σ : ℕ → ℕ → W) (m : ModelOf p rows σ) (n t : ℕ) (to : (q : ℕ) → q ≤ t → q < n → q < length rows) (from : (q : ℕ) → q ≤ t → q < length rows → q < n) (ws st : List B) (row_ok : t < length rows → get_or rows t [] ≡ ws) (fits : words p ≤ length st) (holds : Holds p.spec p.look p.kept (length rows) σ t (view p st)) (c : Rec) where
    word_ok : (x : ℕ) → x < p.spec.inputs → t < length rows → p.get x (get_or ws x p.zero_word) ≡ p.get x (get_or (get_or rows t []) x p.zero_word)
    word_ok x i h = rw (row_ok h)

    turn_given : (turn p n t ws st c).given ≡ owed p σ (length rows) t
    unfolding turn given_on owed
    turn_given =
        gather_cong p.look n (length rows) t _ _ (p.spec.streams - p.spec.inputs) p.spec.inputs
        (λ v. due_same p.look n (length rows) t v to from)
        (λ v a b d.
        let e = due_facts p.look n t v d in
        due_ok p.spec p.look rank p.kept an.schedule an.keeps p.blank (length rows) _ σ m n t to from _ word_ok (view p st) holds v (t - p.look v) (omega arith) (omega (arith, e.0)) (omega (arith, e.0, e.1)))

    turn_holds : Holds p.spec p.look p.kept (length rows) σ (suc t) (view p (turn p n t ws st c).store)
    unfolding turn store_after
    turn_holds v q l a b d =
        write_at p.layout p.spec.streams p.kept Fits an.laid (slot_on p t) (λ w k. mod-lt (t - p.look w) (an.keeps.some w k)) (due p.look n t) _ (due_fits p rank Fits an n t ws st) p.spec.streams v (q % p.kept v) st (omega arith) l (mod-lt q (an.keeps.some v l)) fits
        ∙ unfold stored in stored_ok p.spec p.look rank p.kept an.schedule an.keeps p.blank (length rows) _ σ m n t to from _ word_ok (view p st) holds v q l a b d

  pub turn_length : (n t : ℕ) (ws st : List B) (c : Rec) → length (turn p n t ws st c).store ≡ length st
  unfolding turn store_after
  turn_length n t ws st c = write_length p.layout p.spec.streams p.kept Fits an.laid (slot_on p t) (λ v l. mod-lt (t - p.look v) (an.keeps.some v l)) _ _ p.spec.streams st (omega arith)

  turn_drop : (n t : ℕ) (ws st : List B) (c : Rec) → drop (words p) (turn p n t ws st c).store ≡ drop (words p) st
  unfolding turn store_after
  turn_drop n t ws st c = write_rest p.layout p.spec.streams p.kept Fits an.laid (slot_on p t) (λ v l. mod-lt (t - p.look v) (an.keeps.some v l)) _ _ p.spec.streams st (omega arith)

not_reading : (b : Bool) → is_reading_of (cond b draining over) ≡ false
not_reading true = refl
not_reading false = refl

-- What is so at every point of a run.
pub record Sound {W B F : Type 0} (p : Plan W B F) (st₀ : List B) (rows : List (List B)) (c : Rec) (st : List B) (log : List (List (Given W))) : Type 0 where
  pub counted : c.rows ≡ length rows
  pub table : of_table_of p c ≡ true
  pub enough : words p ≤ length st₀
  pub sized : length st ≡ length st₀
  pub rest : drop (words p) st ≡ drop (words p) st₀
  pub right :
      (more : List (List B)) → (is_reading_of c.phase ≡ false → more ≡ []) → (σ : ℕ → ℕ → W) → ModelOf p (rows ++ more) σ →
      Holds p.spec p.look p.kept (length (rows ++ more)) σ (c.rows + c.done) (view p st)
      × (log ≡ owed_before p σ (length (rows ++ more)) (c.rows + c.done))

module _ {W B F : Type 0} (p : Plan W B F) (rank : ℕ → ℕ) (Fits : ℕ → W → Type 0) (an : Announced p rank Fits) (st₀ : List B) where
  opening_sound : words p ≤ length st₀ → Sound p st₀ [] (record { rows = 0; phase = reading; done = 0 }) (opened p st₀) []
  unfolding opened owed_before
  opening_sound h = record {
    counted = refl;
    table = true_and (le-leb 0 p.limit (omega arith)) refl;
    enough = h;
    sized = omega (arith, length-append (replicate (words p) p.zero_word) (drop (words p) st₀), length-replicate (words p) p.zero_word, length-drop (words p) st₀);
    rest = drop_at (replicate (words p) p.zero_word) _ (words p) (length-replicate (words p) p.zero_word);
    right = λ more nr σ m. ((λ v q l a b d. absurd (omega arith)), refl);
  }

  row_sound : (rows : List (List B)) (c : Rec) (st : List B) (log : List (List (Given W))) → Sound p st₀ rows c st log →
      (ws : List B) (out : ℕ) → accepts p (row ws out) c st ≡ true →
      Sound p st₀ (rows ++ (ws ∷ [])) (answered p (row ws out) c st).after (answered p (row ws out) c st).store (log ++ ((answered p (row ws out) c st).given ∷ []))
  unfolding answered turn owed_before
  row_sound rows c st log so ws out h = record {
    counted = omega (arith, so.counted, length-append rows (ws ∷ []));
    table = true_and (le-leb (suc c.rows) p.limit (omega (arith, facts.3))) refl;
    enough = so.enough;
    sized = turn_length p rank Fits an (suc t) t ws st c' ∙ so.sized;
    rest = turn_drop p rank Fits an (suc t) t ws st c' ∙ so.rest;
    right = λ more nr σ m. rw (append_snoc rows ws more, turns) (next more σ (rw (append_snoc rows ws more) at m));
  }
    where
      t : ℕ
      t = c.rows

      c' : Rec
      c' = record { rows = suc c.rows; phase = reading; done = 0 }

      facts : (of_table_of p c ≡ true) × (words p ≤ length st) × (c.phase ≡ reading) × (c.rows < p.limit)
      facts = row_facts p ws out c st h

      turns : suc c.rows + 0 ≡ suc t
      turns = omega arith

      next : (more : List (List B)) (σ : ℕ → ℕ → W) → ModelOf p (rows ++ (ws ∷ more)) σ →
          Holds p.spec p.look p.kept (length (rows ++ (ws ∷ more))) σ (suc t) (view p (turn p (suc t) t ws st c').store)
          × (log ++ ((turn p (suc t) t ws st c').given ∷ []) ≡ owed_before p σ (length (rows ++ (ws ∷ more))) (suc t))
      next more σ m =
          let T : List (List B) = rows ++ (ws ∷ more) in
          let e : c.rows + c.done ≡ t = omega (arith, (reading_done p c so.table facts.2).1) in
          let n : length T ≡ t + suc (length more) = omega (arith, so.counted, length-append rows (ws ∷ more)) in
          let r : get_or T t [] ≡ ws = rw so.counted (get_or-append_seam rows ws more []) in
          let to : (q : ℕ) → q ≤ t → q < suc t → q < length T = λ q a b. omega arith in
          let from : (q : ℕ) → q ≤ t → q < length T → q < suc t = λ q a b. omega arith in
          let old = rw e at (so.right (ws ∷ more) (λ x. absurd (never x)) σ m) in (
            turn_holds p rank Fits an T σ m (suc t) t to from ws st (λ x. r) facts.1 old.0 c',
            ap₂ (λ (a : List (List (Given W))) (g : List (Given W)). a ++ (g ∷ [])) old.1 (turn_given p rank Fits an T σ m (suc t) t to from ws st (λ x. r) facts.1 old.0 c'),
          )
        where
          never : is_reading_of c.phase ≡ false → ⊥
          never x = let y : is_reading_of c.phase ≡ true = rw facts.2 in true_false y x

  close_sound : (rows : List (List B)) (c : Rec) (st : List B) (log : List (List (Given W))) → Sound p st₀ rows c st log →
      accepts p close c st ≡ true →
      Sound p st₀ rows (answered p close c st).after (answered p close c st).store log
  unfolding answered
  close_sound rows c st log so h = record {
    counted = so.counted;
    table = true_and (le-leb c.rows p.limit d.0) (agree (ltb 0 c.rows && ltb 0 p.closing) refl);
    enough = so.enough;
    sized = so.sized;
    rest = so.rest;
    right = λ more nr σ m. rw e at (so.right more (λ x. nr (not_reading (ltb 0 c.rows && ltb 0 p.closing))) σ m);
  }
    where
      d : (c.rows ≤ p.limit) × (c.done ≡ 0)
      d = reading_done p c so.table (close_facts p c st h).1

      e : c.done ≡ 0
      e = d.1

      agree : (b : Bool) → ltb 0 c.rows && ltb 0 p.closing ≡ b → in_phase p (cond b draining over) c.rows 0 ≡ true
      agree true x = x
      agree false x = over_agrees c.rows 0 p.closing (go (eq-zero-or-pos c.rows) (eq-zero-or-pos p.closing))
        where
          go : (c.rows ≡ 0) ⊎ (0 < c.rows) → (p.closing ≡ 0) ⊎ (0 < p.closing) → ((c.rows ≡ 0) × (◌≡◌ {A = ℕ} 0 0)) ⊎ ((0 < c.rows) × (0 ≡ p.closing))
          go (inl a) b = inl (a, refl)
          go (inr a) (inl b) = inr (a, sym b)
          go (inr a) (inr b) =
              let y : ltb 0 c.rows && ltb 0 p.closing ≡ true = true_and (lt-ltb 0 c.rows a) (lt-ltb 0 p.closing b) in
              true_false y x

  drain_sound : (rows : List (List B)) (c : Rec) (st : List B) (log : List (List (Given W))) → Sound p st₀ rows c st log →
      (out : ℕ) → accepts p (drain out) c st ≡ true →
      Sound p st₀ rows (answered p (drain out) c st).after (answered p (drain out) c st).store (log ++ ((answered p (drain out) c st).given ∷ []))
  unfolding answered turn owed_before
  drain_sound rows c st log so out h = record {
    counted = so.counted;
    table = true_and (le-leb c.rows p.limit d.0) (agree (ltb (suc c.done) p.closing) refl);
    enough = so.enough;
    sized = turn_length p rank Fits an c.rows t [] st c' ∙ so.sized;
    rest = turn_drop p rank Fits an c.rows t [] st c' ∙ so.rest;
    right = λ more nr σ m. rw turns (next more (nr (not_reading (ltb (suc c.done) p.closing))) σ m);
  }
    where
      t : ℕ
      t = c.rows + c.done

      c' : Rec
      c' = record { rows = c.rows; phase = cond (ltb (suc c.done) p.closing) draining over; done = suc c.done }

      facts : (of_table_of p c ≡ true) × (words p ≤ length st) × (c.phase ≡ draining)
      facts = drain_facts p out c st h

      d : (c.rows ≤ p.limit) × (0 < c.rows) × (c.done < p.closing)
      d = draining_done p c so.table facts.2

      turns : c.rows + suc c.done ≡ suc t
      turns = omega arith

      agree : (b : Bool) → ltb (suc c.done) p.closing ≡ b → in_phase p (cond b draining over) c.rows (suc c.done) ≡ true
      agree true x = true_and (lt-ltb 0 c.rows d.1) x
      agree false x = over_agrees c.rows (suc c.done) p.closing (inr (d.1, omega (arith, d.2, ltb-false (suc c.done) p.closing x)))

      next : (more : List (List B)) → more ≡ [] → (σ : ℕ → ℕ → W) → ModelOf p (rows ++ more) σ →
          Holds p.spec p.look p.kept (length (rows ++ more)) σ (suc t) (view p (turn p c.rows t [] st c').store)
          × (log ++ ((turn p c.rows t [] st c').given ∷ []) ≡ owed_before p σ (length (rows ++ more)) (suc t))
      next more e σ m =
          let T : List (List B) = rows ++ more in
          let z : length more ≡ 0 = ap length e in
          let n : length T ≡ c.rows = omega (arith, so.counted, length-append rows more) in
          let to : (q : ℕ) → q ≤ t → q < c.rows → q < length T = λ q a b. omega arith in
          let from : (q : ℕ) → q ≤ t → q < length T → q < c.rows = λ q a b. omega arith in
          let r : t < length T → get_or T t [] ≡ [] = λ x. absurd (omega arith) in
          let old = so.right more (λ x. e) σ m in (
            turn_holds p rank Fits an T σ m c.rows t to from [] st r facts.1 old.0 c',
            ap₂ (λ (a : List (List (Given W))) (g : List (Given W)). a ++ (g ∷ [])) old.1 (turn_given p rank Fits an T σ m c.rows t to from [] st r facts.1 old.0 c'),
          )

  pub sound : {ks : List (Call B)} {c : Rec} {st : List B} {log : List (List (Given W))} → Run p st₀ ks c st log → Sound p st₀ (rows_in ks) c st log
  sound (opening h) = opening_sound h
  sound (taken {ks = ks} {c = c} {st = st} {log = log} r (row ws out) h) =
      let a = passed p (row ws out) c st h in
      rw (answer_eq p (row ws out) c st a) (row_sound (rows_in ks) c st log (sound r) ws out a)
  sound (taken {ks = ks} {c = c} {st = st} {log = log} r close h) =
      let a = passed p close c st h in
      rw (answer_eq p close c st a, append-nil (rows_in ks), append-nil log) (close_sound (rows_in ks) c st log (sound r) a)
  sound (taken {ks = ks} {c = c} {st = st} {log = log} r (drain out) h) =
      let a = passed p (drain out) c st h in
      rw (answer_eq p (drain out) c st a, append-nil (rows_in ks)) (drain_sound (rows_in ks) c st log (sound r) out a)
  sound (refused r q k c' {lent = lent} l h) = rw (lent_same l (refused_store q k c' lent h)) (sound r)
