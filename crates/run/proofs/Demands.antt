-- Demands 2 and 3 hold of every plan whose numbers are right.
-- Assumes nothing.
use Prim.Native.Nat.{ℕ, ◌+◌, ◌-◌, ◌≤◌, ◌<◌}
use mathlib.Core.Path.{◌≡◌, refl, sym, ap, ◌∙◌}
use mathlib.Core.Bool.{Bool, true, false, ◌&&◌, cond}
use mathlib.Core.List.{List, [], ◌++◌, flatten}
use mathlib.Core.Logic.{◌⊎◌, inl, inr, ⊎_elim}
use lib.ListN.{length, get_or, drop, length-append}
use native.Mathlib.Omega.{arith}
use borrow.Author.Tests.{lt-ltb, le-leb}
use lib.Dec.{ltb}
use lib.Seq.{get_or-take, take-append_seam}
use Rattle.basis.proofs.Tests.{true_and, true_false}
use Rattle.run.specs.Demands.{given_for, Demand2, Demand3}
use Rattle.lola.specs.Expressions.{Spec}
use Rattle.lola.specs.Models.{trace}
use Rattle.basis.specs.Given.{Given}
use Rattle.run.specs.Run.{Plan, Announced, words, Phase, reading, draining, over, Rec, Call, row, close, drain, is_reading_of, is_draining_of, turn, accepts, answered, answer, rows_in, closed, drained, Run, opening, taken, refused, ModelOf, owed, owed_before}
use Rattle.lola.specs.Schedule.{Schedule}
use Rattle.run.proofs.Calls.{row_facts, row_brings, drain_facts, close_facts, reading_done, draining_done, passed, answer_eq, answered_yes}
use Rattle.run.proofs.Due.{due_not}
use Rattle.lola.proofs.Existence.{well_defined}
use Rattle.run.proofs.Gathers.{gather_none}
use Rattle.run.proofs.Once.{owed_at, owed_here, owed_once}
use Rattle.run.proofs.Runs.{sound}
use Rattle.lola.proofs.Schedules.{prefix_independent}
use Rattle.run.proofs.Unread.{answer_same}

-- a row of the first part of a list
front : {A : Type 0} (xs ys : List A) (i : ℕ) (d : A) → i < length xs → get_or (xs ++ ys) i d ≡ get_or xs i d
front xs ys i d h = sym (get_or-take (length xs) (xs ++ ys) i d h) ∙ ap (λ (l : List _). get_or l i d) (take-append_seam xs ys)

-- demand 2 holds of every specification with a schedule
pub demand2 :
    {W B F : Type 0} (s : Spec W F) (look rank : ℕ → ℕ) → Schedule s look rank → W → (get : ℕ → B → W) (zero_word : B) → Demand2 s look get zero_word
demand2 s look rank sch blank get z = record {
  one = λ rows. well_defined s look rank sch blank (length rows) (trace get z rows);
  prefix = λ rows more more' σ τ m n v j l h.
      prefix_independent s look rank sch (j + look v) (length (rows ++ more)) (length (rows ++ more')) _ _ σ τ m n
      (omega (arith, length-append rows more)) (omega (arith, length-append rows more'))
      (λ x q i d. ap (λ (ws : List _). get x (get_or ws x z)) (front rows more q [] (omega arith) ∙ sym (front rows more' q [] (omega arith))))
      v j l (omega arith);
}

-- The phase after N rows and d draining calls
abbrev pub phase_for : {W B F : Type 0} → Plan W B F → Bool → ℕ → ℕ → Phase
phase_for p false N d = reading
phase_for p true N d = cond (ltb 0 N && ltb d p.closing) draining over

open_phase : {W B F : Type 0} (p : Plan W B F) (b : Bool) (N d : ℕ) → phase_for p b N d ≡ reading → b ≡ false
open_phase p false N d h = refl
open_phase p true N d h = absurd (go (ltb 0 N && ltb d p.closing) h)
  where
    go : (b : Bool) → cond b draining over ≡ reading → ⊥
    go true e = true_false refl (sym (ap is_reading_of e))
    go false e = true_false refl (sym (ap is_reading_of e))

drain_phase : {W B F : Type 0} (p : Plan W B F) (b : Bool) (N d : ℕ) → phase_for p b N d ≡ draining → b ≡ true
drain_phase p false N d h = true_false refl (sym (ap is_draining_of h))
drain_phase p true N d h = refl

module _ {W B F : Type 0} (p : Plan W B F) (rank : ℕ → ℕ) (Fits : ℕ → W → Type 0) (an : Announced p rank Fits) (st₀ : List B) where
  -- the record says what was accepted
  pub stage : {ks : List (Call B)} {c : Rec} {st : List B} {log : List (List (Given W))} → Run p st₀ ks c st log → (c.phase ≡ phase_for p (closed ks) c.rows (drained ks)) × (c.done ≡ drained ks)
  unfolding answered turn
  stage (opening h) = (refl, refl)
  stage (taken {ks = ks} {c = c} {st = st} r (row ws out) h) =
      let a = passed p (row ws out) c st h in
      let f = row_facts p ws out c st a in
      let i = stage r in
      let o : closed ks ≡ false = open_phase p (closed ks) c.rows (drained ks) (sym i.0 ∙ f.2) in
      rw (answer_eq p (row ws out) c st a, o) (refl, sym (reading_done p c f.0 f.2).1 ∙ i.1)
  stage (taken {ks = ks} {c = c} {st = st} r close h) =
      let a = passed p close c st h in
      let f = close_facts p c st a in
      let e : drained ks ≡ 0 = sym (stage r).1 ∙ (reading_done p c f.0 f.1).1 in
      rw (answer_eq p close c st a, e) (refl, refl)
  stage (taken {ks = ks} {c = c} {st = st} r (drain out) h) =
      let a = passed p (drain out) c st h in
      let f = drain_facts p out c st a in
      let i = stage r in
      let o : closed ks ≡ true = drain_phase p (closed ks) c.rows (drained ks) (sym i.0 ∙ f.2) in
      let n : ltb 0 c.rows ≡ true = lt-ltb 0 c.rows (draining_done p c f.0 f.2).1 in
      rw (answer_eq p (drain out) c st a, o, n, i.1) (refl, refl)
  stage (refused r q k c' l h) = stage r

  -- what is accepted
  yes_of : (k : Call B) (c : Rec) (st : List B) → accepts p k c st ≡ true → (answer p k c st).accepted ≡ true
  yes_of k c st h = rw (answer_eq p k c st h) (answered_yes p k c st)

  pub row_accepted :
      {ks : List (Call B)} {c : Rec} {st : List B} {log : List (List (Given W))} → Run p st₀ ks c st log → closed ks ≡ false →
      (ws : List B) (out : ℕ) → length (rows_in ks) < p.limit → p.well_formed ws ≡ true → p.room ≤ out →
      (answer p (row ws out) c st).accepted ≡ true
  row_accepted {ks} {c} {st} r o ws out l w z =
      let s = sound p rank Fits an st₀ r in
      let ph : is_reading_of c.phase ≡ true = rw ((stage r).0, o) in
      yes_of (row ws out) c st
      (true_and s.table
      (true_and (le-leb (words p) (length st) (omega (arith, s.enough, s.sized)))
      (true_and ph
      (true_and (lt-ltb c.rows p.limit (omega (arith, s.counted)))
      (true_and w (le-leb p.room out z))))))

  pub close_accepted :
      {ks : List (Call B)} {c : Rec} {st : List B} {log : List (List (Given W))} → Run p st₀ ks c st log → closed ks ≡ false →
      (answer p close c st).accepted ≡ true
  close_accepted {ks} {c} {st} r o =
      let ph : is_reading_of c.phase ≡ true = rw ((stage r).0, o) in
      yes_of close c st (true_and (sound p rank Fits an st₀ r).table ph)

  pub drain_accepted :
      {ks : List (Call B)} {c : Rec} {st : List B} {log : List (List (Given W))} → Run p st₀ ks c st log → closed ks ≡ true →
      (out : ℕ) → 0 < length (rows_in ks) → drained ks < p.closing → p.room ≤ out →
      (answer p (drain out) c st).accepted ≡ true
  drain_accepted {ks} {c} {st} r o out n d z =
      let s = sound p rank Fits an st₀ r in
      let a : ltb 0 c.rows ≡ true = lt-ltb 0 c.rows (omega (arith, s.counted)) in
      let b : ltb (drained ks) p.closing ≡ true = lt-ltb (drained ks) p.closing d in
      let ph : is_draining_of c.phase ≡ true = rw ((stage r).0, o, a, b) in
      yes_of (drain out) c st
      (true_and s.table
      (true_and (le-leb (words p) (length st) (omega (arith, s.enough, s.sized)))
      (true_and ph (le-leb p.room out z))))

  -- and nothing else
  module _ {ks : List (Call B)} {c : Rec} {st : List B} {log : List (List (Given W))} (r : Run p st₀ ks c st log) (other : List B) where
    only_until_closing : c.phase ≡ reading → closed ks ≡ false
    only_until_closing h = open_phase p (closed ks) c.rows (drained ks) (sym (stage r).0 ∙ h)

    pub only_rows : (ws : List B) (out : ℕ) → (answer p (row ws out) c other).accepted ≡ true → (closed ks ≡ false) × (length (rows_in ks) < p.limit) × (p.well_formed ws ≡ true) × (p.room ≤ out)
    only_rows ws out h =
        let a = passed p (row ws out) c other h in
        let f = row_facts p ws out c other a in
        let b = row_brings p ws out c other a in
        (only_until_closing f.2, omega (arith, f.3, (sound p rank Fits an st₀ r).counted), b.0, b.1)

    pub only_closing : (answer p close c other).accepted ≡ true → closed ks ≡ false
    only_closing h = only_until_closing (close_facts p c other (passed p close c other h)).1

    pub only_drains : (out : ℕ) → (answer p (drain out) c other).accepted ≡ true → (closed ks ≡ true) × (0 < length (rows_in ks)) × (drained ks < p.closing)
    only_drains out h =
        let f = drain_facts p out c other (passed p (drain out) c other h) in
        let d = draining_done p c f.0 f.2 in (
          drain_phase p (closed ks) c.rows (drained ks) (sym (stage r).0 ∙ f.2),
          omega (arith, d.1, (sound p rank Fits an st₀ r).counted),
          omega (arith, d.2, (stage r).1),
        )

  -- what is given: turn by turn what the model owes, however the trace goes on until it is closed
  pub given_right :
      {ks : List (Call B)} {c : Rec} {st : List B} {log : List (List (Given W))} → Run p st₀ ks c st log →
      (more : List (List B)) → (closed ks ≡ true → more ≡ []) → (σ : ℕ → ℕ → W) → ModelOf p (rows_in ks ++ more) σ →
      log ≡ owed_before p σ (length (rows_in ks ++ more)) (length (rows_in ks) + drained ks)
  given_right {ks} {c} r more e σ m =
      let s = sound p rank Fits an st₀ r in
      let f : is_reading_of c.phase ≡ false → closed ks ≡ true = λ h. go (closed ks) refl h in
      rw (← s.counted, ← (stage r).1) (s.right more (λ h. e (f h)) σ m).1
    where
      go : (b : Bool) → closed ks ≡ b → is_reading_of c.phase ≡ false → closed ks ≡ true
      go true x h = x
      go false x h = let y : is_reading_of c.phase ≡ true = rw ((stage r).0, x) in true_false y h

  -- the store past the announced words
  pub rest_untouched : {ks : List (Call B)} {c : Rec} {st : List B} {log : List (List (Given W))} → Run p st₀ ks c st log → drop (words p) st ≡ drop (words p) st₀
  rest_untouched r = (sound p rank Fits an st₀ r).rest

-- past the closing turns nothing is owed, and of no rows nothing is ever
pub nothing_owed :
    {W B F : Type 0} (p : Plan W B F) (rank : ℕ → ℕ) (Fits : ℕ → W → Type 0) → Announced p rank Fits →
    (σ : ℕ → ℕ → W) (N t : ℕ) → (N ≡ 0) ⊎ (N + p.closing ≤ t) → owed p σ N t ≡ []
unfolding owed
nothing_owed p rank Fits an σ N t h =
    gather_none p.look N t _ (p.spec.streams - p.spec.inputs) p.spec.inputs
    (λ v a b. due_not p.look N t v (λ c d. ⊎_elim (λ e. omega arith) (λ e. omega (arith, an.longest v (omega arith))) h))

pub demand3 :
    {W B F : Type 0} (p : Plan W B F) (rank : ℕ → ℕ) (Fits : ℕ → W → Type 0) → Announced p rank Fits → (st₀ : List B) →
    {ks : List (Call B)} {c : Rec} {st : List B} {log : List (List (Given W))} → Run p st₀ ks c st log → Demand3 p st₀ ks c st log
demand3 {W} {B} {F} p rank Fits an st₀ {ks} {c} {st} {log} r = record {
  takes_rows = λ o l ws out w z. row_accepted p rank Fits an st₀ r o ws out l w z;
  takes_close = λ o. close_accepted p rank Fits an st₀ r o;
  takes_drains = λ o n d out z. drain_accepted p rank Fits an st₀ r o out n d z;
  takes_only_rows = λ ws out other. only_rows p rank Fits an st₀ r other ws out;
  closes_once = only_closing p rank Fits an st₀ r;
  takes_only_drains = λ out other. only_drains p rank Fits an st₀ r other out;
  gives = given_right p rank Fits an st₀ r;
  rest = rest_untouched p rank Fits an st₀ r;
  unread = λ other a k. answer_same p rank Fits an other st a k c;
  once = λ more q σ m y j a b h t.
      let N = length (rows_in ks ++ more) in
      let T = length (rows_in ks) + drained ks in
      let g = given_right p rank Fits an st₀ r more q σ m in
      let i : j < N = omega (arith, h, length-append (rows_in ks) more) in (
        ap (λ (l : List (List (Given W))). given_for y j (get_or l (j + p.look y) [])) g ∙ ap (given_for y j) (owed_at p σ N T (j + p.look y) t) ∙ owed_here p σ N y j a b i,
        ap (λ (l : List (List (Given W))). given_for y j (flatten l)) g ∙ owed_once p σ N y j a b i T t,
      );
  ends = λ z y j b h. ⊎_elim (λ e. absurd (omega arith)) (λ e. omega (arith, an.longest y b)) z;
  finished = λ z σ t h. nothing_owed p rank Fits an σ (length (rows_in ks)) t (⊎_elim inl (λ e. inr (omega arith)) z);
}
