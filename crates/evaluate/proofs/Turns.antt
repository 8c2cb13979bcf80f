-- The turn's loop: stream by stream in the order given, as run's turn in place (`Part`) has it.
-- Assumes nothing.
use mathlib.Core.Path.{◌≡◌, refl, sym, ap, ◌∙◌}
use mathlib.Core.Bool.{Bool, true, false, ◌&&◌}
use mathlib.Core.List.{List}
use mathlib.Core.Logic.{◌⊎◌, inl, inr}
use Prim.Native.Nat.{ℕ, ◌+◌, ◌-◌, ◌<◌, ◌≤◌}
use native.Mathlib.Omega.{arith}
use borrow.Author.Tests.{lt-ltb, le-ltb}
use lib.Dec.{ltb}
use lib.ListN.{length, get_or, take}
use Rattle.std.proofs.lemmas.List.{length-take, get_or-take}
use Rattle.limits.specs.Limits.{most_streams}
use Rattle.basis.specs.Firsts.{of}
use Rattle.value.specs.declared.Value.{Value}
use Rattle.basis.proofs.Tests.{lt_or_ge}
use Rattle.run.specs.Turn.{due}
use Rattle.run.specs.Run.{Plan, view, due_of}
use Rattle.run.proofs.Due.{due_facts}
use Rattle.run.proofs.InPlace.{due_input}
use Rattle.run.proofs.Parts.{Part, part_start, part_write, part_skip, part_value, part_end}
use Rattle.store.specs.Store.{held_of, written_of}
use Rattle.meaning.specs.Plans.{plan_of, FitsIn}
use Rattle.evaluate.specs.Evaluation.{value_in}
use Rattle.evaluate.specs.Turns.{Turnable, Turns}
use Rattle.evaluate.proofs.Steps.{Stepped}

-- the loop goes over the front of the order, a place for each of the n streams
module _ (n : ℕ) (order : List ℕ) {i : ℕ} where
  in_front : i < length (take n order) → i < n
  in_front h = omega (arith, length-take n order)

  front_at : i < n → {y : ℕ} → y ≡ get_or (take n order) i 0 → y ≡ get_or order i 0
  front_at h e = e ∙ get_or-take n order i 0 h

  front_all : n ≤ length order → length (take n order) ≤ i → n ≤ i
  front_all long h = omega (arith, length-take n order)

-- the streams below rank i have been written
abbrev pub fin_of : (ℕ → ℕ) → (streams i w : ℕ) → Bool
fin_of rank streams i w = ltb w streams && ltb (rank w) i

fin_none : (rank : ℕ → ℕ) (streams w : ℕ) → fin_of rank streams 0 w ≡ false
fin_none rank streams w = go (ltb w streams)
  where
    go : (b : Bool) → b && ltb (rank w) 0 ≡ false
    go true = le-ltb (rank w) 0 (omega arith)
    go false = refl

fin_yes : (rank : ℕ → ℕ) (streams i w : ℕ) → w < streams → rank w < i → fin_of rank streams i w ≡ true
fin_yes rank streams i w h g = rw (lt-ltb _ _ h, lt-ltb _ _ g)

fin_not : (rank : ℕ → ℕ) (streams i w : ℕ) → i ≤ rank w → fin_of rank streams i w ≡ false
fin_not rank streams i w h = go (ltb w streams)
  where
    go : (b : Bool) → b && ltb (rank w) i ≡ false
    go true = le-ltb (rank w) i h
    go false = refl

-- only the stream of rank i comes in
fin_same : (rank : ℕ → ℕ) (streams i v w : ℕ) → (w < streams → rank w ≡ i → w ≡ v) → (w ≡ v → ⊥) → fin_of rank streams (i + 1) w ≡ fin_of rank streams i w
fin_same rank streams i v w one ne = go (lt_or_ge w streams)
  where
    inner : w < streams → (rank w < i) ⊎ (i ≤ rank w) → ltb (rank w) (i + 1) ≡ ltb (rank w) i
    inner h (inl g) = let k : rank w < i + 1 = omega arith in lt-ltb (rank w) (i + 1) k ∙ sym (lt-ltb (rank w) i g)
    inner h (inr g) = let z : rank w ≡ i → ⊥ = λ e. ne (one h e) in let k : i + 1 ≤ rank w = omega arith in le-ltb (rank w) (i + 1) k ∙ sym (le-ltb (rank w) i g)

    go : (w < streams) ⊎ (streams ≤ w) → fin_of rank streams (i + 1) w ≡ fin_of rank streams i w
    go (inl h) = ap (λ (b : Bool). ltb w streams && b) (inner h (lt_or_ge (rank w) i))
    go (inr h) = rw (le-ltb _ _ h)

module _ {s types look kept starts order : List ℕ} {inputs streams n : ℕ} (x : Turnable s types look kept starts order inputs streams n) where
  abbrev pub plan : Plan Value ℕ ℕ
  plan = plan_of inputs streams types x.eqs (of look) (of kept) x.closing x.room x.well_formed

  -- the same of another store of the same length
  abbrev pub moved : {m : ℕ} → m ≡ n → Turnable s types look kept starts order inputs streams m
  moved e =
      record {
        eqs = x.eqs;
        closing = x.closing;
        room = x.room;
        well_formed = x.well_formed;
        rank = x.rank;
        few = x.few;
        announced = x.announced;
        ordered = x.ordered;
        fits = rw e x.fits;
        wanted = x.wanted;
        behind = x.behind;
        parsed = x.parsed;
      }

  -- the stream that the order has at place i
  pub named_by : (i : ℕ) → i < length (take streams order) → {y : ℕ} → y ≡ get_or (take streams order) i 0 → y < streams
  named_by i h e = let l = in_front streams order h in omega (arith, front_at streams order l e, x.ordered.named i l)

-- how far the turn is: the streams below rank i have been written
abbrev pub Upto : (s types look kept starts order : List ℕ) (inputs streams : ℕ) (ws st : List ℕ) (n t i : ℕ) (cur : List ℕ) → Type 0
Upto s types look kept starts order inputs streams ws st n t i cur =
    (x : Turnable s types look kept starts order inputs streams (length st)) →
    Part (plan x) x.rank (FitsIn types) x.announced n t ws st x.fits (fin_of x.rank streams i) cur

module _ (s types look kept starts order : List ℕ) (inputs streams : ℕ) (ws st : List ℕ) (n t : ℕ) where
  abbrev All : Type 0
  All = Turnable s types look kept starts order inputs streams (length st)

  abbrev The : All → (ℕ → Bool) → List ℕ → Type 0
  The x fin cur = Part (plan x) x.rank (FitsIn types) x.announced n t ws st x.fits fin cur

  pub upto_none : Upto s types look kept starts order inputs streams ws st n t 0 st
  upto_none x =
      part_start (plan x) x.rank (FitsIn types) x.announced n t ws st x.fits (fin_of x.rank streams 0) (λ v l. fin_none x.rank streams v)

  module _ (x : All) (i : ℕ) (cur : List ℕ) (pt : The x (fin_of x.rank streams i) cur) (h : i < streams) where
    abbrev y : ℕ
    y = get_or order i 0

    inside : y < streams
    inside = x.ordered.named i h

    of_rank : x.rank y ≡ i
    of_rank = x.ordered.ranked i h

    only : (w : ℕ) → (w ≡ y → ⊥) → fin_of x.rank streams (i + 1) w ≡ fin_of x.rank streams i w
    only w ne = fin_same x.rank streams i y w (λ l e. sym (x.ordered.back w l) ∙ ap (λ (k : ℕ). get_or order k 0) e) ne

    module _ (e : length cur ≡ length st) {after : List ℕ} (g : Stepped s types look kept starts order inputs streams ws cur n t y after) where
      -- the value that the step writes is the one due
      value_due : due (of look) n t y ≡ true → g.value ≡ due_of (plan x) n t ws st y
      unfolding value_in held_of
      value_due d = go (lt_or_ge y inputs)
        where
          f : (get_or look y 0 ≤ t) × (t < n + get_or look y 0)
          f = due_facts (of look) n t y d

          go : (y < inputs) ⊎ (inputs ≤ y) → g.value ≡ due_of (plan x) n t ws st y
          go (inl l) =
              g.input d l
              ∙ sym (due_input (plan x).spec (of look) x.rank (of kept) x.announced.schedule x.announced.keeps (plan x).blank n t _ (view (plan x) st) y inside l)
          go (inr l) =
              g.output d l (moved x e)
              ∙ part_value (plan x) x.rank (FitsIn types) x.announced n t ws st x.fits (fin_of x.rank streams i) cur y (t - get_or look y 0) pt inside l
              (omega (arith, f.0)) (omega (arith, f.0, f.1)) (λ w lw k. fin_yes x.rank streams i w lw (omega (arith, of_rank, k)))

      step_by : (b : Bool) → due (of look) n t y ≡ b → The x (fin_of x.rank streams (i + 1)) after
      unfolding written_of
      step_by true d =
          rw (g.after_is, d, value_due d)
          (part_write (plan x) x.rank (FitsIn types) x.announced n t ws st x.fits (fin_of x.rank streams i) (fin_of x.rank streams (i + 1)) cur y pt inside d
          (fin_not x.rank streams i y (omega (arith, of_rank))) (fin_yes x.rank streams (i + 1) y inside (omega (arith, of_rank))) only)
      step_by false d =
          rw (g.after_is, d)
          (part_skip (plan x) x.rank (FitsIn types) x.announced n t ws st x.fits (fin_of x.rank streams i) (fin_of x.rank streams (i + 1)) cur y pt d only)

  pub upto_more : (i v : ℕ) {cur after : List ℕ} → length cur ≡ length st → i < length (take streams order) → v ≡ get_or (take streams order) i 0
      → Stepped s types look kept starts order inputs streams ws cur n t v after
      → Upto s types look kept starts order inputs streams ws st n t i cur → Upto s types look kept starts order inputs streams ws st n t (i + 1) after
  upto_more i v {cur} {after} e h ev g u x =
      let l = in_front streams order h in
      step_by x i cur (u x) l e (rw (front_at streams order l ev) at g) (due (of look) n t (get_or order i 0)) refl

  pub upto_all : (i : ℕ) {cur : List ℕ} → length order ≡ most_streams → length (take streams order) ≤ i → Upto s types look kept starts order inputs streams ws st n t i cur → Turns s types look kept starts order inputs streams ws st n t cur
  upto_all i long h u x =
      let all : streams ≤ i = front_all streams order (omega (arith, long, x.few)) h in
      part_end (plan x) x.rank (FitsIn types) x.announced n t ws st x.fits (fin_of x.rank streams i) _ (u x)
      (λ v l. fin_yes x.rank streams i v l (omega (arith, x.announced.schedule.small v l)))
