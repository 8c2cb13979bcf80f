-- What an accepted call tells, and what it and a refused one answer (document 01, "A run" and "Refusal numbers").
-- Assumes nothing.
use Prim.Native.Nat.{ℕ, ◌≤◌, ◌<◌}
use mathlib.Core.Path.{◌≡◌, refl, sym, ap, ◌∙◌}
use mathlib.Core.Bool.{Bool, true, false, ◌&&◌, cond}
use mathlib.Core.List.{List, ◌++◌}
use mathlib.Core.Logic.{◌⊎◌, inl, inr}
use lib.ListN.{length}
use native.Mathlib.Omega.{arith}
use borrow.Author.Tests.{ltb-true, leb-true, eqb-true, eq-eqb, ne_eqb}
use lib.Dec.{leb, ltb, eqb}
use Rattle.basis.proofs.Tests.{and_true, true_false}
use Rattle.run.specs.Run.{Plan, words, Phase, reading, draining, over, Rec, Call, row, close, drain, Answer, is_reading_of, is_draining_of, in_phase, of_table_of, refuse, turn, accepts, answered, answer, Lent, other, part}

reading_true : (f : Phase) → is_reading_of f ≡ true → f ≡ reading
reading_true reading h = refl
reading_true draining h = true_false h refl
reading_true over h = true_false h refl

draining_true : (f : Phase) → is_draining_of f ≡ true → f ≡ draining
draining_true draining h = refl
draining_true reading h = true_false h refl
draining_true over h = true_false h refl

all_four : (a b c d : Bool) → a && (b && (c && d)) ≡ true → (a ≡ true) × (b ≡ true) × (c ≡ true) × (d ≡ true)
all_four a b c d h =
    let x = and_true a (b && (c && d)) h in
    let y = and_true b (c && d) x.1 in
    let z = and_true c d y.1 in
    (x.0, y.0, z.0, z.1)

pub row_facts : {W B F : Type 0} (p : Plan W B F) (ws : List B) (out : ℕ) (c : Rec) (st : List B) → accepts p (row ws out) c st ≡ true →
    (of_table_of p c ≡ true) × (words p ≤ length st) × (c.phase ≡ reading) × (c.rows < p.limit)
row_facts p ws out c st h =
    let x = all_four (of_table_of p c) (leb (words p) (length st)) (is_reading_of c.phase) (ltb c.rows p.limit && (p.well_formed ws && leb p.room out)) h in
    (x.0, leb-true (words p) (length st) x.1, reading_true c.phase x.2, ltb-true c.rows p.limit (and_true (ltb c.rows p.limit) (p.well_formed ws && leb p.room out) x.3).0)

pub row_brings : {W B F : Type 0} (p : Plan W B F) (ws : List B) (out : ℕ) (c : Rec) (st : List B) → accepts p (row ws out) c st ≡ true → (p.well_formed ws ≡ true) × (p.room ≤ out)
row_brings p ws out c st h =
    let x = all_four (of_table_of p c) (leb (words p) (length st)) (is_reading_of c.phase) (ltb c.rows p.limit && (p.well_formed ws && leb p.room out)) h in
    let y = and_true (p.well_formed ws) (leb p.room out) (and_true (ltb c.rows p.limit) (p.well_formed ws && leb p.room out) x.3).1 in
    (y.0, leb-true p.room out y.1)

pub drain_facts : {W B F : Type 0} (p : Plan W B F) (out : ℕ) (c : Rec) (st : List B) → accepts p (drain out) c st ≡ true →
    (of_table_of p c ≡ true) × (words p ≤ length st) × (c.phase ≡ draining)
drain_facts p out c st h =
    let x = all_four (of_table_of p c) (leb (words p) (length st)) (is_draining_of c.phase) (leb p.room out) h in
    (x.0, leb-true (words p) (length st) x.1, draining_true c.phase x.2)

pub close_facts : {W B F : Type 0} (p : Plan W B F) (c : Rec) (st : List B) → accepts p close c st ≡ true → (of_table_of p c ≡ true) × (c.phase ≡ reading)
close_facts p c st h = let x = and_true (of_table_of p c) (is_reading_of c.phase) h in (x.0, reading_true c.phase x.1)

-- a record of the table that is reading has no turns done; one that is draining has rows, and turns to do
pub reading_done : {W B F : Type 0} (p : Plan W B F) (c : Rec) → of_table_of p c ≡ true → c.phase ≡ reading → (c.rows ≤ p.limit) × (c.done ≡ 0)
reading_done p c h e =
    let x = and_true (leb c.rows p.limit) (in_phase p c.phase c.rows c.done) h in
    (leb-true c.rows p.limit x.0, eqb-true c.done 0 (rw e at x.1))

pub draining_done : {W B F : Type 0} (p : Plan W B F) (c : Rec) → of_table_of p c ≡ true → c.phase ≡ draining → (c.rows ≤ p.limit) × (0 < c.rows) × (c.done < p.closing)
draining_done p c h e =
    let x = and_true (leb c.rows p.limit) (in_phase p c.phase c.rows c.done) h in
    let y = and_true (ltb 0 c.rows) (ltb c.done p.closing) (rw e at x.1) in
    (leb-true c.rows p.limit x.0, ltb-true 0 c.rows y.0, ltb-true c.done p.closing y.1)

-- "over with exactly all done if N is at least 1, exactly 0 if N = 0"
pub over_agrees : (N d z : ℕ) → ((N ≡ 0) × (d ≡ 0)) ⊎ ((0 < N) × (d ≡ z)) → eqb d (cond (eqb N 0) 0 z) ≡ true
over_agrees N d z (inl (a, b)) = rw (eq-eqb N 0 a) (eq-eqb d 0 b)
over_agrees N d z (inr (a, b)) = rw (ne_eqb N 0 (λ e. omega arith)) (eq-eqb d z b)

took : {W B : Type 0} (b : Bool) (a r : Answer W B) → r.accepted ≡ false → (cond b a r).accepted ≡ true → b ≡ true
took true a r e h = refl
took false a r e h = true_false h e

-- an accepted call passed its test and answers what `answered` says
pub passed : {W B F : Type 0} (q : Plan W B F) (k : Call B) (c : Rec) (st : List B) → (answer q k c st).accepted ≡ true → accepts q k c st ≡ true
unfolding answer
passed q k c st h = took (accepts q k c st) (answered q k c st) (refuse q c st) refl h

pub answer_eq : {W B F : Type 0} (q : Plan W B F) (k : Call B) (c : Rec) (st : List B) → accepts q k c st ≡ true → answer q k c st ≡ answered q k c st
unfolding answer
answer_eq q k c st h = rw h

pub answered_yes : {W B F : Type 0} (q : Plan W B F) (k : Call B) (c : Rec) (st : List B) → (answered q k c st).accepted ≡ true
unfolding answered turn
answered_yes q (row ws out) c st = refl
answered_yes q close c st = refl
answered_yes q (drain out) c st = refl

-- a refused call leaves the store
pub refused_store : {W B F : Type 0} (q : Plan W B F) (k : Call B) (c : Rec) (st : List B) → (answer q k c st).accepted ≡ false → (answer q k c st).store ≡ st
unfolding answer
refused_store q k c st h = go (accepts q k c st) refl
  where
    go : (b : Bool) → accepts q k c st ≡ b → (answer q k c st).store ≡ st
    go false e = rw e
    go true e = let x : (answer q k c st).accepted ≡ true = rw e (answered_yes q k c st) in true_false x h

-- so the run's store stays, whatever the call was lent
pub lent_same : {B : Type 0} {st lent left after : List B} → Lent st lent left after → left ≡ lent → after ≡ st
lent_same (other lent left) e = refl
lent_same (part front lent back left s) e = ap (λ (l : List _). front ++ (l ++ back)) e ∙ sym s
