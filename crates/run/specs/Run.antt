-- A run over a lent store (document 01, "A run" and "Refusal numbers"): the calls and their answers, a run as a succession of calls,
-- and what the model owes of it.
-- Assumes nothing.
use Rattle.std.specs.Prelude.{ℕ, zero, suc, ◌+◌, ◌-◌, ◌%◌, ◌≤◌, ◌<◌, ◌≡◌, Bool, true, false, ◌&&◌, cond, List, [], ◌∷◌, ◌++◌, length, get_or, take, drop, replicate, leb, ltb, eqb, ℤ}
use Rattle.basis.specs.Given.{Given}
use Rattle.lola.specs.Expressions.{Ref, at, Spec, target}
use Rattle.lola.specs.Models.{value, Model, trace}
use Rattle.lola.specs.Graph.{Occurs, Edge}
use Rattle.lola.specs.Schedule.{Schedule}
use Rattle.run.specs.Keeps.{Keeps}
use Rattle.run.specs.Layout.{Layout, Lays}
use Rattle.run.specs.Turn.{due, due_value}

-- What the check announces of a table, with the meaning of its equations.
-- W is the type of values, B that of the words of rows and store: `get v` reads a row's word as a value of v's type, `layout` says where
-- the store keeps the values.
pub record Plan (W B F : Type 0) : Type 0 where
  pub spec : Spec W F
  pub look : ℕ → ℕ
  pub kept : ℕ → ℕ
  pub closing : ℕ
  pub room : ℕ
  pub limit : ℕ
  pub get : ℕ → B → W
  pub zero_word : B
  pub layout : Layout W B
  pub blank : W
  pub well_formed : List B → Bool

-- `Fits v x` says that x is of v's type: what a well-typed table gives
pub record Typed {W F : Type 0} (s : Spec W F) (Fits : ℕ → W → Type 0) : Type 0 where
  pub defaults : (y v : ℕ) (k : ℤ) (d : W) → Edge s y (at v k d) → Fits v d
  pub equations :
      (y : ℕ) → s.inputs ≤ y → y < s.streams → (f : Ref W → W) →
      ((r : Ref W) → Occurs r (s.equation y) → Fits (target r) (f r)) → Fits y (value s.ops f (s.equation y))

-- the plan's numbers are right
pub record Announced {W B F : Type 0} (p : Plan W B F) (rank : ℕ → ℕ) (Fits : ℕ → W → Type 0) : Type 0 where
  pub schedule : Schedule p.spec p.look rank
  pub keeps : Keeps p.spec p.look p.kept
  pub longest : (v : ℕ) → v < p.spec.streams → p.look v ≤ p.closing
  pub reads : (v : ℕ) (b : B) → v < p.spec.streams → Fits v (p.get v b)
  pub typed : Typed p.spec Fits
  pub laid : Lays p.layout p.spec.streams p.kept Fits

-- the announced store words
abbrev pub words : {W B F : Type 0} → Plan W B F → ℕ
words p = p.layout.words

-- slot i of v, read as a value of v
abbrev pub view : {W B F : Type 0} → Plan W B F → List B → ℕ → ℕ → W
view p st v i = p.layout.read st v i

-- "Values come in stream order": those of turn t among k streams from y on, where n rows are known and f gives their words
unfoldable pub gather : {W : Type 0} (look : ℕ → ℕ) (n t : ℕ) (f : ℕ → W) (k y : ℕ) → List (Given W)
gather look n t f zero y = []
gather {W} look n t f (suc k) y =
    let rest = gather look n t f k (suc y) in
    let more : List (Given W) = record { stream = y; position = t - look y; word = f y } ∷ rest in
    cond (due look n t y) more rest

-- The store with the values f written of those of the first m streams that `which` names, v's into its slot `slot v`
unfoldable pub write : {W B : Type 0} (l : Layout W B) (which : ℕ → Bool) (slot : ℕ → ℕ) (f : ℕ → W) (m : ℕ) → List B → List B
write l which slot f zero st = st
write l which slot f (suc v) st =
    let a = write l which slot f v st in
    let b = l.write a v (slot v) (f v) in
    cond (which v) b a

-- "the value for position p lies in word p mod n of its part": the slot of v that turn t writes
abbrev pub slot_on : {W B F : Type 0} → Plan W B F → (t v : ℕ) → ℕ
slot_on p t v = (t - p.look v) % p.kept v

module _ {W B F : Type 0} (p : Plan W B F) (n t : ℕ) (ws st : List B) where
  -- the value due for v on turn t over the store st, where n rows are known and ws are the words of the row
  abbrev pub due_of : ℕ → W
  due_of = due_value p.spec p.look p.kept p.blank n t (λ x. p.get x (get_or ws x p.zero_word)) (view p st)

  -- "A row or closing turn writes exactly the values, inputs included, whose position is that turn less their look-ahead and lies in the trace."
  unfoldable pub store_after : List B
  store_after = write p.layout (due p.look n t) (slot_on p t) due_of p.spec.streams st

  -- the outputs' values that the turn gives
  unfoldable pub given_on : List (Given W)
  given_on = gather p.look n t due_of (p.spec.streams - p.spec.inputs) p.spec.inputs

pub data Phase : Type 0 where
  reading draining over : Phase

-- of the record, what changes in a run: the rows taken, the phase, the closing turns done
pub record Rec : Type 0 where
  pub rows : ℕ
  pub phase : Phase
  pub done : ℕ

-- a call with what it brings beside record and store: a row's words, the length of the lent output
pub data Call (B : Type 0) : Type 0 where
  row : List B → ℕ → Call B
  close : Call B
  drain : ℕ → Call B

pub record Answer (W B : Type 0) : Type 0 where
  pub accepted : Bool
  pub after : Rec
  pub store : List B
  pub given : List (Given W)

abbrev pub is_reading_of : Phase → Bool
is_reading_of reading = true
is_reading_of draining = false
is_reading_of over = false

abbrev pub is_draining_of : Phase → Bool
is_draining_of reading = false
is_draining_of draining = true
is_draining_of over = false

module _ {W B F : Type 0} (p : Plan W B F) where
  -- "reading with 0 turns done; draining with N at least 1 and done below the closing turns;
  -- over with exactly all done if N is at least 1, exactly 0 if N = 0"
  abbrev pub in_phase : Phase → ℕ → ℕ → Bool
  in_phase reading N d = eqb d 0
  in_phase draining N d = ltb 0 N && ltb d p.closing
  in_phase over N d = eqb d (cond (eqb N 0) 0 p.closing)

  -- a record of this table
  abbrev pub of_table_of : Rec → Bool
  of_table_of c = leb c.rows p.limit && in_phase c.phase c.rows c.done

  -- "A refusal hands back the record it got [..] and leaves store and output untouched."
  abbrev pub refuse : Rec → List B → Answer W B
  refuse c st = record { accepted = false; after = c; store = st; given = [] }

  -- turn t, where n rows are known and ws are the words of the row
  unfoldable pub turn : (n t : ℕ) → List B → List B → Rec → Answer W B
  turn n t ws st c = record { accepted = true; after = c; store = store_after p n t ws st; given = given_on p n t ws st }

  -- which calls are accepted: refusals 10 to 16
  abbrev pub accepts : Call B → Rec → List B → Bool
  accepts (row ws out) c st = of_table_of c && (leb (words p) (length st) && (is_reading_of c.phase && (ltb c.rows p.limit && (p.well_formed ws && leb p.room out))))
  accepts close c st = of_table_of c && is_reading_of c.phase
  accepts (drain out) c st = of_table_of c && (leb (words p) (length st) && (is_draining_of c.phase && leb p.room out))

  -- what an accepted call answers: a row call is turn j for the j-th row, draining calls are turns N, N+1 and so on
  unfoldable pub answered : Call B → Rec → List B → Answer W B
  answered (row ws out) c st = turn (suc c.rows) c.rows ws st (record { rows = suc c.rows; phase = reading; done = 0 })
  answered close c st =
      record {
        accepted = true;
        after = record { rows = c.rows; phase = cond (ltb 0 c.rows && ltb 0 p.closing) draining over; done = 0 };
        store = st;
        given = [];
      }
  answered (drain out) c st =
      turn c.rows (c.rows + c.done) [] st (record { rows = c.rows; phase = cond (ltb (suc c.done) p.closing) draining over; done = suc c.done })

  unfoldable pub answer : Call B → Rec → List B → Answer W B
  answer k c st =
      let a = answered k c st in
      cond (accepts k c st) a (refuse c st)

  -- "Opening puts 0 into exactly the announced store words."
  unfoldable pub opened : List B → List B
  opened st = replicate (words p) p.zero_word ++ drop (words p) st

-- the row that a call brings
abbrev pub rows_of : {B : Type 0} → Call B → List (List B)
rows_of (row ws out) = ws ∷ []
rows_of close = []
rows_of (drain out) = []

-- Of the accepted calls, the last first: the rows in order, whether one closed, and how many drained.
abbrev pub rows_in : {B : Type 0} → List (Call B) → List (List B)
rows_in [] = []
rows_in (k ∷ ks) = rows_in ks ++ rows_of k

abbrev pub closed : {B : Type 0} → List (Call B) → Bool
closed [] = false
closed (row ws out ∷ ks) = closed ks
closed (close ∷ ks) = true
closed (drain out ∷ ks) = closed ks

abbrev pub drained : {B : Type 0} → List (Call B) → ℕ
drained [] = 0
drained (row ws out ∷ ks) = drained ks
drained (close ∷ ks) = drained ks
drained (drain out ∷ ks) = suc (drained ks)

-- what a call gives, if it is a turn
abbrev pub turns_of : {W B : Type 0} → Call B → List (Given W) → List (List (Given W))
turns_of (row ws out) g = g ∷ []
turns_of close g = []
turns_of (drain out) g = g ∷ []

-- two stores that hold n words, and the same ones
pub record Alike {B : Type 0} (n : ℕ) (st st' : List B) : Type 0 where
  pub same : take n st ≡ take n st'
  pub long : n ≤ length st
  pub long' : n ≤ length st'

-- What a refused call may be lent while a run has the store st: it was lent the words `lent` and left `left` there; then st is `after`.
pub data Lent {B : Type 0} (st : List B) : (lent left after : List B) → Type 0 where
  -- another store, of any words
  other : (lent left : List B) → Lent st lent left st
  -- a part of the run's own, all of it or less (refusal 11)
  part : (front lent back left : List B) → st ≡ front ++ (lent ++ back) → Lent st lent left (front ++ (left ++ back))

-- A run on the store st₀: the accepted calls, the last first; the record and the store as they are now; what each turn gave.
-- A refused call may bring any table q, any record, any words and any store.
pub data Run {W B F : Type 0} (p : Plan W B F) (st₀ : List B) : List (Call B) → Rec → List B → List (List (Given W)) → Type 0 where
  opening : words p ≤ length st₀ → Run p st₀ [] (record { rows = 0; phase = reading; done = 0 }) (opened p st₀) []
  taken :
      {ks : List (Call B)} {c : Rec} {st : List B} {log : List (List (Given W))} → Run p st₀ ks c st log →
      (k : Call B) → (answer p k c st).accepted ≡ true →
      Run p st₀ (k ∷ ks) (answer p k c st).after (answer p k c st).store (log ++ turns_of k (answer p k c st).given)
  refused :
      {ks : List (Call B)} {c : Rec} {st : List B} {log : List (List (Given W))} → Run p st₀ ks c st log →
      (q : Plan W B F) (k : Call B) (c' : Rec) {lent after : List B} → Lent st lent (answer q k c' lent).store after → (answer q k c' lent).accepted ≡ false →
      Run p st₀ ks c after log

-- σ is an evaluation model of the trace of these rows
abbrev pub ModelOf : {W B F : Type 0} → Plan W B F → List (List B) → (ℕ → ℕ → W) → Type 0
ModelOf p rows σ = Model p.spec (length rows) (trace p.get p.zero_word rows) σ

-- what turn t owes of a trace of N rows with the model σ, and what the first `turns` turns owe
unfoldable pub owed : {W B F : Type 0} → Plan W B F → (ℕ → ℕ → W) → (N t : ℕ) → List (Given W)
owed p σ N t = gather p.look N t (λ y. σ y (t - p.look y)) (p.spec.streams - p.spec.inputs) p.spec.inputs

unfoldable pub owed_before : {W B F : Type 0} → Plan W B F → (ℕ → ℕ → W) → (N turns : ℕ) → List (List (Given W))
owed_before p σ N zero = []
owed_before p σ N (suc t) = owed_before p σ N t ++ (owed p σ N t ∷ [])
