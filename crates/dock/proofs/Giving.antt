-- What a call by value over the dock's record gives: the strange byte's reply, or what the run's own call leaves.
-- Assumes nothing.
use Prim.Native.Nat.{ℕ, ◌≤◌, ◌<◌}
use mathlib.Core.Path.{◌≡◌, refl, ap, ◌∙◌}
use mathlib.Core.Bool.{Bool, true, false, cond}
use mathlib.Core.List.{List, []}
use lib.Dec.{ltb}
use borrow.Author.Tests.{lt-ltb, le-ltb}
use Rattle.limits.specs.Refusals.{foreign_record}
use Rattle.monitor.specs.declared.Run.{Run}
use Rattle.monitor.specs.Refusals.{Fault, fault, after_table}
use Rattle.monitor.specs.Calls.{Answer, After, open_call, close_call, Leaves, Opens}
use Rattle.dock.specs.declared.Record.{Record}
use Rattle.dock.specs.declared.Reply.{Reply}
use Rattle.dock.specs.declared.Told.{Told}
use Rattle.dock.specs.Lent.{over_byte, reply_for, Left, left_by_of, strange_reply, lent, lent_open, Gives}

pub strange_is : (s : List ℕ) (d : Record) {t : Told} {f : Fault} → t ≡ record { number = f.number; place = f.place; count = 0 } → f ≡ after_table s (fault foreign_record 0)
    → record { held = d; told = t } ≡ strange_reply s d
unfolding strange_reply
strange_is s d e g = rw (e, g)

gives_as : {x y : Left} {a : Reply} {st out : List ℕ} → x ≡ y → Gives y a st out → Gives x a st out
gives_as e g = rw e g

module _ (s : List ℕ) (d : Record) (st out : List ℕ) where
  -- what is left, by the byte's test
  pub lent_by : (x : After) {b : Bool} → ltb over_byte d.phase ≡ b → lent s d st out x ≡ cond b (record { reply = strange_reply s d; store = st; output = out }) (left_by_of x)
  unfolding lent
  lent_by x e = ap (λ (b : Bool). cond b (record { reply = strange_reply s d; store = st; output = out }) (left_by_of x)) e

  module _ {a : Reply} where
    pub gives_strange : (x : After) → over_byte < d.phase → a ≡ strange_reply s d → Gives (lent s d st out x) a st out
    gives_strange x h e = gives_as (lent_by x (lt-ltb _ _ h)) (record { reply_is = e; store_is = refl; output_is = refl })

    -- the byte is a phase, and the call is that of the run which the record then is
    pub gives_known : (x : After) {b : Answer} {st1 out1 : List ℕ} → d.phase ≤ over_byte → a ≡ reply_for b → Leaves x b st1 out1 → Gives (lent s d st out x) a st1 out1
    gives_known x h e l = gives_as (lent_by x (le-ltb _ _ h)) (record { reply_is = e ∙ ap reply_for l.answer_is; store_is = l.store_is; output_is = l.output_is })

-- a call that has no store or no output leaves none, refused or accepted
store_either : (b : Bool) (x y : After) → (cond b x y).store ≡ cond b x.store y.store
store_either true x y = refl
store_either false x y = refl

output_either : (b : Bool) (x y : After) → (cond b x y).output ≡ cond b x.output y.output
output_either true x y = refl
output_either false x y = refl

either_none : (b : Bool) → cond {A = List ℕ} b [] [] ≡ []
either_none true = refl
either_none false = refl

pub close_leaves : (s : List ℕ) (r : Run) {a : Answer} → a ≡ (close_call s r).answer → Leaves (close_call s r) a [] []
unfolding close_call
close_leaves s r h = record { answer_is = h; store_is = rw (store_either, either_none); output_is = rw (output_either, either_none) }

pub gives_opened : (s st : List ℕ) {b : Answer} {a : Reply} {st1 : List ℕ} → a ≡ reply_for b → Opens (open_call s st) b st1 → Gives (lent_open s st) a st1 []
unfolding open_call
gives_opened s st e o = record { reply_is = e ∙ ap reply_for o.answer_is; store_is = o.store_is; output_is = rw (output_either, either_none) }
