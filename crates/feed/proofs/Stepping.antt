-- Laws of a step from any stage, and of the input's end in any stage. Assumes nothing.
use Prim.Native.Nat.{ℕ, ◌+◌, ◌≤◌}
use native.Mathlib.Omega.{arith}
use mathlib.Core.Path.{◌≡◌, refl, sym, ap, subst, ◌∙◌}
use mathlib.Core.Bool.{true, false}
use mathlib.Core.List.{List, [], ◌++◌, append-nil}
use borrow.Author.Tests.{ne_eqb}
use Rattle.std.specs.Prelude.{Option, Some, None}
use lib.ListN.{length, take, length-append}
use lib.Seq.{length-take-le}
use Rattle.basis.specs.Written.{Wrote}
use Rattle.basis.proofs.Tests.{true_false}
use Rattle.lines.specs.Lines.{stop_line}
use Rattle.lines.proofs.Lengths.{wrote_within}
use Rattle.monitor.specs.declared.Run.{Run}
use Rattle.monitor.specs.Calls.{close_call}
use Rattle.answers.specs.Rows.{after_drains}
use Rattle.feed.specs.declared.Stage.{Stage}
use Rattle.feed.specs.declared.Stage.TheVariants.{Head, Table, Rows, Shut}
use Rattle.feed.specs.declared.State.{State}
use Rattle.feed.specs.declared.Advance.{Advance}
use Rattle.feed.specs.declared.Moved.{Moved}
use Rattle.feed.specs.declared.Turning.{Turning}
use Rattle.feed.specs.declared.Ended.{Ended}
use Rattle.feed.specs.Printed.{part_line, printed}
use Rattle.feed.specs.Stands.{AtHead, AtTable, AtRows, come, AtClosing, StandsAt, reading, Lent, Stands, Standing, Ends, Begins, Closing, Unfinished, Moves, Steps, Prints, EndsIn, Closes, Finishes, advanced_to}
use Rattle.feed.proofs.Texts.{printed_stopped, printed_short}

-- ---- the stage that the program stands at

module _ {b : List ℕ} {x : State} {table store part said : List ℕ} (s : Stands b x table store part said) where
  at_stage : {stage : Stage} → x.stage ≡ stage → StandsAt stage b table store part said
  at_stage e = subst (λ (y : Stage). StandsAt y b table store part said) e s.at

  pub at_head : {have : ℕ} → x.stage ≡ Head have → AtHead b part have said
  at_head e = at_stage e

  pub at_table : {n have : ℕ} → x.stage ≡ Table n have → AtTable b table n have said
  at_table e = at_stage e

  pub at_rows : {n have : ℕ} {run : Run} → x.stage ≡ Rows n have run → AtRows b run table store part n have said
  at_rows e = at_stage e

  pub at_shut : x.stage ≡ Shut → (more : List ℕ) → printed (b ++ more) ≡ said
  at_shut e = at_stage e

-- ---- a step

module _ {x : State} {table store part piece : List ℕ} {m : Moved} {table1 store1 part1 text1 : List ℕ} where
  pub steps : {P : (b said : List ℕ) → Type 0} → ((b said : List ℕ) → Stands b x table store part said → P b said) → (Lent table store part → Lent table1 store1 part1)
      → Moves P (λ b said. StandsAt m.stage b table1 store1 part1 said) piece m text1 → {r : Advance} → r ≡ advanced_to x.read m → Steps x table store part piece r table1 store1 part1 text1
  steps f g o q =
      rw q
      (record {
        some = o.some;
        within = o.within;
        fits = o.fits;
        read_is = refl;
        onward = λ b said s.
            record {
              read_is = ap (λ (n : ℕ). n + m.used) s.read_is ∙ sym (length-append b (take m.used piece) ∙ ap (λ (n : ℕ). length b + n) (length-take-le m.used piece o.within));
              lent = g s.lent;
              at = o.onward b said (f b said s);
            };
      })

-- something left is not nothing
pub left_some : {c : Turning} {X : Type 0} → Some c ≡ None → X
left_some e = let z : ◌≡◌ {A = ℕ} 0 1 = cc in absurd (omega arith)

pub left_none : {c : Turning} {X : Type 0} → None ≡ Some c → X
left_none e = let z : ◌≡◌ {A = ℕ} 0 1 = cc in absurd (omega arith)

-- ---- whether the program reads on

pub reads_none : {stage : Stage} → stage ≡ Shut → reading stage ≡ false
unfolding reading
reads_none e = rw e

pub reads_some : (stage : Stage) → (stage ≡ Shut → ⊥) → reading stage ≡ true
unfolding reading
reads_some (Head have) f = refl
reads_some (Table n have) f = refl
reads_some (Rows n have run) f = refl
reads_some Shut f = absurd (f refl)

-- ---- the input's end

pub some_one : {c d : Turning} → Some c ≡ Some d → c ≡ d
some_one e = cc

module _ {run run1 : Run} {n have : ℕ} {table : List ℕ} (c : run1 ≡ (close_call (take n table) run).answer.run) where
  closed_at : {b store part said text : List ℕ} → AtRows b run table store part n have said → text ≡ part_line have (length b) → AtClosing b run1 table store n (said ++ text)
  unfolding after_drains
  closed_at {b} {store} {part} {said} {text} x e =
      record {
        part = take have part;
        before = come run store said;
        behind = x.behind;
        turns = 0;
        draining = λ i h. absurd (omega arith);
        come_is = rw (c, e, x.counted);
      }

  pub closes_with : {read at : ℕ} {text1 : List ℕ} → at ≤ length text1 → (take at text1 ≡ part_line have read) → Closes run read n have table (record { left = Some (record { size = n; run = run1 }); at = at }) text1
  closes_with {at = at} {text1} f w store part =
      record {
        fits = f;
        onward = λ b said p. record { over = λ e. left_some e; closing = λ e. rw (← some_one e) (closed_at p.0 (w ∙ ap (part_line have) p.1)) };
      }

  -- a part row has its line, a whole one none
  pub closes_whole : {read : ℕ} {text1 : List ℕ} → have ≡ 0 → Closes run read n have table (record { left = Some (record { size = n; run = run1 }); at = 0 }) text1
  closes_whole z = closes_with (omega arith) (rw z)

  pub closes_part : {read : ℕ} {text text1 : List ℕ} {at : ℕ} → (have ≡ 0 → ⊥) → Wrote text 0 (stop_line read) text1 at
      → Closes run read n have table (record { left = Some (record { size = n; run = run1 }); at = at }) text1
  closes_part z w = closes_with (wrote_within (omega arith) w) (w.front ∙ rw (ne_eqb _ _ z))

reads_on : {other stage : Stage} {X : Type 0} → other ≡ stage → reading stage ≡ true → reading other ≡ false → X
reads_on e t f = true_false (ap reading e ∙ t) f

-- the head or the table stops
stops : {read : ℕ} {text text1 : List ℕ} {at : ℕ} → Wrote text 0 (stop_line read) text1 at
    → {P : (b said : List ℕ) → Type 0} → ((b said : List ℕ) → P b said → (said ≡ []) × (printed b ≡ stop_line (length b)) × (read ≡ length b))
    → (table store : List ℕ) → Prints P (λ b said. Ends b None table store said) at text1
stops {text1 = text1} {at} w f table store = record {
  fits = wrote_within (omega arith) w;
  onward = λ b said p. let q = f b said p in
      record {
        over = λ _ _. q.1 ∙ ap stop_line (sym q.2) ∙ sym w.front ∙ ap (λ (l : List ℕ). l ++ take at text1) (sym q.0);
        closing = λ e. left_none e;
      };
}

module _ {x : State} {table : List ℕ} where
  module _ {text text1 : List ℕ} {at : ℕ} (w : Wrote text 0 (stop_line x.read) text1 at) where
    pub ends_head : {have : ℕ} → x.stage ≡ Head have → EndsIn x table (record { left = None; at = at }) text1
    unfolding reading
    ends_head e =
        record { prints = λ store part. stops w (λ b said s. let h = at_head s e in (h.silent, printed_stopped b h.undecided, s.read_is)) table store; shut = reads_on e refl }

    pub ends_table : {n have : ℕ} → x.stage ≡ Table n have → EndsIn x table (record { left = None; at = at }) text1
    unfolding reading
    ends_table {n} {have} e =
        record {
          prints = λ store part.
              stops w
              (λ b said s. let h = at_table s e in
              (h.silent, subst (λ (l : List ℕ). printed l ≡ stop_line (length l)) (sym h.bytes_are) (printed_short h.head h.head_is h.head_long (take have table) (omega (arith, h.counted, h.short))), s.read_is))
              table store;
          shut = reads_on e refl;
        }

  module _ {text1 : List ℕ} where
    pub ends_rows : {n have : ℕ} {run : Run} {r : Ended} → x.stage ≡ Rows n have run → Closes run x.read n have table r text1 → EndsIn x table r text1
    unfolding reading
    ends_rows e p =
        record { prints = λ store part. let q = p store part in record { fits = q.fits; onward = λ b said s. q.onward b said (at_rows s e, s.read_is) }; shut = reads_on e refl }

    pub ends_shut : x.stage ≡ Shut → EndsIn x table (record { left = None; at = 0 }) text1
    ends_shut e =
        record {
          prints = λ store part.
              record { fits = omega arith; onward = λ b said s. record { over = λ _ _. ap printed (sym (append-nil b)) ∙ at_shut s e [] ∙ sym (append-nil said); closing = λ z. left_none z } };
          shut = λ _. (refl, refl);
        }

-- ---- for whoever holds the state

pub stands_on : {x : State} {table store part piece : List ℕ} {r : Advance} {table1 store1 part1 text1 : List ℕ} → Steps x table store part piece r table1 store1 part1 text1
    → Standing x table store part → Standing r.state table1 store1 part1
stands_on {piece = piece} {r = r} {text1 = text1} o s =
    record { bytes = s.bytes ++ take r.used piece; said = s.said ++ take r.at text1; stands = o.onward s.bytes s.said s.stands }

pub stands_first : {x : State} {table store part : List ℕ} → Begins x → Lent table store part → Standing x table store part
stands_first {table = table} {store} {part} b l = record { bytes = []; said = []; stands = b table store part l }

pub stands_closing : {x : State} {table store part : List ℕ} {r : Ended} {text1 : List ℕ} → EndsIn x table r text1 → Standing x table store part → Closing r.left table store
stands_closing {store = store} {part = part} {r = r} {text1 = text1} e s =
    record { bytes = s.bytes; said = s.said ++ take r.at text1; ends = (e.prints store part).onward s.bytes s.said s.stands }

pub closing_on : {x : Turning} {table store : List ℕ} {r : Ended} {store1 text1 : List ℕ} → Finishes x table store r store1 text1 → Closing (Some x) table store → Closing r.left table store1
closing_on {r = r} {text1 = text1} f c =
    record { bytes = c.bytes; said = c.said ++ take r.at text1; ends = f.prints.onward c.bytes c.said (c.ends.closing refl) }

-- what is left can be finished
pub unfinished : {x : Option Turning} {table store : List ℕ} {c : Turning} → Closing x table store → x ≡ Some c → Unfinished c table store
unfinished e q = record { bytes = e.bytes; said = e.said; at = e.ends.closing q }

closing_of : {c : Turning} {table store : List ℕ} → Unfinished c table store → Closing (Some c) table store
closing_of c = record { bytes = c.bytes; said = c.said; ends = record { over = λ z. left_some z; closing = λ z. rw (← some_one z) c.at } }

pub stands_unfinished : {x : State} {table store part : List ℕ} {r : Ended} {text1 : List ℕ} {c : Turning} → EndsIn x table r text1 → Standing x table store part → r.left ≡ Some c → Unfinished c table store
stands_unfinished e s q = unfinished (stands_closing e s) q

pub unfinished_on : {x c : Turning} {table store : List ℕ} {r : Ended} {store1 text1 : List ℕ} → Finishes x table store r store1 text1 → Unfinished x table store → r.left ≡ Some c → Unfinished c table store1
unfinished_on f c q = unfinished (closing_on f (closing_of c)) q
