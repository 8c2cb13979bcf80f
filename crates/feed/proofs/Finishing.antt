-- Laws of what comes behind the input's end: closing turns, one at least, then the last line. Assumes nothing.
use Prim.Native.Nat.{ℕ, ◌<◌}
use native.Mathlib.Omega.{arith}
use native.Mathlib.Decide.{ℕ_discrete}
use mathlib.Core.Path.{◌≡◌, sym, ap, ◌∙◌}
use mathlib.Core.Bool.{true, false}
use mathlib.Core.List.{List, ◌++◌}
use Rattle.std.specs.Prelude.{Some, None}
use lib.ListN.{take}
use Rattle.basis.specs.Written.{Wrote}
use Rattle.basis.proofs.Tests.{true_false}
use Rattle.lines.specs.Lines.{end_line}
use Rattle.lines.proofs.Lengths.{wrote_within}
use Rattle.monitor.specs.declared.Run.{Run}
use Rattle.monitor.specs.Refusals.{is_draining_of}
use Rattle.answers.specs.Rows.{begun, after_drains, Reached, Drains}
use Rattle.feed.specs.declared.Turning.{Turning}
use Rattle.feed.specs.Stands.{AtClosing, Unfinished, Finishes}
use Rattle.feed.proofs.Closing.{closing_more, done_grows, turn_left}
use Rattle.feed.proofs.Finished.{finished}
use Rattle.feed.proofs.Stepping.{left_some, left_none, some_one}

module _ {x : Turning} {table store : List ℕ} (c : Unfinished x table store) where
  pub finishes_turns : {store1 text text1 : List ℕ} {run1 : Run} {turns at : ℕ} → is_draining_of x.run.phase ≡ true
      → Reached (after_drains (take x.size table) turns (begun x.run store)) run1 store1 text 0 text1 at → Drains (take x.size table) turns (begun x.run store) → Finishes x table store (record { left = Some (record { size = x.size; run = run1 }); at = at }) store1 text1
  finishes_turns {store1} {text} {text1} {run1} {turns} {at} g u d =
      record {
        prints =
            record {
              fits = wrote_within (omega arith) u.wrote;
              onward = λ b said a. record { over = λ z. left_some z; closing = λ z. rw (← some_one z) (further b said a) };
            };
        falls =
            let n = done_grows c.at turns d.each in
            let e = ap (λ (y : Run). y.done) u.run_is in
            omega (arith, n, e, some (ℕ_discrete turns 0), turn_left c.at g);
      }
    where
      some : Dec (turns ≡ 0) → 0 < turns
      some (yes z) = true_false g (d.some z)
      some (no z) = omega arith

      further : (b said : List ℕ) → AtClosing b x.run table store x.size said → AtClosing b run1 table store1 x.size (said ++ take at text1)
      further b said a = rw (u.run_is, u.store_is, u.wrote.front) (closing_more a turns d.each)

  pub finishes_last : {text text1 : List ℕ} {at : ℕ} → is_draining_of x.run.phase ≡ false → Wrote text 0 (end_line x.run.rows) text1 at
      → Finishes x table store (record { left = None; at = at }) store text1
  finishes_last {text} {text1} {at} g w =
      record {
        prints =
            record {
              fits = wrote_within (omega arith) w;
              onward = λ b said a. record { over = λ _ bytes. finished a bytes g ∙ ap (λ (l : List ℕ). said ++ l) (sym w.front); closing = λ z. left_none z };
            };
        falls = omega arith;
      }
