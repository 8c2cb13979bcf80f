-- What came of the next turn: a refusal, or what the turn needs and then the turn done.
-- Assumes nothing.
use Prim.Native.Nat.{ℕ, ◌+◌, ◌<◌, ◌^◌}
use mathlib.Core.Path.{◌≡◌, refl, sym, subst}
use mathlib.Core.List.{List, []}
use native.Mathlib.Omega.{arith}
use lib.ListN.{length}
use Rattle.limits.specs.declared.Refusal.{Refusal}
use Rattle.node.specs.Kinds.{Tabulated}
use Rattle.announce.specs.Announced.{announced}
use Rattle.prepare.specs.declared.Prepared.{Prepared}
use Rattle.prepare.specs.Preparing.{brief_by, Prepares}
use Rattle.monitor.specs.declared.Run.{Run}
use Rattle.monitor.specs.declared.Turn.{Turn}
use Rattle.monitor.specs.declared.Turn.TheVariants.{Row, Closing}
use Rattle.monitor.specs.declared.Taken.{Taken}
use Rattle.monitor.specs.Refusals.{fine, told, turn_fault_of, turn_tests}
use Rattle.monitor.specs.Turns.{Turned, TurnFits, known_rows_of, TurnDone, TurnRefused}
use Rattle.monitor.proofs.Refusals.{row_accepted, drain_accepted, rows_some, drain_left}

module _ {kinds : List (List ℕ)} {s : List ℕ} (r : Run) (q : Prepared) {types roles starts order : List ℕ} (k : Tabulated kinds) (x : Prepares s r.look r.kept (brief_by q types roles starts order)) (lent : ℕ) (ws : List ℕ) (space : ℕ) {n w d : ℕ} where
  -- an accepted call has what its turn needs
  pub turn_fits : (turn : Turn) → fine ≡ turn_tests turn r q types lent ws space → n ≡ known_rows_of turn r.rows → w ≡ r.rows → w < 2 ^ 32 → d < 65536
      → TurnFits kinds s r.look r.kept (brief_by q types roles starts order) n (w + d) (length ws) lent space
  turn_fits Closing e en ew lw ld =
      let a = drain_accepted _ _ _ _ _ _ e refl in
      let m : n ≡ r.rows = en in
      let some : 0 < r.rows = rows_some _ _ _ _ a.agrees a.is_draining_lem in
      record { tabulated = k; prepares = x; store_long = a.store_long; output_long = a.output_long; row_known = omega (arith, m, some); rows_fit = omega (arith, m, ew, lw); row_long = λ l. absurd (omega (arith, m, ew, l)) }
  turn_fits Row e en ew lw ld =
      let a = row_accepted _ _ _ _ _ _ _ _ _ _ e refl in
      let m : n ≡ r.rows + 1 = en in
      record { tabulated = k; prepares = x; store_long = a.store_long; output_long = a.output_long; row_known = omega (arith, m); rows_fit = omega (arith, m, a.rows_left); row_long = λ l. omega (arith, a.row_length) }

module _ (k : Turn) (s : List ℕ) (r : Run) (ws st out : List ℕ) where
  pub took_refused : {e : Refusal} → told e ≡ turn_fault_of k s r (length st) ws (length out) → TurnRefused k s r ws st out st out e
  took_refused h = record { fault_is = h; store_kept = refl; output_kept = refl }

  pub took_turned : {n w d count closing : ℕ} {st1 out1 : List ℕ} → fine ≡ turn_fault_of k s r (length st) ws (length out)
      → n ≡ known_rows_of k r.rows → w ≡ r.rows → d ≡ r.done → Turned s n (w + d) ws st out st1 out1 count → closing ≡ (announced s).closing
      → TurnDone k s r ws st out st1 out1 (record { count = count; closing = closing })
  took_turned h en ew ed v q = record { passes = h; turned = rw (en, ew, ed) at v; closing_is = q }

-- a draining call that took its turn had one left
pub one_left : (s : List ℕ) (r : Run) {st out st1 out1 : List ℕ} {x : Taken} → TurnDone Closing s r [] st out st1 out1 x → r.done < x.closing
one_left s r {st = st} {out = out} k = subst (λ (n : ℕ). r.done < n) (sym k.closing_is) (drain_left s r (length st) [] (length out) k.passes refl)
