-- A row, a closing and a closing turn leave the lent record's look-aheads and kept numbers, whatever they answer (document 01, "A run").
-- So an entry writes back the other three fields alone. Assumes nothing.
use Prim.Native.Nat.{ℕ}
use mathlib.Core.Path.{◌≡◌, refl, sym, ap, ◌∙◌}
use mathlib.Core.List.{List, []}
use lib.Dec.{ltb}
use Rattle.basis.proofs.Tests.{pick_case}
use Rattle.monitor.specs.Calls.{After, row_call_of, close_call, drain_call_of}
use Rattle.monitor.proofs.Keeping as monitor
use Rattle.dock.specs.declared.Record.{Record}
use Rattle.dock.specs.declared.Reply.{Reply}
use Rattle.dock.specs.Lent.{over_byte, run_of, Left, left_by_of, strange_reply, lent, lent_row, lent_close, lent_drain, written_back, Gives, Lends}

-- e is the record of d's run, further on
pub record Keeps (d e : Record) : Type 0 where
  pub look_is : e.look ≡ d.look
  pub kept_is : e.kept ≡ d.kept

-- refused or accepted, and where the byte is no phase
module _ (s : List ℕ) (d : Record) where
  lent_keeps : (st out : List ℕ) (x : After) → monitor.Keeps (run_of d) x → Keeps d (lent s d st out x).reply.held
  unfolding lent strange_reply
  lent_keeps st out x k =
      pick_case (λ (y : Left). Keeps d y.reply.held) (ltb over_byte d.phase) _ (left_by_of x) (λ _. record { look_is = refl; kept_is = refl })
      (λ _. record { look_is = k.look_is; kept_is = k.kept_is })

  pub row_keeps : (ws st out : List ℕ) → Keeps d (lent_row s d ws st out).reply.held
  row_keeps ws st out = lent_keeps st out (row_call_of s (run_of d) ws st out) (monitor.row_keeps s (run_of d) ws st out)

  pub close_keeps : Keeps d (lent_close s d).reply.held
  close_keeps = lent_keeps [] [] (close_call s (run_of d)) (monitor.close_keeps s (run_of d))

  pub drain_keeps : (st out : List ℕ) → Keeps d (lent_drain s d st out).reply.held
  drain_keeps st out = lent_keeps st out (drain_call_of s (run_of d) st out) (monitor.drain_keeps s (run_of d) st out)

-- so nothing is missing behind the reference
pub written_back_is : {d e : Record} → Keeps d e → written_back d e ≡ e
written_back_is {d} {e} k =
    ap (λ (l : List ℕ). record { look = l; kept = d.kept; rows = e.rows; done = e.done; phase = e.phase }) (sym k.look_is)
    ∙ ap (λ (l : List ℕ). record { look = e.look; kept = l; rows = e.rows; done = e.done; phase = e.phase }) (sym k.kept_is)

-- what an entry leaves of what the call by value gives: the record behind the reference, and what is told
pub lends_back : {x : Left} {d : Record} {a : Reply} {st out : List ℕ} → Gives x a st out → Keeps d x.reply.held → Lends x (written_back d a.held) a.told st out
lends_back {d = d} g k = record {
  record_is = ap (λ (b : Reply). written_back d b.held) g.reply_is ∙ written_back_is k;
  told_is = ap (λ (b : Reply). b.told) g.reply_is;
  store_is = g.store_is;
  output_is = g.output_is;
}
