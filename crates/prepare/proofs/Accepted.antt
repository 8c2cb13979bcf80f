-- The plan of accepted bytes has the numbers that the theory of runs asks for.
-- Assumes nothing.
use Prim.Native.Nat.{ℕ, ◌≤◌, ◌<◌}
use mathlib.Core.Path.{◌≡◌, sym, subst}
use mathlib.Core.List.{List}
use native.Mathlib.Omega.{arith}
use Rattle.basis.proofs.Sums.{most_all}
use Rattle.table.specs.Table.{Table, Decoded, streams}
use Rattle.table.proofs.Sound.{sound}
use Rattle.run.specs.Run as run
use Rattle.run.specs.Run.{Announced}
use Rattle.meaning.specs.Plans.{table_plan_of, FitsIn}
use Rattle.meaning.proofs.Accepted.{table_announced, table_order}
use Rattle.announce.specs.Announced.{announced}
use Rattle.prepare.specs.PlanFor.{table_in, table_for, row_fits_of, look_for, kept_for, plan_for}
use Rattle.prepare.proofs.Announcing.{accepting, store_words_lem}

-- the plan's words are those announced
pub plan_words : (s : List ℕ) → (announced s).number ≡ 0 → run.words (plan_for s) ≡ (announced s).words
unfolding plan_for
plan_words s n = store_words_lem s (table_for s).types n

-- the rank of the streams within a turn, and the types of their values
pub record PlanAnnounced (s : List ℕ) : Type 0 where
  pub types : List ℕ
  pub rank : ℕ → ℕ
  pub is : Announced (plan_for s) rank (FitsIn types)

pub plan_announced : (s : List ℕ) → (announced s).number ≡ 0 → PlanAnnounced s
unfolding plan_for
plan_announced s n =
    let x = accepting s n in
    let t : Table = x.table in
    let fine = sound s x.decodes in
    let order = table_order s t fine (look_for s) (kept_for s) x.certified.right in
    let longest : (v : ℕ) → v < streams t → look_for s v ≤ (announced s).closing = λ v l. omega (arith, most_all (look_for s) (streams t) v l, x.closing_is) in
    let a = table_announced s t fine (look_for s) (kept_for s) x.certified.right order (announced s).closing (announced s).room (row_fits_of t) longest in
    record {
      types = t.types;
      rank = order.rank;
      is = subst (λ (d : Decoded). Announced (table_plan_of (table_in d) (look_for s) (kept_for s) (announced s).closing (announced s).room (row_fits_of (table_in d))) order.rank (FitsIn t.types)) (sym x.decodes) a;
    }
