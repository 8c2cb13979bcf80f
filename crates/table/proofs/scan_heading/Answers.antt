-- `scan_heading`: the table's length, the record before all others, the streams' records.
-- Assumes nothing.
use Rattle.std.proofs.Common.{Result, rules}
use Rattle.std.proofs.lemmas.Result.{err_from_is_err_and}
use borrow.Author.Tests.{eq-eqb, ne_eqb, le-leb, lt-leb}
use mathlib.Core.Path.{◌≡◌, refl}
use mathlib.Core.List.{List}
use mathlib.Core.Logic.{◌⊎◌, inl, inr}
use Prim.Native.Nat.{ℕ, ◌+◌, ◌≤◌, ◌<◌}
use native.Mathlib.Omega.{arith}
use lib.ListN.{length, get_or}
use Rattle.limits.specs.Faults.{number_for}
use Rattle.limits.specs.Limits.{least_table, most_table}
use Rattle.limits.specs.Refusals.{table_length}
use Rattle.limits.specs.declared.Fault.{Fault}
use Rattle.limits.specs.declared.Refusal.{Refusal}
use Rattle.limits.proofs.Faults.{number_some, none_at, refused_at}
use Rattle.table.proofs.Faults.{head_room, head_fits}
use Rattle.table.specs.declared.Heading.{Heading}
use Rattle.table.specs.Records.{head_fault_of, declared, wrong, heads}
use Rattle.table.specs.Answers.{Headings}
use Rattle.table.proofs.scan_heading.Goals as goal
use Rattle.table.proofs.scan_heading.Goals.{In_ok-map_err}

module _ (s : List ℕ) where
  out_of_limits : (length s < least_table) ⊎ ((least_table ≤ length s) × (most_table < length s)) → heads s ≡ wrong table_length 0
  unfolding heads
  out_of_limits (inl l) = rw (lt-leb _ _ l)
  out_of_limits (inr h) = rw (le-leb _ _ h.0, lt-leb _ _ h.1)

  module _ (l : least_table ≤ length s) (g : length s ≤ most_table) where
    no_head : (f : Fault) → head_fault_of s ≡ number_for f → heads s ≡ wrong (number_for f) 0
    unfolding heads
    no_head f e = rw (le-leb _ _ l, le-leb _ _ g, e, ne_eqb _ _ (number_some f))

    whole_head : {h : Result Heading Refusal} {types roles : List ℕ} {i o : ℕ} → head_fault_of s ≡ 0 → i ≡ get_or s 2 0 → o ≡ get_or s 3 0 → Headings i (declared (i + o) i 0 s 4) h types roles → Headings (get_or s 2 0) (heads s) h types roles
    unfolding heads
    whole_head z p q x = rw (le-leb _ _ l, le-leb _ _ g, eq-eqb _ _ z, ← p, ← q) x

fine : (c : In_ok-map_err) → head_fault_of c.args.table.now ≡ 0
fine c = none_at _ _ c.test_head.ensures c.map_err.ensures.cases c.in_ok-map_err.was

pub returns-then-table-lt-TABLE_LEAST : goal.returns-then-table-lt-TABLE_LEAST
returns-then-table-lt-TABLE_LEAST c = rw (out_of_limits _ c.then-table-lt-TABLE_LEAST.either, c.at.ensures) (record { answer = (refl, refl); laid = tt })

pub returns-in_err-map_err : goal.returns-in_err-map_err
returns-in_err-map_err c =
    let a = refused_at _ _ c.test_head.ensures c.map_err.ensures.cases {place = 0} (λ f a q. search rules) c.in_err-map_err.was in
    let w = err_from_is_err_and c.from_residual.result c.from_residual.ensures.1 in
    rw (w.1, w.2, no_head _ c.if-table-lt-TABLE_LEAST.false c.if-table-gt-TABLE_MOST.false _ a.0) (record { answer = (refl, a.1); laid = tt })

pub bounds-table-2 : goal.bounds-table-2
bounds-table-2 c = omega (arith, head_room _ (fine (goal.at.bounds-table-2 c).In_ok-map_err))

pub bounds-table-3 : goal.bounds-table-3
bounds-table-3 c = omega (arith, head_room _ (fine (goal.at.bounds-table-3 c).In_ok-map_err))

pub scan_streams-requires : goal.scan_streams-requires
scan_streams-requires c = (omega arith, omega (arith, (head_fits _ (fine (goal.at.scan_streams-requires c).In_ok-map_err)).few, c.from-inputs.ensures, c.from.ensures), c.requires.0, c.requires.1, c.requires.2)

pub returns : goal.returns
returns c =
    whole_head _ c.if-table-lt-TABLE_LEAST.false c.if-table-gt-TABLE_MOST.false (fine (goal.at.returns c).In_ok-map_err) c.from-inputs.ensures c.from.ensures c.scan_streams.ensures
