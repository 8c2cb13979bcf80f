-- `scan_streams`: the inputs' records, then the outputs'.
-- Assumes nothing.
use Rattle.std.proofs.Common.{Ok, Err, rules}
use Rattle.std.proofs.lemmas.Result.{err_from_is_err_and}
use mathlib.Core.Path.{◌≡◌, refl, sym, ap, ◌∙◌}
use mathlib.Core.List.{List}
use Prim.Native.Nat.{ℕ, ◌≤◌}
use native.Mathlib.Omega.{arith}
use lib.ListN.{length, take, replicate, length-set, length-replicate}
use lib.Seq.{length-take-le}
use Rattle.limits.specs.Faults.{number_for}
use Rattle.limits.specs.Limits.{most_streams}
use Rattle.limits.specs.declared.Refusal.{Refusal}
use Rattle.limits.proofs.Faults.{none_at, refused_at}
use Rattle.table.proofs.Arrays.{ZeroFrom, zeros_at_first, zeros_left, zeros_after, padded_front}
use Rattle.table.proofs.Faults.{input_room, output_room}
use Rattle.table.proofs.Streams.{streams_first, streams_end, input_wrong, input_more, output_wrong, output_more}
use Rattle.table.specs.Records.{Declared, declares, wrong, input_fault_of, output_fault_of}
use Rattle.table.specs.Answers.{Headings}
use Rattle.table.proofs.scan_streams.Goals as goal
use Rattle.table.proofs.scan_streams.Goals.{In_ok-map_err, In_ok-map_err-2}
use Rattle.table.proofs.scan_streams.Invariants.{Declaring}

start : (s : List ℕ) {types roles : List ℕ} (inputs streams : ℕ) → types ≡ replicate most_streams 0 → roles ≡ replicate most_streams 0 → Declaring s types roles inputs streams 0 4
start s inputs streams e f = rw (e, f) (record {
  types_array = length-replicate {A = ℕ} most_streams 0;
  roles_array = length-replicate {A = ℕ} most_streams 0;
  declares_on = streams_first _ _ _ _;
  types_rest = zeros_at_first 0;
  roles_rest = zeros_at_first 0;
})

-- all records are read, or one is wrong
module _ {i : ℕ} {d : Declared} {types roles : List ℕ} where
  whole : {n v place : ℕ} → declares (take v types) (take v roles) place ≡ d → v ≡ n → length types ≡ most_streams → length roles ≡ most_streams → n ≤ most_streams → ZeroFrom v types → ZeroFrom v roles
      → Headings i d (Ok (record { place = place; inputs = i; streams = n })) types roles
  whole {n} {v} {place} e p l m w y z = rw (← e) (record {
    answer = ap (λ (n : ℕ). record { place = place; inputs = i; streams = n }) (sym p ∙ sym (length-take-le v types (omega arith)));
    laid = (padded_front types v l (omega arith) y, padded_front roles v m (omega arith) z);
  })

  faulty : {r : Refusal} {place : ℕ} → wrong (number_for r.fault) place ≡ d → place ≡ r.place → Headings i d (Err r) types roles
  faulty e q = rw (← e) (record { answer = (refl, q); laid = tt })

fine_input : (c : In_ok-map_err) → input_fault_of c.args.table.now c.loop-v.place ≡ 0
fine_input c = none_at _ _ c.test_input.ensures c.map_err.ensures.cases c.in_ok-map_err.was

fine_output : (c : In_ok-map_err-2) → output_fault_of c.args.table.now c.loop-y.place ≡ 0
fine_output c = none_at _ _ c.test_output.ensures c.map_err-in-loop-y.ensures.cases c.in_ok-map_err-2.was

pub loop-v-init : goal.loop-v-init
loop-v-init c = start _ _ _ c.requires.2 c.requires.3

pub returns-in_err-map_err : goal.returns-in_err-map_err
returns-in_err-map_err c =
    let a = refused_at _ _ c.test_input.ensures c.map_err.ensures.cases {place = c.loop-v.place} (λ f a q. search rules) c.in_err-map_err.was in
    let w = err_from_is_err_and c.from_residual.result c.from_residual.ensures.1 in
    rw (w.1, w.2)
    (faulty (sym (input_wrong _ _ _ _ _ (omega (arith, c.loop-v-test.true, c.requires.0)) c.loop-v-test.true _ a.0 _ _) ∙ c.loop-v.invariant.declares_on) a.1)

pub overflow_add-types : goal.overflow_add-types
overflow_add-types c = omega (arith, input_room _ _ (fine_input c))

pub bounds-table-place : goal.bounds-table-place
bounds-table-place c = omega (arith, input_room _ _ (fine_input (goal.at.bounds-table-place c).In_ok-map_err))

pub overflow_add-place : goal.overflow_add-place
overflow_add-place c = omega (arith, input_room _ _ (fine_input (goal.at.overflow_add-place c).In_ok-map_err))

pub loop-v-preserved : goal.loop-v-preserved
loop-v-preserved c = record {
  types_array = rw length-set c.loop-v.invariant.types_array;
  roles_array = c.loop-v.invariant.roles_array;
  declares_on =
      input_more _ _ _ _ _ (omega (arith, c.loop-v-test.true, c.requires.0)) c.loop-v-test.true (fine_input (goal.at.loop-v-preserved c).In_ok-map_err) _ _
      (omega (arith, c.loop-v-test.true, c.requires.0, c.requires.1, c.loop-v.invariant.types_array)) (omega (arith, c.loop-v-test.true, c.requires.0, c.requires.1, c.loop-v.invariant.roles_array))
      (c.loop-v.invariant.roles_rest.zero_at _ (omega arith))
      ∙ c.loop-v.invariant.declares_on;
  types_rest = zeros_left _ c.loop-v.invariant.types_rest;
  roles_rest = zeros_after c.loop-v.invariant.roles_rest;
}

pub returns-in_err-map_err-2 : goal.returns-in_err-map_err-2
returns-in_err-map_err-2 c =
    let a = refused_at _ _ c.test_output.ensures c.map_err-in-loop-y.ensures.cases {place = c.loop-y.place} (λ f a q. search rules) c.in_err-map_err-2.was in
    let w = err_from_is_err_and c.from_residual-in_err-map_err-2.result c.from_residual-in_err-map_err-2.ensures.1 in
    rw (w.1, w.2)
    (faulty (sym (output_wrong _ _ _ _ _ c.loop-y-test.true c.loop-y.auto.y _ a.0 _ _) ∙ c.loop-y.invariant.declares_on) a.1)

pub overflow_add-types-in-loop-y : goal.overflow_add-types-in-loop-y
overflow_add-types-in-loop-y c = omega (arith, output_room _ _ (fine_output c))

pub bounds-table-place-in-loop-y : goal.bounds-table-place-in-loop-y
bounds-table-place-in-loop-y c = omega (arith, output_room _ _ (fine_output (goal.at.bounds-table-place-in-loop-y c).In_ok-map_err-2))

pub overflow_add-roles : goal.overflow_add-roles
overflow_add-roles c = omega (arith, output_room _ _ (fine_output (goal.at.overflow_add-roles c).In_ok-map_err-2))

pub bounds-table-place-in-loop-y-2 : goal.bounds-table-place-in-loop-y-2
bounds-table-place-in-loop-y-2 c = omega (arith, output_room _ _ (fine_output (goal.at.bounds-table-place-in-loop-y-2 c).In_ok-map_err-2))

pub overflow_add-place-in-loop-y : goal.overflow_add-place-in-loop-y
overflow_add-place-in-loop-y c = omega (arith, output_room _ _ (fine_output (goal.at.overflow_add-place-in-loop-y c).In_ok-map_err-2))

pub loop-y-preserved : goal.loop-y-preserved
loop-y-preserved c = record {
  types_array = rw length-set c.loop-y.invariant.types_array;
  roles_array = rw length-set c.loop-y.invariant.roles_array;
  declares_on =
      output_more _ _ _ _ _ c.loop-y-test.true c.loop-y.auto.y (fine_output (goal.at.loop-y-preserved c).In_ok-map_err-2) _ _
      (omega (arith, c.loop-y-test.true, c.requires.1, c.loop-y.invariant.types_array)) (omega (arith, c.loop-y-test.true, c.requires.1, c.loop-y.invariant.roles_array))
      ∙ c.loop-y.invariant.declares_on;
  types_rest = zeros_left _ c.loop-y.invariant.types_rest;
  roles_rest = zeros_left _ c.loop-y.invariant.roles_rest;
}

pub returns : goal.returns
returns c =
    whole (sym (streams_end _ _ _ _ _ _ _ c.loop-y-test.false) ∙ c.loop-y.invariant.declares_on) (omega (arith, c.loop-y.auto.y-end c.requires.0, c.loop-y-test.false)) c.loop-y.invariant.types_array c.loop-y.invariant.roles_array c.requires.1
    c.loop-y.invariant.types_rest c.loop-y.invariant.roles_rest
