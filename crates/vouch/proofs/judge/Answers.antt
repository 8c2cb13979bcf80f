-- `judge`: the pass over the equations up to that of y; nothing is noted between two of them.
-- Assumes nothing.
use mathlib.Core.List.{List}
use mathlib.Core.Path.{◌≡◌, sym}
use Prim.Native.Nat.{ℕ, ◌+◌, ◌<◌}
use native.Mathlib.Omega.{arith}
use borrow.Author.Rules.{rules}
use borrow.Author.Tests.{ne_eqb}
use lib.ListN.{length, get_or, take, get_or-replicate}
use lib.Seq.{get_or-take, length-take-le}
use Rattle.basis.specs.Firsts.{of}
use Rattle.limits.specs.Limits.{most_streams, most_levels}
use Rattle.expression.specs.Grammar.{parse}
use Rattle.expression.specs.Seen.{no_type}
use Rattle.expression.proofs.Seeing.{fresh_seen}
use Rattle.expression.specs.Scanning.{Scanning}
use Rattle.table.proofs.Arrays.{zeros_at_first, zeros_front}
use Rattle.table.proofs.Faults.{equation_room}
use Rattle.certificate.proofs.Tally.{none_noted}
use Rattle.certificate.proofs.Forgetting.{forgotten_seen}
use Rattle.vouch.proofs.Equation.{fault_found, none_found, faulty_equation, no_equation, lacking_row, read, read_behind, noted_row, clean_again}
use Rattle.vouch.proofs.Pass.{pass_start, pass_on, pass_refused, pass_other, pass_settled}
use Rattle.vouch.proofs.judge.Goals as goal
use Rattle.vouch.proofs.judge.Goals.{then-leaf_stands, else-leaf_stands}

-- what either scan, that of a leaf or that of an operator, leaves of an equation's expression
abbrev Scans : List ℕ → List ℕ → ℕ → ℕ → List (List ℕ) → List (List ℕ) → ℕ → Type 0
Scans ts s wanted start seen seen' end = Scanning (parse most_levels ts s wanted start) s ts seen seen' end

pub loop-y-init : goal.loop-y-init
loop-y-init c =
    let ts : List ℕ = take c.args.streams c.args.types.now in
    let n : length ts ≡ c.args.streams = length-take-le c.args.streams c.args.types.now (omega (arith, c.requires.sized.0, c.requires.sized.1)) in
    let typed : (v : ℕ) → v < length ts → get_or ts v 0 < no_type = λ v l. omega (arith, get_or-take c.args.streams c.args.types.now v 0 (omega (arith, l, n)), c.requires.typed v (omega (arith, l, n))) in
    let fresh = fresh_seen c.args.types.now c.args.streams c.requires.sized.0 c.see.ensures typed in
    record {
      behind = c.requires.place;
      seen_are = fresh.0;
      unnoted = fresh.1;
      passed = pass_start _ _ _ _ _ _ (none_noted _ _ _ (search rules) (search rules) (λ y h. get_or-replicate most_streams y 0 0 h) (λ y h. get_or-replicate most_streams y 0 0 h))
          (rw c.requires.starts_blank (search rules)) (rw c.requires.starts_blank (zeros_at_first _)) (rw c.requires.starts_blank (zeros_front c.args.inputs most_streams (omega (arith, c.requires.some, c.requires.sized.0))));
    }

pub returns-then-is_err : goal.returns-then-is_err
returns-then-is_err c = pass_refused _ _ _ _ _ _ c.loop-y.invariant.passed c.loop-y-test.true
    (faulty_equation (take c.args.streams c.args.types.now) c.args.table.now c.loop-y.y c.loop-y.next (fault_found _ c.if-is_err.ensures.value c.test_equation.ensures)) _ _

pub scan_leaf-end-requires : goal.scan_leaf-end-requires
scan_leaf-end-requires c = (
  record {
    tabulated = c.requires.tabulated;
    few = c.requires.short;
    wants = c.requires.typed c.loop-y.y c.loop-y-test.true;
    place = equation_room _ _ c.loop-y.y (none_found _ c.if-is_err.ensures.value c.test_equation.ensures);
    types = take c.args.streams c.args.types.now;
    rows = c.loop-y.invariant.seen_are;
  },
  sym c.if-leaf_stands.ensures,
)

pub scan_operator-end-requires : goal.scan_operator-end-requires
scan_operator-end-requires c = (
  record {
    tabulated = c.requires.tabulated;
    few = c.requires.short;
    wants = c.requires.typed c.loop-y.y c.loop-y-test.true;
    place = equation_room _ _ c.loop-y.y (none_found _ c.if-is_err.ensures.value c.test_equation.ensures);
    types = take c.args.streams c.args.types.now;
    rows = c.loop-y.invariant.seen_are;
  },
  (sym c.if-leaf_stands.ensures, omega arith),
)

pub returns-in_default : goal.returns-in_default
returns-in_default c =
    let ts : List ℕ = take c.args.streams c.args.types.now in
    let sc : Scans ts c.args.table.now (get_or c.args.types.now c.loop-y.y 0) (c.loop-y.next + 2) c.loop-y.seen c.if-leaf_stands.seen c.if-leaf_stands.end.code = elim c.if-leaf_stands.branch [
      | then-leaf_stands p ↦ rw (p.seen-is, p.end-is) (p.scan_leaf-end.ensures ts 15 c.loop-y.invariant.seen_are)
      | else-leaf_stands p ↦ rw (p.seen-is, p.end-is) (p.scan_operator-end.ensures ts c.loop-y.invariant.seen_are)
    ] in
    let at_y : get_or c.args.types.now c.loop-y.y 0 ≡ get_or ts c.loop-y.y 0 = sym (get_or-take c.args.streams c.args.types.now c.loop-y.y 0 c.loop-y-test.true) in
    let fine = none_found _ c.if-is_err.ensures.value c.test_equation.ensures in
    pass_refused _ _ _ _ _ _ c.loop-y.invariant.passed c.loop-y-test.true (no_equation ts c.args.table.now c.loop-y.y c.loop-y.next fine at_y c.requires.short sc c.in_default.ensures.0) _ _

pub note_row-requires : goal.note_row-requires
note_row-requires c =
    let ts : List ℕ = take c.args.streams c.args.types.now in
    let sc : Scans ts c.args.table.now (get_or c.args.types.now c.loop-y.y 0) (c.loop-y.next + 2) c.loop-y.seen c.if-leaf_stands.seen c.if-leaf_stands.end.code = elim c.if-leaf_stands.branch [
      | then-leaf_stands p ↦ rw (p.seen-is, p.end-is) (p.scan_leaf-end.ensures ts 15 c.loop-y.invariant.seen_are)
      | else-leaf_stands p ↦ rw (p.seen-is, p.end-is) (p.scan_operator-end.ensures ts c.loop-y.invariant.seen_are)
    ] in
    (omega (arith, c.loop-y-test.true, c.requires.sized.0), c.requires.sized.0, sc.left.shape)

pub returns-then-not-note_row : goal.returns-then-not-note_row
returns-then-not-note_row c =
    let ts : List ℕ = take c.args.streams c.args.types.now in
    let sc : Scans ts c.args.table.now (get_or c.args.types.now c.loop-y.y 0) (c.loop-y.next + 2) c.loop-y.seen c.if-leaf_stands.seen c.if-leaf_stands.end.code = elim c.if-leaf_stands.branch [
      | then-leaf_stands p ↦ rw (p.seen-is, p.end-is) (p.scan_leaf-end.ensures ts 15 c.loop-y.invariant.seen_are)
      | else-leaf_stands p ↦ rw (p.seen-is, p.end-is) (p.scan_operator-end.ensures ts c.loop-y.invariant.seen_are)
    ] in
    let at_y : get_or c.args.types.now c.loop-y.y 0 ≡ get_or ts c.loop-y.y 0 = sym (get_or-take c.args.streams c.args.types.now c.loop-y.y 0 c.loop-y-test.true) in
    let fine = none_found _ c.if-is_err.ensures.value c.test_equation.ensures in
    let long : length ts ≡ c.args.streams = length-take-le c.args.streams c.args.types.now (omega (arith, c.requires.sized.0, c.requires.sized.1)) in
    pass_refused _ _ _ _ _ _ c.loop-y.invariant.passed c.loop-y-test.true
    (lacking_row ts c.args.table.now c.loop-y.y c.loop-y.next fine at_y c.requires.short sc long c.requires.sized.0 c.loop-y.invariant.seen_are c.loop-y.invariant.unnoted (rw c.if-not-note_row.true at c.note_row.ensures)) _ _

pub loop-y-preserved : goal.loop-y-preserved
loop-y-preserved c =
    let ts : List ℕ = take c.args.streams c.args.types.now in
    let sc : Scans ts c.args.table.now (get_or c.args.types.now c.loop-y.y 0) (c.loop-y.next + 2) c.loop-y.seen c.if-leaf_stands.seen c.if-leaf_stands.end.code = elim c.if-leaf_stands.branch [
      | then-leaf_stands p ↦ rw (p.seen-is, p.end-is) (p.scan_leaf-end.ensures ts 15 c.loop-y.invariant.seen_are)
      | else-leaf_stands p ↦ rw (p.seen-is, p.end-is) (p.scan_operator-end.ensures ts c.loop-y.invariant.seen_are)
    ] in
    let at_y : get_or c.args.types.now c.loop-y.y 0 ≡ get_or ts c.loop-y.y 0 = sym (get_or-take c.args.streams c.args.types.now c.loop-y.y 0 c.loop-y-test.true) in
    let fine = none_found _ c.if-is_err.ensures.value c.test_equation.ensures in
    let long : length ts ≡ c.args.streams = length-take-le c.args.streams c.args.types.now (omega (arith, c.requires.sized.0, c.requires.sized.1)) in
    let note = rw c.if-not-note_row.false at c.note_row.ensures in
    let start = c.loop-y.invariant.seen_are in
    let un = c.loop-y.invariant.unnoted in
    let ended = c.in-Ok.ensures.0 in
    let r = read ts c.args.table.now c.loop-y.y c.loop-y.next fine at_y c.requires.short sc long c.requires.sized.0 start un ended in
    rw c.in-Ok.ensures.1
    (record {
      behind = read_behind ts c.args.table.now c.loop-y.y c.loop-y.next fine at_y c.requires.short sc long c.requires.sized.0 start un ended;
      seen_are = forgotten_seen note.1 sc.left;
      unnoted = clean_again ts c.args.table.now c.loop-y.y c.loop-y.next fine at_y c.requires.short sc long c.requires.sized.0 start un ended note.1;
      passed = pass_on _ _ _ _ _ _ c.loop-y.invariant.passed c.loop-y-test.true (omega (arith, c.loop-y-test.true, c.requires.sized.0)) r.1
          (noted_row ts c.args.table.now c.loop-y.y c.loop-y.next fine at_y c.requires.short sc long c.requires.sized.0 start un ended note.0);
    })

pub returns-then-next-table : goal.returns-then-next-table
returns-then-next-table c = pass_settled _ _ _ _ _ _ c.loop-y.invariant.passed c.loop-y-test.false (of c.args.kept.now) (omega (arith, c.loop-y.auto.y-end c.requires.some, c.requires.sized.0)) c.if-next-table.true c.settle.result _ c.settle.ensures

pub returns-else-next-table : goal.returns-else-next-table
returns-else-next-table c = rw (ne_eqb _ _ c.if-next-table.false) (λ qs e ends r. pass_other _ _ _ _ _ _ c.loop-y.invariant.passed c.loop-y-test.false c.if-next-table.false qs e)
