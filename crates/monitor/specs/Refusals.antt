-- The first fault of each call, in document 01's order ("Refusal numbers"); number 0 where there is none.
-- Assumes nothing.
use Rattle.std.specs.Prelude.{ℕ, Bool, true, false, cond, not, ◌&&◌, List, [], ◌∷◌, eqb, ltb, leb, length, Result, Ok, Err}
use Rattle.limits.specs.Limits.{most_rows}
use Rattle.limits.specs.Refusals.{accepted, foreign_record, short_store, wrong_phase, row_limit, row_length_of, wrong_flag, short_output}
use Rattle.limits.specs.declared.Refusal.{Refusal}
use Rattle.limits.specs.Faults.{number_for}
use Rattle.announce.specs.declared.Checked.{Checked}
use Rattle.announce.specs.Announced.{announced}
use Rattle.prepare.specs.declared.Prepared.{Prepared}
use Rattle.prepare.specs.PlanFor.{table_for, first_bad_of}
use Rattle.monitor.specs.declared.Phase.{Phase}
use Rattle.monitor.specs.declared.Phase.TheVariants.{Reading, Draining, Over}
use Rattle.monitor.specs.declared.Run.{Run}
use Rattle.monitor.specs.declared.Turn.{Turn}
use Rattle.monitor.specs.declared.Turn.TheVariants.{Row, Closing}

-- the first fault of a call, by document 01's numbers; number 0 where there is none
pub record Fault : Type 0 where
  pub number : ℕ
  pub place : ℕ

abbrev pub fault : ℕ → ℕ → Fault
fault n p = record { number = n; place = p }

-- no fault
abbrev pub fine : Fault
fine = fault accepted 0

-- a refusal of the code by document 01's numbers
abbrev pub told : Refusal → Fault
told r = fault (number_for r.fault) r.place

-- the fault that a call's tests found, or none
abbrev pub tested : {A : Type 0} → Result A Refusal → Fault
tested (Ok x) = fine
tested (Err r) = told r

-- refusal n at place p where the test holds, else what comes after it
abbrev pub refuse_if : Bool → (n p : ℕ) → Fault → Fault
refuse_if b n p f = cond b (fault n p) f

-- "Every call tests the table first."
unfoldable pub after_table : List ℕ → Fault → Fault
after_table s f = refuse_if (not (eqb (announced s).number accepted)) (announced s).number (announced s).place f

-- all numbers of two lists equal
unfoldable pub eqbs : List ℕ → List ℕ → Bool
eqbs [] [] = true
eqbs [] (y ∷ ys) = false
eqbs (x ∷ xs) [] = false
eqbs (x ∷ xs) (y ∷ ys) = eqb x y && eqbs xs ys

-- "reading with 0 turns done; draining with N at least 1 and done below the closing turns; over with exactly all done if N is at
-- least 1, exactly 0 if N = 0"
unfoldable pub phase_agrees : Phase → (rows done closing : ℕ) → Bool
phase_agrees Reading rows done closing = eqb done 0
phase_agrees Draining rows done closing = ltb 0 rows && ltb done closing
phase_agrees Over rows done closing = eqb done (cond (eqb rows 0) 0 closing)

-- "rows are within the limit, and the phase agrees"
unfoldable pub record_agrees_of : Phase → (rows done closing : ℕ) → Bool
record_agrees_of phase rows done closing = leb rows most_rows && phase_agrees phase rows done closing

-- "A record is of the table when its numbers are those announced, rows are within the limit, and the phase agrees"
unfoldable pub of_table_of : Run → Checked → Bool
of_table_of r c = eqbs r.look c.look && (eqbs r.kept c.kept && record_agrees_of r.phase r.rows r.done c.closing)

unfoldable pub is_reading_of : Phase → Bool
is_reading_of Reading = true
is_reading_of Draining = false
is_reading_of Over = false

unfoldable pub is_draining_of : Phase → Bool
is_draining_of Reading = false
is_draining_of Draining = true
is_draining_of Over = false

-- "Opening goes on with 11"; `lent` words of store are lent
unfoldable pub open_fault : (s : List ℕ) (lent : ℕ) → Fault
open_fault s lent = after_table s (refuse_if (ltb lent (announced s).words) short_store 0 fine)

-- "closing with 10, 12"
unfoldable pub close_refusal : (is_of_table : Bool) → Phase → Fault
close_refusal is_of_table phase = refuse_if (not is_of_table) foreign_record 0 (refuse_if (not (is_reading_of phase)) wrong_phase 0 fine)

abbrev pub close_fault_of : (s : List ℕ) → Run → Fault
close_fault_of s r = after_table s (close_refusal (of_table_of r (announced s)) r.phase)

-- "a row with 10 to 16 in order": a row of `given` words for I inputs, whose first bad flag is that of stream `bad`; `lent` words of store
-- and `space` bytes of output are lent
unfoldable pub row_refusal : (is_of_table : Bool) → Phase → (rows words room inputs bad lent given space : ℕ) → Fault
row_refusal is_of_table phase rows words room inputs bad lent given space =
    refuse_if (not is_of_table) foreign_record 0
    (refuse_if (ltb lent words) short_store 0
    (refuse_if (not (is_reading_of phase)) wrong_phase 0
    (refuse_if (leb most_rows rows) row_limit 0
    (refuse_if (not (eqb given inputs)) row_length_of 0
    (refuse_if (ltb bad inputs) wrong_flag bad
    (refuse_if (ltb space room) short_output 0
    fine))))))

abbrev pub row_fault_of : (s : List ℕ) → Run → (lent : ℕ) (ws : List ℕ) (space : ℕ) → Fault
row_fault_of s r lent ws space =
    let c = announced s in
    let t = table_for s in
    after_table s (row_refusal (of_table_of r c) r.phase r.rows c.words c.room t.inputs (first_bad_of t.types ws t.inputs 0) lent (length ws) space)

-- "draining with 10, 11, 12, 16"
unfoldable pub drain_refusal : (is_of_table : Bool) → Phase → (words room lent space : ℕ) → Fault
drain_refusal is_of_table phase words room lent space =
    refuse_if (not is_of_table) foreign_record 0 (refuse_if (ltb lent words) short_store 0 (refuse_if (not (is_draining_of phase)) wrong_phase 0 (refuse_if (ltb space room) short_output 0 fine)))

abbrev pub drain_fault_of : (s : List ℕ) → Run → (lent space : ℕ) → Fault
drain_fault_of s r lent space =
    let c = announced s in
    after_table s (drain_refusal (of_table_of r c) r.phase c.words c.room lent space)

-- the same by a brief's sums and types, where the record's numbers are those announced
abbrev pub agrees_with : Run → Prepared → Bool
agrees_with r p = record_agrees_of r.phase r.rows r.done p.closing

abbrev pub row_tests_of : Run → Prepared → (types : List ℕ) (lent : ℕ) (ws : List ℕ) (space : ℕ) → Fault
row_tests_of r p types lent ws space =
    row_refusal (agrees_with r p) r.phase r.rows p.words p.room p.inputs (first_bad_of types ws p.inputs 0) lent (length ws) space

abbrev pub drain_tests_of : Run → Prepared → (lent space : ℕ) → Fault
drain_tests_of r p lent space = drain_refusal (agrees_with r p) r.phase p.words p.room lent space

abbrev pub close_tests_of : Run → Prepared → Fault
close_tests_of r p = close_refusal (agrees_with r p) r.phase

-- the first fault of a turn's call: of a row, or of a closing turn, for which there is no row
abbrev pub turn_fault_of : Turn → (s : List ℕ) → Run → (lent : ℕ) (ws : List ℕ) (space : ℕ) → Fault
turn_fault_of Row s r lent ws space = row_fault_of s r lent ws space
turn_fault_of Closing s r lent ws space = drain_fault_of s r lent space

abbrev pub turn_tests : Turn → Run → Prepared → (types : List ℕ) (lent : ℕ) (ws : List ℕ) (space : ℕ) → Fault
turn_tests Row r p types lent ws space = row_tests_of r p types lent ws space
turn_tests Closing r p types lent ws space = drain_tests_of r p lent space
