-- Document 01's cases hold of the definitions: one theorem over the one list.
-- Assumes nothing.
use Prim.Native.Nat.{ℕ}
use native.Mathlib.Omega.{arith}
use mathlib.Core.Path.{◌≡◌, refl, subst}
use mathlib.Core.List.{List, [], ◌∷◌, map}
use lib.ListN.{drop}
use lib.Ieee as Ieee
use Rattle.basis.specs.Sums.{total, most}
use Rattle.value.specs.declared.Value.{Value}
use Rattle.value.specs.declared.Value.TheVariants.{Word}
use Rattle.value.specs.Values.{op_of}
use Rattle.node.specs.Kinds.{rule_of, rows, look, meant}
use Rattle.node.specs.Node.{signed_of, node_of, node_by, node_at, type_fault_of, word_fault_of, zero_fault_of, first, fault_for, fault_at, head_of, head_by_of, head_at}
use Rattle.wire.specs.Bytes.{word_at}
use Rattle.expression.specs.Grammar.{operands, step, parse}
use Rattle.expression.specs.References.{node_references, references}
use Rattle.table.specs.Records.{record_fault_of, type_rule_of, role_rule_of, head_fault_of, input_fault_of, output_fault_of, equation_fault_of, side_of, stream_fault_of, role_at, declared, heads}
use Rattle.table.specs.Table.{Table, equation_at, equations_at_of, table_of, decode, edges_from, edges}
use Rattle.table.specs.TableA.{table_a, tree_a}
use Rattle.walks.specs.Longest.{only, square_for, through, all_below, loops_below_of, look_to, look_of, sup_to, back, short_loop_of, lowest, place_of, slack_of, kept_from}
use Rattle.basis.specs.Firsts.{firsts}
use Rattle.announce.specs.Announced.{look_ahead_of, kept_values_of, store_words, room_bytes_of, closing_turns_of, weigh_table, announced}
use Rattle.table.specs.Generation.{Generated}
use Rattle.table.proofs.Generation.{one_table}
use Rattle.table.proofs.TableA.{table_a_generated}
use Rattle.lola.specs.Models.{value, refer}
use Rattle.run.specs.Run.{gather, owed}
use Rattle.prepare.specs.PlanFor.{plan_for}
use Rattle.monitor.specs.Turns.{in_words}
use Rattle.meaning.specs.Expressions.{meaning}
use Rattle.meaning.specs.Tables.{TableModel}
use Rattle.cases.specs.Cases.{words_from, AllHold, rows_p2, row_p4, cases}

-- table A's model, for a list of rows: streams 1 and 2 read stream 0 only, and that is given
module _ (rows : List (List ℕ)) (t : Table) (g : Generated table_a t) (σ : ℕ → ℕ → Value) (m : TableModel t rows σ) where
  pub model_A : TableModel tree_a rows σ
  model_A = subst (λ (u : Table). TableModel u rows σ) (one_table g table_a_generated) m

-- what holds of every model of table A holds of every model of the table whose bytes they are
of_table_A : (rows : List (List ℕ)) (P : (ℕ → ℕ → Value) → Type 0) → ((σ : ℕ → ℕ → Value) → TableModel tree_a rows σ → P σ)
    → (t : Table) → Generated table_a t → (σ : ℕ → ℕ → Value) → TableModel t rows σ → P σ
of_table_A rows P h t g σ m = h σ (model_A rows t g σ m)

-- P2 and P3
module _ (σ : ℕ → ℕ → Value) (m : TableModel tree_a rows_p2 σ) where
  row0 : σ 0 0 ≡ Word 4294967290
  row0 = m.given 0 0 (omega arith) (omega arith)

  row1 : σ 0 1 ≡ Word 4
  row1 = m.given 0 1 (omega arith) (omega arith)

  row2 : σ 0 2 ≡ Word 3
  row2 = m.given 0 2 (omega arith) (omega arith)

  stream1 : words_from σ 1 3 0 ≡ 4294967290 ∷ 10 ∷ 4294967295 ∷ []
  unfolding words_from meaning value refer op_of
  stream1 =
      rw (m.holds 1 0 (omega arith) (omega arith) (omega arith), m.holds 1 1 (omega arith) (omega arith) (omega arith), m.holds 1 2 (omega arith) (omega arith) (omega arith))
      (rw (row0, row1, row2))

  stream2 : words_from σ 2 3 0 ≡ 0 ∷ 1 ∷ 0 ∷ []
  unfolding words_from meaning value refer op_of
  stream2 =
      rw (m.holds 2 0 (omega arith) (omega arith) (omega arith), m.holds 2 1 (omega arith) (omega arith) (omega arith), m.holds 2 2 (omega arith) (omega arith) (omega arith))
      (rw (row0, row1, row2))

-- P4
module _ (σ : ℕ → ℕ → Value) (m : TableModel tree_a row_p4 σ) where
  row : σ 0 0 ≡ Word 5
  row = m.given 0 0 (omega arith) (omega arith)

  stream1_P4 : words_from σ 1 1 0 ≡ 5 ∷ []
  unfolding words_from meaning value refer op_of
  stream1_P4 = rw (m.holds 1 0 (omega arith) (omega arith) (omega arith)) (rw row)

  stream2_P4 : words_from σ 2 1 0 ≡ 0 ∷ []
  unfolding words_from meaning value refer op_of
  stream2_P4 = rw (m.holds 2 0 (omega arith) (omega arith) (omega arith)) (rw row)

  -- turn 0 owes stream 1, the closing turn stream 2
  turn0 : map in_words (owed (plan_for table_a) σ 1 0) ≡ record { stream = 1; position = 0; word = 5 } ∷ []
  unfolding table_a rule_of rows look meant word_at signed_of node_of node_by node_at type_fault_of word_fault_of zero_fault_of first fault_for fault_at head_of head_by_of head_at operands step parse node_references references record_fault_of type_rule_of role_rule_of head_fault_of input_fault_of output_fault_of equation_fault_of side_of stream_fault_of role_at declared heads equation_at equations_at_of table_of decode edges_from edges only square_for through all_below loops_below_of look_to look_of sup_to back short_loop_of lowest place_of slack_of kept_from firsts total most look_ahead_of kept_values_of store_words room_bytes_of closing_turns_of weigh_table announced plan_for owed gather meaning value refer op_of
  turn0 = rw (m.holds 1 0 (omega arith) (omega arith) (omega arith)) (rw row)

  turn1 : map in_words (owed (plan_for table_a) σ 1 1) ≡ record { stream = 2; position = 0; word = 0 } ∷ []
  unfolding table_a rule_of rows look meant word_at signed_of node_of node_by node_at type_fault_of word_fault_of zero_fault_of first fault_for fault_at head_of head_by_of head_at operands step parse node_references references record_fault_of type_rule_of role_rule_of head_fault_of input_fault_of output_fault_of equation_fault_of side_of stream_fault_of role_at declared heads equation_at equations_at_of table_of decode edges_from edges only square_for through all_below loops_below_of look_to look_of sup_to back short_loop_of lowest place_of slack_of kept_from firsts total most look_ahead_of kept_values_of store_words room_bytes_of closing_turns_of weigh_table announced plan_for owed gather meaning value refer op_of
  turn1 = rw (m.holds 2 0 (omega arith) (omega arith) (omega arith)) (rw row)

-- P11 and P5: the operators
from_P11 : AllHold (drop 16 cases)
unfolding op_of Ieee.of_bits Ieee.div Ieee.to_bits
from_P11 = (refl, (refl, tt))

-- P6 to P10: the check
from_P6 : AllHold (drop 11 cases)
unfolding table_a rule_of rows look meant word_at signed_of node_of node_by node_at type_fault_of word_fault_of zero_fault_of first fault_for fault_at head_of head_by_of head_at operands step parse node_references references record_fault_of type_rule_of role_rule_of head_fault_of input_fault_of output_fault_of equation_fault_of side_of stream_fault_of role_at declared heads equation_at equations_at_of table_of decode edges_from edges only square_for through all_below loops_below_of look_to look_of sup_to back short_loop_of lowest place_of slack_of kept_from firsts total most look_ahead_of kept_values_of store_words room_bytes_of closing_turns_of weigh_table announced
from_P6 = (refl, (refl, (refl, (refl, (refl, from_P11)))))

from_P5 : AllHold (drop 7 cases)
unfolding op_of
from_P5 = (refl, (refl, (refl, (refl, from_P6))))

-- P4: one row of table A
from_P4 : AllHold (drop 3 cases)
from_P4 =
    (of_table_A row_p4 _ stream1_P4, (of_table_A row_p4 _ stream2_P4, (of_table_A row_p4 _ turn0, (of_table_A row_p4 _ turn1, from_P5))))

pub cases_hold : AllHold cases
unfolding table_a rule_of rows look meant word_at signed_of node_of node_by node_at type_fault_of word_fault_of zero_fault_of first fault_for fault_at head_of head_by_of head_at operands step parse node_references references record_fault_of type_rule_of role_rule_of head_fault_of input_fault_of output_fault_of equation_fault_of side_of stream_fault_of role_at declared heads equation_at equations_at_of table_of decode edges_from edges only square_for through all_below loops_below_of look_to look_of sup_to back short_loop_of lowest place_of slack_of kept_from firsts total most look_ahead_of kept_values_of store_words room_bytes_of closing_turns_of weigh_table announced
cases_hold = (refl, (of_table_A rows_p2 _ stream1, (of_table_A rows_p2 _ stream2, from_P4)))
