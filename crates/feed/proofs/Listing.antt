-- The program's examples, and document 01's listing with P2 and P3 among them, follow from the definition by computation.
-- Assumes nothing.
use mathlib.Core.Path.{refl}
use Rattle.basis.specs.Firsts.{firsts}
use Rattle.basis.specs.Sums.{total, most}
use Rattle.wire.specs.Bytes.{le4, word_at}
use Rattle.lines.specs.Lines.{last_digits, decimal, hex_digit_of, hex8, value_line, trigger_line, refusal_line, stop_line, end_line}
use Rattle.records.specs.Reading.{items_given}
use Rattle.records.specs.Lines.{item_line, item_lines}
use Rattle.value.specs.Values.{op_of}
use Rattle.node.specs.Kinds.{rule_of, rows, look, meant}
use Rattle.node.specs.Node.{signed_of, node_of, node_by, node_at, type_fault_of, word_fault_of, zero_fault_of, first, fault_for, fault_at, head_of, head_by_of, head_at}
use Rattle.expression.specs.Grammar.{operands, step, parse}
use Rattle.expression.specs.References.{node_references, references}
use Rattle.table.specs.Records.{record_fault_of, type_rule_of, role_rule_of, head_fault_of, input_fault_of, output_fault_of, equation_fault_of, side_of, stream_fault_of, role_at, declared, heads}
use Rattle.table.specs.Table.{equation_at, equations_at_of, table_of, decode, edges_from, edges}
use Rattle.table.specs.TableA.{table_a}
use Rattle.walks.specs.Longest.{only, square_for, through, all_below, loops_below_of, look_to, look_of, sup_to, back, short_loop_of, lowest, place_of, slack_of, kept_from}
use Rattle.announce.specs.Announced.{look_ahead_of, kept_values_of, store_words, room_bytes_of, closing_turns_of, weigh_table, announced}
use Rattle.lola.specs.Models.{value, refer, solve, model_of}
use Rattle.run.specs.Run.{gather, owed}
use Rattle.meaning.specs.Expressions.{meaning}
use Rattle.prepare.specs.PlanFor.{first_bad_of, plan_for}
use Rattle.answers.specs.Words.{words_at}
use Rattle.feed.specs.Head.{input_head, length_of}
use Rattle.feed.specs.Printed.{row_refusal, accepted_rows, lines_of_rows, turn_lines, lines_of_turns, run_text, table_text, head_text, printed}
use Rattle.feed.specs.Listing.{AllPrint, examples}

pub examples_print : AllPrint examples
unfolding table_a rule_of rows look meant le4 word_at signed_of node_of node_by node_at type_fault_of word_fault_of zero_fault_of first fault_for fault_at head_of head_by_of head_at operands step parse node_references references record_fault_of type_rule_of role_rule_of head_fault_of input_fault_of output_fault_of equation_fault_of side_of stream_fault_of role_at declared heads equation_at equations_at_of table_of decode edges_from edges only square_for through all_below loops_below_of look_to look_of sup_to back short_loop_of lowest place_of slack_of kept_from firsts total most look_ahead_of kept_values_of store_words room_bytes_of closing_turns_of weigh_table announced plan_for owed gather meaning value refer op_of solve model_of first_bad_of words_at input_head length_of row_refusal accepted_rows lines_of_rows turn_lines lines_of_turns run_text table_text head_text printed last_digits decimal hex_digit_of hex8 value_line trigger_line refusal_line stop_line end_line items_given item_line item_lines
examples_print = (refl, (refl, (refl, (refl, (refl, (refl, (refl, (refl, (refl, (refl, (refl, (refl, tt))))))))))))
