-- `scan_equation`: the record before the expression, then the expression.
-- Assumes nothing.
use native.Mathlib.Omega.{arith}
use Rattle.table.proofs.Faults.{equation_room}
use Rattle.table.proofs.Equations.{wanted_type, equation_scanned, equation_refused}
use Rattle.table.proofs.scan_equation.Goals as goal

pub returns-in-Err : goal.returns-in-Err
returns-in-Err c = λ ts x. rw c.refused.ensures (equation_refused _ _ _ _ c.in-Err.ensures c.requires.place x)

pub scan_expr-requires : goal.scan_expr-requires
scan_expr-requires c = record {
  tabulated = c.requires.tabulated;
  few = c.requires.few;
  wants = omega (arith, wanted_type _ c.requires.rows c.requires.stream c.requires.wants c.requires.rows, c.requires.wants);
  place = equation_room _ _ c.args.y c.in_default.ensures;
  types = c.requires.types;
  rows = c.requires.rows;
}

pub returns : goal.returns
returns c = λ ts x. equation_scanned _ _ _ (wanted_type _ c.requires.rows c.requires.stream c.requires.wants x) c.in_default.ensures (c.scan_expr.ensures ts x)
