-- The input ends in each stage. Assumes nothing.
use native.Mathlib.Omega.{arith}
use mathlib.Core.Path.{ap}
use mathlib.Core.Logic.{⊎_elim}
use Rattle.basis.specs.Written.{Wrote}
use Rattle.basis.proofs.Written.{wrote_as}
use Rattle.lines.specs.Lines.{stop_line}
use Rattle.feed.proofs.Stepping.{ends_head, ends_table, ends_rows, ends_shut}
use Rattle.feed.proofs.end.Goals as goal

pub returns-in-Head : goal.returns-in-Head
returns-in-Head c = let w : Wrote c.args.text.now 0 (stop_line c.args.state.read) c.put_stop_line.new.out c.put_stop_line.result = wrote_as (ap stop_line (omega arith)) c.put_stop_line.ensures in
    ⊎_elim (λ h. ends_head w h.1) (λ t. ends_table w t.2) c.in-Head.is

pub returns-in-Rows : goal.returns-in-Rows
returns-in-Rows c = ends_rows c.in-Rows.is c.close.ensures

pub returns-in-Shut : goal.returns-in-Shut
returns-in-Shut c = ends_shut c.in-Shut.is
