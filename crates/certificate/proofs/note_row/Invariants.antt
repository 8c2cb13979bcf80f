-- `note_row`: up to v, the tally holds the row's edges to streams below v beside those noted before, and what was seen of them is forgotten.
-- Assumes nothing.
use mathlib.Core.List.{List}
use Rattle.basis.specs.Firsts.{of}
use Rattle.basis.specs.Edges.{Edge, Among}
use Rattle.certificate.specs.Forgotten.{rises, falls, Forgotten}
use Rattle.certificate.specs.Tally.{Row, Tally, Upto}
use Rattle.certificate.proofs.note_row.Given as goal

abbrev pub invariant-loop-v : goal.invariant-loop-v
invariant-loop-v l = record {
  noted : (rs es : List Edge) → Row rs l.y (rises l.initial.seen) (falls l.initial.seen) l.s → Tally (Among es) (of l.look) l.initial.tight l.initial.most → Tally (Upto rs es l.v) (of l.look) l.tight l.most;
  forgotten : Forgotten l.v l.initial.seen l.seen;
}
