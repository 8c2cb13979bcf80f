-- An accepted table has at most 32 streams.
use Rattle.std.proofs.Common.{sym, ap, ◌∙◌, arith}
use Rattle.announce.specs.declared.Checked.{Checked}
use Rattle.test_tables.proofs.Streams.{accepted_head}
use Rattle.test_tables.proofs.answer_table.Goals as goal

pub streams_of-requires : goal.streams_of-requires
streams_of-requires g c =
    (accepted_head c.args.table.now (sym (ap (λ (r : Checked). r.number) c.check-checked.ensures.0) ∙ c.if-checked-eq0.true)).0

pub say_announced-requires : goal.say_announced-requires
say_announced-requires g c =
    omega (arith, c.streams_of.ensures, (accepted_head c.args.table.now (sym (ap (λ (r : Checked). r.number) c.check-checked.ensures.0) ∙ c.if-checked-eq0.true)).1)
