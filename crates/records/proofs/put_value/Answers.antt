-- `records::put_value` meets its contract: the two bytes and the two words of a record 50.
-- Assumes nothing.
use native.Mathlib.Omega.{arith}
use Rattle.basis.proofs.Written.{then}
use Rattle.wire.proofs.Words.{word_length}
use Rattle.records.proofs.put_value.Goals as goal

pub put_word-requires : goal.put_word-requires
put_word-requires c = omega (arith, c.put_word-c.ensures.ends, c.put_word-c.ensures.size, c.put_byte-b.ensures.ends, c.put_byte-b.ensures.size, c.put_byte-a.ensures.ends, c.put_byte-a.ensures.size, word_length c.args.position, c.requires)

pub returns : goal.returns
returns c = then (then (then c.put_byte-a.ensures c.put_byte-b.ensures) c.put_word-c.ensures) c.put_word.ensures
