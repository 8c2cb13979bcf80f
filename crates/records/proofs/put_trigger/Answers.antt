-- `records::put_trigger` meets its contract: the two bytes and the word of a record 51.
-- Assumes nothing.
use Rattle.basis.proofs.Written.{then}
use Rattle.records.proofs.put_trigger.Goals as goal

pub returns : goal.returns
returns c = then (then c.put_byte-a.ensures c.put_byte-b.ensures) c.put_word.ensures
