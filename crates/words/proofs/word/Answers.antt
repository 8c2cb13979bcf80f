-- Each word of the constant table is the definition's, by computing them all, and none is longer than 15 bytes. Assumes nothing.
use Rattle.std.proofs.Common.{◌<◌, refl}
use Rattle.words.proofs.Words.{now_at, fitting}
use Rattle.words.proofs.word.Goals as goal

pub returns-clause-same : goal.returns-clause-same
returns-clause-same c = let within : c.args.row < 33 = c.requires in rw now_at refl

pub returns-clause-short : goal.returns-clause-short
returns-clause-short c = let within : c.args.row < 33 = c.requires in rw now_at (fitting _ c.requires).1
