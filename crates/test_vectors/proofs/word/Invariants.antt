-- The digits so far give a number, and the others follow it.
use Rattle.std.proofs.Common.{◌≡◌, ◌^◌, ◌<◌, drop}
use Rattle.test_vectors.specs.Vectors.{number_of}
use Rattle.test_vectors.proofs.word.Given as goal

abbrev pub invariant-loop-b : goal.invariant-loop-b
invariant-loop-b l = (l.word < 16 ^ l.b-index) × (number_of l.word (drop l.b-index l.digits) ≡ number_of 0 l.digits)
