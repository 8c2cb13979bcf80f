-- `ready`: the first stream that passes the test, or none.
-- Assumes nothing.
use Rattle.std.proofs.Common.{◌≡◌, ℕ, ◌≤◌, ◌<◌, Option, Some, None, List, get_or, MatchOption, rules, arith}
use Rattle.std.proofs.lemmas.Iterator.{first_from_Range}
use Rattle.std.specs.Int.Bits.{bit_and}
use borrow.Author.Tests.{tests}
use Rattle.certificate.specs.Tally.{bit}
use Rattle.certificate.specs.Line.{Ready}
use Rattle.certificate.proofs.ready.Goals as goal

module _ (tight : List ℕ) (rest : ℕ) where
  abbrev Yes : ℕ → Type 0
  Yes y = (bit rest y ≡ 1) × (bit_and (get_or tight y 0) rest ≡ 0)

  abbrev No : ℕ → Type 0
  No y = bit rest y ≡ 1 → bit_and (get_or tight y 0) rest ≡ 0 → ⊥

  ready_by : (s : ℕ) (r : Option ℕ) → MatchOption r ((y : ℕ) → 0 ≤ y → y < s → No y) (λ y. (0 ≤ y) × (y < s) × Yes y × ((k : ℕ) → 0 ≤ k → k < y → No k)) → Ready tight rest s r
  ready_by s (Some r) h = (h.1, h.2.0, h.2.1)
  ready_by s None h = λ y. h y (omega arith)

pub returns : goal.returns
unfolding bit
returns c = ready_by c.args.tight.now c.args.rest c.args.s c.find.result
    (first_from_Range _ _ _ c.find.result (Yes c.args.tight.now c.args.rest) (No c.args.tight.now c.args.rest) c.find.ensures.ran
    (λ y q k. search (rules, tests)) (λ y q k. search (rules, tests)))
