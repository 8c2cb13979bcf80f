-- Each range of bytes as a law. Assumes nothing.
use native.Mathlib.Omega.{arith}
use Rattle.spell.proofs.Hex.{low_digit, high_digit, no_digit}
use Rattle.spell.proofs.digit_of.Goals as goal

pub returns-in-48-to-57 : goal.returns-in-48-to-57
returns-in-48-to-57 c = low_digit _ _ (omega (arith, c.from.ensures)) (omega (arith, c.from.ensures))

pub returns-in-97-to-102 : goal.returns-in-97-to-102
returns-in-97-to-102 c = high_digit _ _ (omega (arith, c.from-in-97-to-102.ensures)) (omega (arith, c.from-in-97-to-102.ensures)) (omega (arith, c.from-in-97-to-102.ensures))

pub returns-in_default : goal.returns-in_default
returns-in_default c = no_digit _ (λ o. omega arith) (λ o. omega arith)

pub returns-in_default-2 : goal.returns-in_default-2
returns-in_default-2 c = no_digit _ (λ o. omega arith) (λ o. omega arith)

pub returns-in_default-3 : goal.returns-in_default-3
returns-in_default-3 c = no_digit _ (λ o. omega arith) (λ o. omega arith)
