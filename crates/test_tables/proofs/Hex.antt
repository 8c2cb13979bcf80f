-- Laws of a line of hex digits. Assumes nothing.
use Rattle.std.proofs.Common.{ℕ, zero, suc, ◌≡◌, ◌<◌, inl, inr, Option, Some, None, List, arith}
use Rattle.std.specs.Option.{SomeIff}
use Rattle.std.specs.Char.{digit_value}
use Rattle.std.proofs.lemmas.Bool.Decides.{nat_tests}
use Rattle.basis.proofs.Tests.{lt_or_ge}
use Rattle.test_tables.specs.Hex.{digit_for, pair_of, bytes_said}

pub digit_is : (b : ℕ) (o : Option ℕ) → SomeIff o (digit_value b < 16) (digit_value b) → o ≡ digit_for b
unfolding digit_for
digit_is b None h = grind (arith, nat_tests)
digit_is b (Some d) h = grind (arith, nat_tests)

-- a pair that is no byte stays one
pub not_a_byte : (s : List ℕ) (i n : ℕ) → pair_of s i ≡ None → i < n → bytes_said s n ≡ None
unfolding bytes_said
not_a_byte s i zero h l = absurd (omega arith)
not_a_byte s i (suc n) h l = elim (lt_or_ge i n) [ inl k ↦ rw (not_a_byte s i n h k) | inr k ↦ let e : i ≡ n = omega arith in grind (arith, e, h) ]
