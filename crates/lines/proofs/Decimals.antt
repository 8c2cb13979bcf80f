-- Laws of a number's decimal digits: by its last digit, that they are std's, and how many there are.
-- Assumes nothing.
use mathlib.Core.Path.{◌≡◌, sym, ap, ◌∙◌}
use mathlib.Core.Logic.{◌⊎◌, inl, inr}
use mathlib.Core.List.{List, [], ◌∷◌, ◌++◌}
use Prim.Native.Nat.{ℕ, zero, suc, ◌+◌, ◌/◌, ◌%◌, ◌^◌, ◌<◌, ◌≤◌}
use native.Mathlib.Nat.{pow-suc, div-lt_iff_lt-mul}
use native.Mathlib.Omega.{arith}
use borrow.Author.Tests.{lt-ltb, le-ltb}
use lib.ListN.{length, length-append}
use Rattle.std.specs.Fmt.{decimal as std_decimal}
use Rattle.std.proofs.lemmas.Fmt.{decimal_by_steps}
use Rattle.basis.proofs.Tests.{lt_or_ge}
use Rattle.lines.specs.Lines.{last_digits, decimal}

one_digit : (most n : ℕ) → n < 10 → last_digits (suc most) n ≡ (48 + n) ∷ []
unfolding last_digits
one_digit most n h = rw (lt-ltb n 10 h)

more_digits : (most n : ℕ) → 10 ≤ n → last_digits (suc most) n ≡ last_digits most (n / 10) ++ ((48 + n % 10) ∷ [])
unfolding last_digits
more_digits most n h = rw (le-ltb n 10 h)

-- more digits than n are enough
enough_digits : (f g n : ℕ) → n < f → n < g → last_digits f n ≡ last_digits g n
enough_digits zero g n h k = absurd (omega arith)
enough_digits (suc f) zero n h k = absurd (omega arith)
enough_digits (suc f) (suc g) n h k = by (lt_or_ge n 10) λ p. enough_digits f g (n / 10) (omega arith) (omega arith)
  where
    by : (n < 10) ⊎ (10 ≤ n) → (10 ≤ n → last_digits f (n / 10) ≡ last_digits g (n / 10)) → last_digits (suc f) n ≡ last_digits (suc g) n
    by (inl p) e = one_digit f n p ∙ sym (one_digit g n p)
    by (inr p) e = more_digits f n p ∙ ap (λ (l : List ℕ). l ++ ((48 + n % 10) ∷ [])) (e p) ∙ sym (more_digits g n p)

pub decimal_below_ten : (n : ℕ) → n < 10 → decimal n ≡ (48 + n) ∷ []
unfolding decimal
decimal_below_ten n h = one_digit n n h

pub decimal_by_last_digit : (n : ℕ) → 10 ≤ n → decimal n ≡ decimal (n / 10) ++ ((48 + n % 10) ∷ [])
unfolding decimal
decimal_by_last_digit n h = more_digits n n h ∙ ap (λ (l : List ℕ). l ++ ((48 + n % 10) ∷ [])) (enough_digits n (suc (n / 10)) (n / 10) (omega arith) (omega arith))

-- the digits that std writes of a number of 64 bits
pub decimal_as_std : (n : ℕ) → n < 2 ^ 64 → std_decimal n ≡ decimal n
decimal_as_std n h = decimal_by_steps (λ n ds. ds ≡ decimal n) (λ n p. sym (decimal_below_ten n p)) more n h
  where
    more : (n : ℕ) (ds : List ℕ) → 10 ≤ n → ds ≡ decimal (n / 10) → ds ++ ((48 + n % 10) ∷ []) ≡ decimal n
    more n ds p e = ap (λ (l : List ℕ). l ++ ((48 + n % 10) ∷ [])) e ∙ sym (decimal_by_last_digit n p)

pub one_more_digit : (n : ℕ) → 10 ≤ n → length (decimal n) ≡ length (decimal (n / 10)) + 1
one_more_digit n h = ap length (decimal_by_last_digit n h) ∙ length-append (decimal (n / 10)) ((48 + n % 10) ∷ [])

-- a number below 10^(k+1) has at most k+1 digits
pub digits_at_most : (k n : ℕ) → n < 10 ^ suc k → length (decimal n) ≤ suc k
digits_at_most zero n h = omega (arith, ap length (decimal_below_ten n h))
digits_at_most (suc k) n h = by (lt_or_ge n 10) (digits_at_most k (n / 10) ((div-lt_iff_lt-mul (omega arith)).1 (rw pow-suc at h)))
  where
    by : (n < 10) ⊎ (10 ≤ n) → length (decimal (n / 10)) ≤ suc k → length (decimal n) ≤ suc (suc k)
    by (inl p) e = omega (arith, ap length (decimal_below_ten n p))
    by (inr p) e = omega (arith, one_more_digit n p)

-- each number has a digit
pub some_digit : (n : ℕ) → 1 ≤ length (decimal n)
some_digit n = by (lt_or_ge n 10)
  where
    by : (n < 10) ⊎ (10 ≤ n) → 1 ≤ length (decimal n)
    by (inl p) = omega (arith, ap length (decimal_below_ten n p))
    by (inr p) = omega (arith, one_more_digit n p)
