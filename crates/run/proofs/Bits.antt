-- Laws of a bit of a number: read back, others left, two put in either order. So flags in single bits of such words make a layout.
-- Assumes nothing.
use Prim.Native.Nat.{ℕ, zero, suc, ◌+◌, ◌*◌, ◌-◌, ◌/◌, ◌%◌, ◌^◌, ◌≤◌, ◌<◌}
use mathlib.Core.Path.{◌≡◌, sym, ap, ◌∙◌}
use native.Mathlib.Omega.{arith}
use native.Mathlib.Decide.{dec_lt, ℕ_discrete}
use native.Mathlib.Nat.{mod-lt, pow-suc, div-one}
use lib.Pow.{pow_mono, pow_pos, shr-shr, high, low, field, mod-mod-pow}
use mathlib.Core.Bool.{Bool, true, false}
use Rattle.run.specs.Layout.{Lays}
use Rattle.run.specs.Cells.{packed}
use Rattle.run.specs.Bits.{bit, with_bit}
use Rattle.run.proofs.Cells.{packed_laid}

pub bit_small : (j n : ℕ) → bit j n < 2
unfolding bit
bit_small j n = omega arith

with_high : (j x n : ℕ) → with_bit j x n / 2 ^ j ≡ n / 2 ^ j / 2 * 2 + x
unfolding with_bit
with_high j x n = high (n / 2 ^ j / 2 * 2 + x) j (mod-lt n (pow_pos j))

with_low : (j x n : ℕ) → with_bit j x n % 2 ^ j ≡ n % 2 ^ j
unfolding with_bit
with_low j x n = low (n / 2 ^ j / 2 * 2 + x) j (mod-lt n (pow_pos j))

pub bit_own : (j x n : ℕ) → x < 2 → bit j (with_bit j x n) ≡ x
unfolding bit
bit_own j x n h = ap (λ (m : ℕ). m % 2) (with_high j x n) ∙ omega arith

-- a bit below j is among the lowest j
bit_below : (j k n : ℕ) → k < j → bit k n ≡ n % 2 ^ j % 2 ^ (1 + k) / 2 ^ k
unfolding bit
bit_below j k n h =
    sym (field n 1 k)
    ∙ ap (λ (m : ℕ). m / 2 ^ k) (sym (mod-mod-pow n (j - (1 + k)) (1 + k)) ∙ ap (λ (m : ℕ). n % 2 ^ m % 2 ^ (1 + k)) (omega arith))

-- a bit above j
bit_above : (j k n : ℕ) → j < k → bit k n ≡ bit (k - suc j) (n / 2 ^ j / 2)
unfolding bit
bit_above j k n h =
    let a : n / 2 ^ j / 2 ^ 1 / 2 ^ (k - suc j) ≡ n / 2 ^ (j + 1 + (k - suc j)) = ap (λ (m : ℕ). m / 2 ^ (k - suc j)) (shr-shr n j 1) ∙ shr-shr n (j + 1) (k - suc j) in
    let e : j + 1 + (k - suc j) ≡ k = omega arith in
    sym (ap (λ (m : ℕ). m % 2) (rw e at a))

pub bit_else : (j k x n : ℕ) → x < 2 → (k ≡ j → ⊥) → bit k (with_bit j x n) ≡ bit k n
bit_else j k x n h ne = go (dec_lt k j)
  where
    go : Dec (k < j) → bit k (with_bit j x n) ≡ bit k n
    go (yes l) = bit_below j k _ l ∙ ap (λ (m : ℕ). m % 2 ^ (1 + k) / 2 ^ k) (with_low j x n) ∙ sym (bit_below j k n l)
    go (no l) =
        let g : j < k = omega arith in
        let e : with_bit j x n / 2 ^ j / 2 ≡ n / 2 ^ j / 2 = ap (λ (m : ℕ). m / 2) (with_high j x n) ∙ omega arith in
        bit_above j k _ g ∙ ap (bit (k - suc j)) e ∙ sym (bit_above j k n g)

-- two numbers with the same bits
below_pow : (n : ℕ) → n < 2 ^ n
below_pow zero = omega arith
below_pow (suc n) = omega (arith, below_pow n, pow-suc 2 n)

same_bits_below : (f a b : ℕ) → a < 2 ^ f → b < 2 ^ f → ((k : ℕ) → bit k a ≡ bit k b) → a ≡ b
unfolding bit
same_bits_below zero a b p q h = omega arith
same_bits_below (suc f) a b p q h =
    let half : a / 2 ≡ b / 2 = same_bits_below f (a / 2) (b / 2) (omega (arith, pow-suc 2 f)) (omega (arith, pow-suc 2 f)) (λ k. ap (λ (m : ℕ). m % 2) (shr-shr a 1 k) ∙ h (1 + k) ∙ sym (ap (λ (m : ℕ). m % 2) (shr-shr b 1 k))) in
    let last : a % 2 ≡ b % 2 = sym (ap (λ (m : ℕ). m % 2) (div-one a)) ∙ h 0 ∙ ap (λ (m : ℕ). m % 2) (div-one b) in
    omega arith

pub same_bits : (a b : ℕ) → ((k : ℕ) → bit k a ≡ bit k b) → a ≡ b
same_bits a b h =
    let m : a ≤ a + b = omega arith in
    let n : b ≤ a + b = omega arith in
    same_bits_below (a + b) a b (omega (arith, below_pow a, pow_mono m)) (omega (arith, below_pow b, pow_mono n)) h

pub with_swap : (j k x y n : ℕ) → x < 2 → y < 2 → (k ≡ j → ⊥) → with_bit k y (with_bit j x n) ≡ with_bit j x (with_bit k y n)
with_swap j k x y n p q ne = same_bits _ _ (λ i. go i (ℕ_discrete i j) (ℕ_discrete i k))
  where
    go : (i : ℕ) → Dec (i ≡ j) → Dec (i ≡ k) → bit i (with_bit k y (with_bit j x n)) ≡ bit i (with_bit j x (with_bit k y n))
    go i (yes a) (yes b) = absurd (ne (sym b ∙ a))
    go i (yes a) (no b) = bit_else k i y _ q b ∙ rw a (bit_own j x n p ∙ sym (bit_own j x (with_bit k y n) p))
    go i (no a) (yes b) = rw b (bit_own k y (with_bit j x n) q ∙ sym (bit_own k y n q)) ∙ sym (bit_else j i x _ p a)
    go i (no a) (no b) = bit_else k i y _ q b ∙ bit_else j i x n p a ∙ sym (bit_else j i x _ p a ∙ bit_else k i y n q b)

-- Request C-23's layout over words that are numbers: `as_flag` is the flag of a bit, `bit_in` the bit of a flag
module _ {W : Type 0} (flag : ℕ → Bool) (get : ℕ → ℕ → W) (put : W → ℕ) (as_flag : ℕ → W) (bit_in : W → ℕ) (bits : ℕ) (S : ℕ) (kept : ℕ → ℕ) (Fits : ℕ → W → Type 0)
    (some : 0 < bits)
    (read : (v b : ℕ) → v < S → flag v ≡ false → Fits v (get v b))
    (back : (v : ℕ) (x : W) → v < S → flag v ≡ false → Fits v x → get v (put x) ≡ x)
    (flag_read : (v b : ℕ) → v < S → flag v ≡ true → b < 2 → Fits v (as_flag b))
    (flag_back : (v : ℕ) (x : W) → v < S → flag v ≡ true → Fits v x → as_flag (bit_in x) ≡ x)
    (small : (x : W) → bit_in x < 2) where
  pub flags_packed : Lays (packed flag get put (λ j n. as_flag (bit j n)) (λ j x n. with_bit j (bit_in x) n) bits 0 S kept) S kept Fits
  flags_packed = packed_laid flag get put (λ j n. as_flag (bit j n)) (λ j x n. with_bit j (bit_in x) n) bits 0 S kept Fits some read back
      (λ v j b l e h. flag_read v _ l e (bit_small j b))
      (λ v j x b l e h f. ap as_flag (bit_own j (bit_in x) b (small x)) ∙ flag_back v x l e f)
      (λ j k x b h i ne. ap as_flag (bit_else j k (bit_in x) b (small x) ne))
      (λ j k x y b h i ne. with_swap j k (bit_in x) (bit_in y) b (small x) (small y) ne)
