-- Laws of a number as a set of streams: put in, taken out, met with another.
-- Assumes nothing.
use mathlib.Core.Path.{◌≡◌, refl, sym, ap, ap₂, ◌∙◌}
use Prim.Native.Nat.{ℕ, zero, suc, ◌+◌, ◌-◌, ◌*◌, ◌/◌, ◌%◌, ◌^◌, ◌<◌, min, max}
use native.Mathlib.Omega.{arith}
use native.Mathlib.Nat.{zero-div, div-eq_of_lt, div_self, mul-div_cancel, mul-mod_left, pow-suc, one-mul, div-one}
use native.Mathlib.Decide.{dec_lt, ℕ_discrete}
use lib.Arith.{bin_ind, digits_mod}
use lib.Bits.{bit_and, bit_or, bit_xor, differ, and_step, or_step, xor_step, and_shr, or_shr, xor_shr, and_le_l, and_le_r, xor_add_and}
use Rattle.certificate.specs.Tally.{bit}
use lib.Pow.{ones_split, ones_lt, high, pow_pos, pow-lt, pow-add, shr-shr, shl_exact}

pub bit_lt : (m v : ℕ) → bit m v < 2
unfolding bit
bit_lt m v = omega arith

bit_zero : (v : ℕ) → bit 0 v ≡ 0
unfolding bit
bit_zero v = ap (λ (x : ℕ). x % 2) (zero-div (2 ^ v))

pub bit_and_lem : (a b v : ℕ) → bit (bit_and a b) v ≡ min (bit a v) (bit b v)
unfolding bit
bit_and_lem a b v = ap (λ (x : ℕ). x % 2) (and_shr a b v ∙ and_step (a / 2 ^ v) (b / 2 ^ v)) ∙ omega arith

pub bit_or_lem : (a b v : ℕ) → bit (bit_or a b) v ≡ max (bit a v) (bit b v)
unfolding bit
bit_or_lem a b v = ap (λ (x : ℕ). x % 2) (or_shr a b v ∙ or_step (a / 2 ^ v) (b / 2 ^ v)) ∙ omega arith

differ_lt : (x y : ℕ) → x < 2 → y < 2 → differ x y < 2
differ_lt zero y h k = k
differ_lt (suc zero) zero h k = omega arith
differ_lt (suc zero) (suc y) h k = omega arith
differ_lt (suc (suc x)) y h k = absurd (omega arith)

pub bit_xor_lem : (a b v : ℕ) → bit (bit_xor a b) v ≡ differ (bit a v) (bit b v)
unfolding bit
bit_xor_lem a b v = ap (λ (x : ℕ). x % 2) (xor_shr a b v ∙ xor_step (a / 2 ^ v) (b / 2 ^ v))
    ∙ digits_mod (bit_xor (a / 2 ^ v / 2) (b / 2 ^ v / 2)) (differ_lt (a / 2 ^ v % 2) (b / 2 ^ v % 2) (omega arith) (omega arith))

-- the number with one bit
pub bit_own : (v : ℕ) → bit (2 ^ v) v ≡ 1
unfolding bit
bit_own v = ap (λ (x : ℕ). x % 2) (div_self (pow_pos v))

pub bit_other : (k v : ℕ) → (v ≡ k → ⊥) → bit (2 ^ k) v ≡ 0
unfolding bit
bit_other k v n = go (dec_lt v k)
  where
    up : (d : ℕ) → k ≡ suc d + v → 2 ^ k / 2 ^ v % 2 ≡ 0
    up d e = ap (λ (x : ℕ). 2 ^ x / 2 ^ v % 2) e ∙ ap (λ (x : ℕ). x / 2 ^ v % 2) (pow-add 2 (suc d) v) ∙ ap (λ (x : ℕ). x % 2) (mul-div_cancel (2 ^ suc d) (pow_pos v) ∙ pow-suc 2 d) ∙ mul-mod_left (2 ^ d) 2

    go : Dec (v < k) → 2 ^ k / 2 ^ v % 2 ≡ 0
    go (yes h) = up (k - suc v) (omega arith)
    go (no h) = ap (λ (x : ℕ). x % 2) (div-eq_of_lt (pow-lt (let h' : k < v = omega arith in h')))

-- as the code makes it
abbrev pub one_at : ℕ → ℕ
one_at v = (1 * 2 ^ v) % 2 ^ 32

pub one_is : (v : ℕ) → v < 32 → one_at v ≡ 2 ^ v
one_is v h = shl_exact 1 v 32 (omega arith) (omega arith) ∙ one-mul (2 ^ v)

-- a number that is not 0 has a bit
pub some_bit : (m : ℕ) → (m ≡ 0 → ⊥) → (v : ℕ) × (bit m v ≡ 1)
unfolding bit
some_bit = bin_ind (λ m. (m ≡ 0 → ⊥) → (v : ℕ) × (m / 2 ^ v % 2 ≡ 1)) (λ h. absurd (h refl)) (λ m ih h. go m ih h (ℕ_discrete (m / 2) 0))
  where
    go : (m : ℕ) → ((m / 2 ≡ 0 → ⊥) → (v : ℕ) × (m / 2 / 2 ^ v % 2 ≡ 1)) → (m ≡ 0 → ⊥) → Dec (m / 2 ≡ 0) → (v : ℕ) × (m / 2 ^ v % 2 ≡ 1)
    go m ih h (yes e) = (0, ap (λ (x : ℕ). x % 2) (div-one m) ∙ omega arith)
    go m ih h (no n) = let r = ih n in (1 + r.0, ap (λ (x : ℕ). x % 2) (sym (shr-shr m 1 r.0)) ∙ r.1)

-- numbers with the same bits are the same
differ_same : (x : ℕ) → differ x x ≡ 0
differ_same zero = refl
differ_same (suc x) = differ_same x

pub same_bits : (a b : ℕ) → ((v : ℕ) → bit a v ≡ bit b v) → a ≡ b
same_bits a b e = go (ℕ_discrete (bit_xor a b) 0)
  where
    go : Dec (bit_xor a b ≡ 0) → a ≡ b
    go (yes z) = omega (arith, xor_add_and a b, and_le_l a b, and_le_r a b)
    go (no n) = let r = some_bit (bit_xor a b) n in absurd (omega (arith, r.1, bit_xor_lem a b r.0 ∙ ap (differ (bit a r.0)) (sym (e r.0)) ∙ differ_same (bit a r.0)))

pub and_none : (a b v : ℕ) → bit_and a b ≡ 0 → bit a v ≡ 1 → bit b v ≡ 1 → ⊥
and_none a b v e p q = omega (arith, bit_and_lem a b v, ap (λ (x : ℕ). bit x v) e, bit_zero v)

pub and_some : (a b : ℕ) → (bit_and a b ≡ 0 → ⊥) → (v : ℕ) × (bit a v ≡ 1) × (bit b v ≡ 1)
and_some a b n = let r = some_bit (bit_and a b) n in (r.0, omega (arith, r.1, bit_and_lem a b r.0, bit_lt a r.0, bit_lt b r.0), omega (arith, r.1, bit_and_lem a b r.0, bit_lt a r.0, bit_lt b r.0))

pub has_not_zero : (m v : ℕ) → bit m v ≡ 1 → m ≡ 0 → ⊥
has_not_zero m v p e = omega (arith, ap (λ (x : ℕ). bit x v) e, bit_zero v)

-- a stream put in
pub put_own : (m v : ℕ) → bit (bit_or m (2 ^ v)) v ≡ 1
put_own m v = omega (arith, bit_or_lem m (2 ^ v) v, bit_own v, bit_lt m v)

pub put_other : (m v w : ℕ) → (w ≡ v → ⊥) → bit (bit_or m (2 ^ v)) w ≡ bit m w
put_other m v w n = omega (arith, bit_or_lem m (2 ^ v) w, bit_other v w n)

-- a stream taken out
differ_zero : (x : ℕ) → differ x 0 ≡ x
differ_zero zero = refl
differ_zero (suc x) = refl

pub out_own : (m v : ℕ) → bit m v ≡ 1 → bit (bit_xor m (2 ^ v)) v ≡ 0
out_own m v e = bit_xor_lem m (2 ^ v) v ∙ ap₂ differ e (bit_own v)

pub out_other : (m v w : ℕ) → (w ≡ v → ⊥) → bit (bit_xor m (2 ^ v)) w ≡ bit m w
out_other m v w n = bit_xor_lem m (2 ^ v) w ∙ ap (differ (bit m w)) (bit_other v w n) ∙ differ_zero (bit m w)

-- every stream
pub full : (v : ℕ) → v < 32 → bit 4294967295 v ≡ 1
unfolding bit
full v h = ap (λ (x : ℕ). (2 ^ x - 1) / 2 ^ v % 2) (let e : 32 ≡ suc (31 - v) + v = omega arith in e)
    ∙ ap (λ (x : ℕ). x / 2 ^ v % 2) (ones_split (suc (31 - v)) v)
    ∙ ap (λ (x : ℕ). x % 2) (high (2 ^ suc (31 - v) - 1) v (ones_lt v))
    ∙ ap (λ (x : ℕ). (x - 1) % 2) (pow-suc 2 (31 - v))
    ∙ odd (2 ^ (31 - v)) (pow_pos (31 - v))
  where
    odd : (x : ℕ) → 0 < x → (x * 2 - 1) % 2 ≡ 1
    odd x h = omega arith
