-- Laws of the operators' results (document 01, "The table", kinds 20 to 2F).
-- Assumes nothing.
use Rattle.std.proofs.Common.{◌≡◌, ℕ, ◌+◌, ◌-◌, ◌%◌, ◌^◌, ◌<◌, Bool, true, false, ◌&&◌, eqb, sym, refl, arith, ne_eqb, eqb-true}
use lib.Ieee as Ieee
use lib.Ieee.{Float, binary32}
use lib.Ieee.Fits.{add-fits, sub-fits, mul-fits, div-fits}
use Rattle.value.specs.Values.{type_of, flag_for, Good, Op, op_of, pick_op, on_op, type_of_op, not_flag, and_flags, or_flags, add_words, sub_words, ahead_words, less_words, equal_words, equal_flags, equal_levels, add_levels, sub_levels, mul_levels, div_levels, less_levels, no_operator}
use Rattle.value.specs.declared.Value.TheVariants.{Flag}

-- every operator's result is of the operator's type
pub op_type : (o : Op) (p q : Bool) (m n : ℕ) (x y : Float) → type_of (on_op o p q m n x y) ≡ type_of_op o
op_type not_flag p q m n x y = refl
op_type and_flags p q m n x y = refl
op_type or_flags p q m n x y = refl
op_type add_words p q m n x y = refl
op_type sub_words p q m n x y = refl
op_type ahead_words p q m n x y = refl
op_type less_words p q m n x y = refl
op_type equal_words p q m n x y = refl
op_type equal_flags p q m n x y = refl
op_type equal_levels p q m n x y = refl
op_type add_levels p q m n x y = refl
op_type sub_levels p q m n x y = refl
op_type mul_levels p q m n x y = refl
op_type div_levels p q m n x y = refl
op_type less_levels p q m n x y = refl
op_type no_operator p q m n x y = refl

mod_word : (n : ℕ) → n % 2 ^ 32 < 2 ^ 32
mod_word n = omega arith

-- every operator's result is good, whatever its operands
pub op_good : (o : Op) (p q : Bool) (m n : ℕ) (x y : Float) → Good (on_op o p q m n x y)
op_good not_flag p q m n x y = tt
op_good and_flags p q m n x y = tt
op_good or_flags p q m n x y = tt
op_good add_words p q m n x y = mod_word (m + n)
op_good sub_words p q m n x y = mod_word (m + 2 ^ 32 - n)
op_good ahead_words p q m n x y = tt
op_good less_words p q m n x y = tt
op_good equal_words p q m n x y = tt
op_good equal_flags p q m n x y = tt
op_good equal_levels p q m n x y = tt
op_good add_levels p q m n x y = add-fits binary32 x y
op_good sub_levels p q m n x y = sub-fits binary32 x y
op_good mul_levels p q m n x y = mul-fits binary32 x y
op_good div_levels p q m n x y = div-fits binary32 x y
op_good less_levels p q m n x y = tt
op_good no_operator p q m n x y = tt

-- what holds of two operators holds of either
of_two : (P : Op → Type 0) (b : Bool) (o : Op) {o' : Op} → P o → P o' → P (pick_op b o o')
of_two P true o g h = g
of_two P false o g h = h

-- the flags that operators give, as the code finds them
module _ (p q : Bool) (m n : ℕ) (x y : Float) where
  abbrev given : Op → Bool
  given o = flag_for (on_op o p q m n x y)

  record GivesFlag (o : Op) : Type 0 where
    pub is : on_op o p q m n x y ≡ Flag (given o)

  record NeverTrue (o : Op) : Type 0 where
    pub is : given o ≡ false

  module _ (k : ℕ) where
    -- all but the six kinds of words and levels give a flag
    pub gives_flag : (k ≡ 0x24 → ⊥) → (k ≡ 0x25 → ⊥) → (k ≡ 0x2b → ⊥) → (k ≡ 0x2c → ⊥) → (k ≡ 0x2d → ⊥) → (k ≡ 0x2e → ⊥) → on_op (op_of k) p q m n x y ≡ Flag (given (op_of k))
    unfolding op_of
    gives_flag a b c d e f =
        let all =
        of_two GivesFlag (eqb k 0x20) not_flag (record { is = refl })
        (of_two GivesFlag (eqb k 0x21) and_flags (record { is = refl })
        (of_two GivesFlag (eqb k 0x22) or_flags (record { is = refl })
        (of_two GivesFlag (eqb k 0x26) ahead_words (record { is = refl })
        (of_two GivesFlag (eqb k 0x27) less_words (record { is = refl })
        (of_two GivesFlag (eqb k 0x28) equal_words (record { is = refl })
        (of_two GivesFlag (eqb k 0x29) equal_flags (record { is = refl })
        (of_two GivesFlag (eqb k 0x2a) equal_levels (record { is = refl })
        (of_two GivesFlag (eqb k 0x2f) less_levels (record { is = refl }) (record { is = refl })))))))))
        in rw (ne_eqb _ _ a, ne_eqb _ _ b, ne_eqb _ _ c, ne_eqb _ _ d, ne_eqb _ _ e, ne_eqb _ _ f) all.is

    -- the operators behind the eight that are tried first
    last_of : (w : Bool) → eqb k 0x2f ≡ w
        → (w && Ieee.lt x y) ≡ given (pick_op (eqb k 0x24) add_words (pick_op (eqb k 0x25) sub_words (pick_op (eqb k 0x2b) add_levels (pick_op (eqb k 0x2c) sub_levels
        (pick_op (eqb k 0x2d) mul_levels (pick_op (eqb k 0x2e) div_levels (pick_op w less_levels no_operator)))))))
    last_of true e = let i : k ≡ 0x2f = eqb-true _ _ e in rw i refl
    last_of false e =
        let all =
        of_two NeverTrue (eqb k 0x24) add_words (record { is = refl })
        (of_two NeverTrue (eqb k 0x25) sub_words (record { is = refl })
        (of_two NeverTrue (eqb k 0x2b) add_levels (record { is = refl })
        (of_two NeverTrue (eqb k 0x2c) sub_levels (record { is = refl })
        (of_two NeverTrue (eqb k 0x2d) mul_levels (record { is = refl })
        (of_two NeverTrue (eqb k 0x2e) div_levels (record { is = refl }) (record { is = refl }))))))
        in sym all.is

    -- of a kind that is none of those eight, the flag is that of `less` of levels, or false
    pub last_flag : (k ≡ 0x20 → ⊥) → (k ≡ 0x21 → ⊥) → (k ≡ 0x22 → ⊥) → (k ≡ 0x26 → ⊥) → (k ≡ 0x27 → ⊥) → (k ≡ 0x28 → ⊥) → (k ≡ 0x29 → ⊥) → (k ≡ 0x2a → ⊥) → (eqb k 0x2f && Ieee.lt x y) ≡ given (op_of k)
    unfolding op_of
    last_flag a b c d e f g h =
        rw (ne_eqb _ _ a, ne_eqb _ _ b, ne_eqb _ _ c, ne_eqb _ _ d, ne_eqb _ _ e, ne_eqb _ _ f, ne_eqb _ _ g, ne_eqb _ _ h) (last_of (eqb k 0x2f) refl)
