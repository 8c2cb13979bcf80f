-- The faults of the records that hold no expression: their numbers, and what no fault tells.
-- Assumes nothing.
use mathlib.Core.Path.{◌≡◌, refl}
use mathlib.Core.Bool.{Bool, true, false, cond}
use mathlib.Core.List.{List}
use Prim.Native.Nat.{ℕ, zero, suc, ◌+◌, ◌≤◌, ◌<◌}
use native.Mathlib.Omega.{arith}
use borrow.Author.Tests.{eq-eqb, ne_eqb, lt-ltb, le-ltb, le-leb, eqb-true, eqb-false, leb-true, ltb-false}
use lib.Dec.{eqb, ltb, leb}
use lib.ListN.{length, get_or}
use Rattle.limits.specs.Limits.{most_streams}
use Rattle.limits.specs.Refusals.{missing, wrong_kind, wrong_field, too_deep}
use Rattle.basis.proofs.Tests.{pick_case}
use Rattle.node.specs.Kinds.{rule_of, rows, look}
use Rattle.node.specs.Node.{first}
use Rattle.node.proofs.Faults.{neither, both_fine}
use Rattle.table.specs.Records.{record_fault_of, type_rule_of, role_rule_of, head_fault_of, input_fault_of, output_fault_of, equation_fault_of, side_of, stream_fault_of, role_at}

-- ---- the bodies of these records, in the constant table by kind

pub edition_body : (rule_of 1).body ≡ 3
unfolding rule_of rows look
edition_body = refl

pub input_body : (rule_of 2).body ≡ 1
unfolding rule_of rows look
input_body = refl

pub output_body : (rule_of 3).body ≡ 2
unfolding rule_of rows look
output_body = refl

pub equation_body : (rule_of 4).body ≡ 1
unfolding rule_of rows look
equation_body = refl

-- ---- numbers: no fault has one above 6

abbrev Low : ℕ → Type 0
Low n = n ≤ too_deep

first_low : {a b : ℕ} → Low a → Low b → Low (first a b)
unfolding first
first_low {a} {b} f g = pick_case Low (eqb a 0) b a (λ _. g) (λ _. f)

either_low : (b : Bool) {x y : ℕ} → Low x → Low y → Low (cond b x y)
either_low b f g = pick_case Low b _ _ (λ _. f) (λ _. g)

record_low : (s : List ℕ) (at k b : ℕ) → Low (record_fault_of s at k b)
unfolding record_fault_of
record_low s at k b =
    either_low (ltb at (length s)) (either_low (eqb (get_or s at 0) k) (either_low (leb (at + 1 + b) (length s)) (omega arith) (omega arith)) (omega arith)) (omega arith)

type_low : (t : ℕ) → Low (type_rule_of t)
unfolding type_rule_of
type_low t = either_low (ltb 2 t) (omega arith) (omega arith)

role_low : (t r : ℕ) → Low (role_rule_of t r)
unfolding role_rule_of
role_low t r =
    either_low (ltb 1 r) (omega arith) (either_low (eqb r 0) (omega arith) (either_low (eqb t 0) (omega arith) (omega arith)))

pub head_low : (s : List ℕ) → head_fault_of s ≤ too_deep
unfolding head_fault_of
head_low s =
    first_low (record_low s 0 1 3)
    (either_low (eqb (get_or s 1 0) 1)
    (either_low (eqb (get_or s 2 0) 0) (omega arith) (either_low (eqb (get_or s 3 0) 0) (omega arith) (either_low (leb (get_or s 2 0 + get_or s 3 0) most_streams) (omega arith) (omega arith))))
    (omega arith))

pub stream_low : (side : ℕ) (s : List ℕ) (at : ℕ) → stream_fault_of side s at ≤ too_deep
unfolding stream_fault_of input_fault_of output_fault_of
stream_low side s at =
    either_low (eqb side 0) (first_low (record_low s at 2 1) (type_low _)) (first_low (record_low s at 3 2) (first_low (type_low _) (role_low _ _)))

pub equation_low : (s : List ℕ) (at y : ℕ) → equation_fault_of s at y ≤ too_deep
unfolding equation_fault_of
equation_low s at y = first_low (record_low s at 4 1) (either_low (eqb (get_or s (at + 1) 0) y) (omega arith) (omega arith))

-- ---- a record without a fault lies in the table

pub record_there : (s : List ℕ) (at k b : ℕ) → record_fault_of s at k b ≡ 0 → (get_or s at 0 ≡ k) × (at + 1 + b ≤ length s)
unfolding record_fault_of
record_there s at k b =
    pick_case There (ltb at (length s)) _ missing
    (λ _. pick_case There (eqb (get_or s at 0) k) _ wrong_kind (λ p. pick_case There (leb (at + 1 + b) (length s)) 0 missing (λ q _. (eqb-true _ _ p, leb-true _ _ q)) (λ _ q. absurd (omega arith))) (λ _ q. absurd (omega arith)))
    (λ _ q. absurd (omega arith))
  where
    There : ℕ → Type 0
    There n = n ≡ 0 → (get_or s at 0 ≡ k) × (at + 1 + b ≤ length s)

pub record_room : (s : List ℕ) (at k b : ℕ) → record_fault_of s at k b ≡ 0 → at + 1 + b ≤ length s
record_room s at k b e = (record_there s at k b e).1

-- what the test of a record tells of its bytes
pub ruleset records = (record_room, edition_body, input_body, output_body, equation_body)

pub input_room : (s : List ℕ) (at : ℕ) → input_fault_of s at ≡ 0 → at + 2 ≤ length s
unfolding input_fault_of
input_room s at e = omega (arith, record_room s at 2 1 (neither _ _ e).0)

pub output_room : (s : List ℕ) (at : ℕ) → output_fault_of s at ≡ 0 → at + 3 ≤ length s
unfolding output_fault_of
output_room s at e = omega (arith, record_room s at 3 2 (neither _ _ e).0)

pub stream_room : (side : ℕ) (s : List ℕ) (at : ℕ) → side ≤ 1 → stream_fault_of side s at ≡ 0 → at + 2 + side ≤ length s
unfolding stream_fault_of
stream_room zero s at h e = omega (arith, input_room s at e)
stream_room (suc zero) s at h e = omega (arith, output_room s at e)
stream_room (suc (suc n)) s at h e = absurd (omega arith)

pub equation_room : (s : List ℕ) (at y : ℕ) → equation_fault_of s at y ≡ 0 → at + 2 ≤ length s
unfolding equation_fault_of
equation_room s at y e = omega (arith, record_room s at 4 1 (neither _ _ e).0)

pub head_room : (s : List ℕ) → head_fault_of s ≡ 0 → 4 ≤ length s
unfolding head_fault_of
head_room s e = record_room s 0 1 3 (neither _ _ e).0

-- ---- the fields of a record without a fault

-- the record 01
pub record HeadFits (s : List ℕ) : Type 0 where
  pub first_edition : get_or s 1 0 ≡ 1
  pub some_input : 1 ≤ get_or s 2 0
  pub some_output : 1 ≤ get_or s 3 0
  pub few : get_or s 2 0 + get_or s 3 0 ≤ most_streams

pub head_fits : (s : List ℕ) → head_fault_of s ≡ 0 → HeadFits s
unfolding head_fault_of
head_fits s e =
    pick_case Fits (eqb (get_or s 1 0) 1) _ wrong_field
    (λ a. pick_case Fits (eqb (get_or s 2 0) 0) wrong_field _ (λ _ q. absurd (omega arith))
    (λ b. pick_case Fits (eqb (get_or s 3 0) 0) wrong_field _ (λ _ q. absurd (omega arith))
    (λ c. pick_case Fits (leb (get_or s 2 0 + get_or s 3 0) most_streams) 0 wrong_field
    (λ d _. record { first_edition = eqb-true _ _ a; some_input = some (eqb-false _ _ b); some_output = some (eqb-false _ _ c); few = leb-true _ _ d })
    (λ _ q. absurd (omega arith)))))
    (λ _ q. absurd (omega arith))
    (neither _ _ e).1
  where
    Fits : ℕ → Type 0
    Fits n = n ≡ 0 → HeadFits s

    some : {n : ℕ} → (n ≡ 0 → ⊥) → 1 ≤ n
    some {n = zero} f = absurd (f refl)
    some {n = suc n} f = omega arith

-- a stream's type and role
pub record StreamFits (t r : ℕ) : Type 0 where
  pub type_is : t ≤ 2
  pub role_is : r ≤ 1
  pub trigger_is_flag : r ≡ 1 → t ≡ 0

pub type_fits : (t : ℕ) → type_rule_of t ≡ 0 → t ≤ 2
unfolding type_rule_of
type_fits t = pick_case (λ (n : ℕ). n ≡ 0 → t ≤ 2) (ltb 2 t) wrong_field 0 (λ _ q. absurd (omega arith)) (λ p _. ltb-false 2 t p)

pub role_fits : (t r : ℕ) → role_rule_of t r ≡ 0 → (r ≤ 1) × (r ≡ 1 → t ≡ 0)
unfolding role_rule_of
role_fits t r =
    pick_case Fits (ltb 1 r) wrong_field _ (λ _ q. absurd (omega arith))
    (λ p. pick_case Fits (eqb r 0) 0 _ (λ e _. let z = eqb-true r 0 e in (ltb-false 1 r p, λ o. absurd (omega arith)))
    (λ _. pick_case Fits (eqb t 0) 0 wrong_field (λ e _. (ltb-false 1 r p, λ _. eqb-true t 0 e)) (λ _ q. absurd (omega arith))))
  where
    Fits : ℕ → Type 0
    Fits n = n ≡ 0 → (r ≤ 1) × (r ≡ 1 → t ≡ 0)

fits_by : (input : Bool) (s : List ℕ) (at : ℕ) → cond input (input_fault_of s at) (output_fault_of s at) ≡ 0 → StreamFits (get_or s (at + 1) 0) (cond input 0 (get_or s (at + 2) 0))
unfolding input_fault_of output_fault_of
fits_by true s at e =
    record { type_is = type_fits _ (neither _ _ e).1; role_is = omega arith; trigger_is_flag = λ q. absurd (omega arith) }
fits_by false s at e =
    let f = neither _ _ (neither _ _ e).1 in
    let r = role_fits _ _ f.1 in
    record { type_is = type_fits _ f.0; role_is = r.0; trigger_is_flag = r.1 }

pub stream_fits : (side : ℕ) (s : List ℕ) (at : ℕ) → stream_fault_of side s at ≡ 0 → StreamFits (get_or s (at + 1) 0) (role_at side s at)
unfolding stream_fault_of role_at
stream_fits side s at e = fits_by (eqb side 0) s at e

-- an input has the role 0
pub input_role : (i v : ℕ) (s : List ℕ) (at : ℕ) → v < i → role_at (side_of i v) s at ≡ 0
unfolding side_of role_at
input_role i v s at h = rw (lt-ltb v i h)

-- ---- a record that is there, each field within its rule, has no fault

module _ (s : List ℕ) where
  pub no_record_fault : (at k b : ℕ) → get_or s at 0 ≡ k → at + 1 + b ≤ length s → record_fault_of s at k b ≡ 0
  unfolding record_fault_of
  no_record_fault at k b e h = rw (lt-ltb at (length s) (omega arith), eq-eqb _ _ e, le-leb _ _ h)

  pub no_head_fault : get_or s 0 0 ≡ 1 → 4 ≤ length s → get_or s 1 0 ≡ 1 → 1 ≤ get_or s 2 0 → 1 ≤ get_or s 3 0 → get_or s 2 0 + get_or s 3 0 ≤ most_streams → head_fault_of s ≡ 0
  unfolding head_fault_of
  no_head_fault e l a b c d =
      both_fine _ _ (no_record_fault 0 1 3 e (omega arith))
      (rw (a, ne_eqb (get_or s 2 0) 0 (λ z. omega (arith, z, b)), ne_eqb (get_or s 3 0) 0 (λ z. omega (arith, z, c)), le-leb _ _ d))

  pub no_equation_fault : (at y : ℕ) → get_or s at 0 ≡ 4 → at + 2 ≤ length s → get_or s (at + 1) 0 ≡ y → equation_fault_of s at y ≡ 0
  unfolding equation_fault_of
  no_equation_fault at y e h q = both_fine _ _ (no_record_fault at 4 1 e (omega arith)) (rw (eq-eqb _ y q))

pub no_type_fault : (t : ℕ) → t ≤ 2 → type_rule_of t ≡ 0
unfolding type_rule_of
no_type_fault t h = rw (le-ltb 2 t h)

pub no_role_fault : (t r : ℕ) → r ≤ 1 → (r ≡ 1 → t ≡ 0) → role_rule_of t r ≡ 0
unfolding role_rule_of
no_role_fault t zero h f = refl
no_role_fault t (suc r) h f = let e : suc r ≡ 1 = omega arith in rw (le-ltb 1 (suc r) h, ne_eqb (suc r) 0 (λ z. omega arith), eq-eqb t 0 (f e))
