-- A fault's number: none is 0, each is a byte below 17, and no two faults have the same.
-- Assumes nothing.
use Rattle.std.proofs.Common.{Result, Ok, Err, MatchResult, IsErrAnd}
use Rattle.std.proofs.lemmas.Result.{err_from_is_err_and}
use mathlib.Core.Path.{◌≡◌, refl, sym, ap, ◌∙◌}
use Prim.Native.Nat.{ℕ, ◌≤◌}
use native.Mathlib.Omega.{arith}
use lib.ListN.{get_or}
use mathlib.Core.List.{[], ◌∷◌}
use Rattle.limits.specs.Faults.{number_for, Named, Tested, Refuses}
use Rattle.limits.specs.declared.Fault.{Fault}
use Rattle.limits.specs.declared.UnknownFault.{UnknownFault}
use Rattle.limits.specs.declared.Refusal.{Refusal}
use Rattle.limits.specs.declared.Fault.TheVariants.{TableLength, Missing, WrongKind, WrongField, WrongType, TooDeep, WrongLoop, OverWords, BytesAfter, ForeignRecord, ShortStore, WrongPhase, RowLimit, RowLength, WrongFlag, ShortOutput}

-- a number's fault
fault_of : ℕ → Fault
fault_of n =
    get_or
    (TableLength ∷ TableLength ∷ Missing ∷ WrongKind ∷ WrongField ∷ WrongType ∷ TooDeep ∷ WrongLoop ∷ OverWords ∷ BytesAfter ∷ ForeignRecord ∷ ShortStore ∷ WrongPhase ∷ RowLimit ∷ RowLength ∷ WrongFlag ∷ ShortOutput ∷ [])
    n TableLength

number_back : (f : Fault) → fault_of (number_for f) ≡ f
unfolding fault_of
number_back TableLength = refl
number_back Missing = refl
number_back WrongKind = refl
number_back WrongField = refl
number_back WrongType = refl
number_back TooDeep = refl
number_back WrongLoop = refl
number_back OverWords = refl
number_back BytesAfter = refl
number_back ForeignRecord = refl
number_back ShortStore = refl
number_back WrongPhase = refl
number_back RowLimit = refl
number_back RowLength = refl
number_back WrongFlag = refl
number_back ShortOutput = refl

pub fault_once : (f g : Fault) → number_for f ≡ number_for g → f ≡ g
fault_once f g e = sym (number_back f) ∙ ap fault_of e ∙ number_back g

pub refusal_once : {r t : Refusal} {why place : ℕ} → Refuses r why place → Refuses t why place → r ≡ t
refusal_once {r} {t} x y = λ i. record { fault = fault_once r.fault t.fault (sym x.0 ∙ y.0) i; place = (sym x.1 ∙ y.1) i }

pub number_within : (f : Fault) → (1 ≤ number_for f) × (number_for f ≤ 16)
number_within TableLength = (omega arith, omega arith)
number_within Missing = (omega arith, omega arith)
number_within WrongKind = (omega arith, omega arith)
number_within WrongField = (omega arith, omega arith)
number_within WrongType = (omega arith, omega arith)
number_within TooDeep = (omega arith, omega arith)
number_within WrongLoop = (omega arith, omega arith)
number_within OverWords = (omega arith, omega arith)
number_within BytesAfter = (omega arith, omega arith)
number_within ForeignRecord = (omega arith, omega arith)
number_within ShortStore = (omega arith, omega arith)
number_within WrongPhase = (omega arith, omega arith)
number_within RowLimit = (omega arith, omega arith)
number_within RowLength = (omega arith, omega arith)
number_within WrongFlag = (omega arith, omega arith)
number_within ShortOutput = (omega arith, omega arith)

-- a fault is none
pub number_some : (f : Fault) → number_for f ≡ 0 → ⊥
number_some f e = let h = number_within f in omega arith

-- what a test answers is determined by the number that it looks for
pub tested_once : (n : ℕ) (a b : Result (Unit {0}) Fault) → Tested a n → Tested b n → a ≡ b
tested_once n (Ok a) (Ok b) x y = refl
tested_once n (Ok a) (Err g) x y = absurd (number_some g (sym y ∙ x))
tested_once n (Err f) (Ok b) x y = absurd (number_some f (sym x ∙ y))
tested_once n (Err f) (Err g) x y = ap Err (fault_once f g (sym x ∙ y))

-- and what a byte is as a fault by the byte
pub named_once : (n : ℕ) (a b : Result Fault UnknownFault) → Named n a → Named n b → a ≡ b
named_once n (Ok f) (Ok g) x y = ap Ok (fault_once f g (sym x ∙ y))
named_once n (Ok f) (Err e) x y = let h = number_within f in absurd (omega arith)
named_once n (Err e) (Ok f) x y = let h = number_within f in absurd (omega arith)
named_once n (Err d) (Err e) x y = λ i. Err (record { 0 = (sym x.0 ∙ y.0) i })

-- ---- what becomes of a test by `map_err(|fault| fault.at(place))`

module _ {n : ℕ} (t : Result (Unit {0}) Fault) {r : Result (Unit {0}) Refusal} (Q : Fault → Refusal → Type 0) (x : Tested t n) (m : MatchResult t (λ y. r ≡ Ok y) (λ f. IsErrAnd r (Q f))) where
  pub none_at : {y : Unit {0}} → r ≡ Ok y → n ≡ 0
  none_at {y} e = go t x m
    where
      go : (t : Result (Unit {0}) Fault) → Tested t n → MatchResult t (λ y. r ≡ Ok y) (λ f. IsErrAnd r (Q f)) → n ≡ 0
      go (Ok _) x m = x
      go (Err f) x m = let w = err_from_is_err_and r m in let z : Ok y ≡ Err w.0 = sym e ∙ w.1 in cc

  pub refused_at : {place : ℕ} → ((f : Fault) (a : Refusal) → Q f a → a ≡ record { fault = f; place = place }) → {a : Refusal} → r ≡ Err a → Refuses a n place
  refused_at {place} h {a} e = go t x m
    where
      go : (t : Result (Unit {0}) Fault) → Tested t n → MatchResult t (λ y. r ≡ Ok y) (λ f. IsErrAnd r (Q f)) → Refuses a n place
      go (Ok y) x m = let z : Ok y ≡ Err a = sym m ∙ e in cc
      go (Err f) x m =
          let w = err_from_is_err_and r m in
          let q : a ≡ w.0 = cc in
          rw (q, h f w.0 w.2) (x, refl)
