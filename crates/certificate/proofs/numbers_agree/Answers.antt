-- `numbers_agree`: each stream passes the test, or one of them does not.
-- Assumes nothing.
use Rattle.std.proofs.Common.{◌≡◌, ℕ, ◌+◌, ◌<◌, Bool, true, false, ◌⊎◌, List, length, get_or, refl, rules, arith}
use Rattle.std.specs.Bool.{MatchBool}
use Rattle.std.specs.List.{range_with_len, AllWithin, HoldsAt}
use Rattle.std.proofs.lemmas.Iterator.{cases_from_all, YieldsList-from_range}
use Rattle.std.proofs.lemmas.List.FromFn.{length-range_with_len, get_or-range_with_len}
use borrow.Author.Tests.{tests}
use Rattle.certificate.specs.Line.{Agreed}
use Rattle.certificate.proofs.numbers_agree.Goals as goal

module _ (tight most look kept : List ℕ) where
  abbrev Yes : ℕ → Type 0
  Yes v = (get_or kept v 0 ≡ get_or most v 0 + 1) × ((get_or look v 0 ≡ 0) ⊎ (get_or tight v 0 ≡ 0 → ⊥))

  abbrev No : ℕ → Type 0
  No v = (get_or kept v 0 ≡ get_or most v 0 + 1 → ⊥) ⊎ ((get_or look v 0 ≡ 0 → ⊥) × (get_or tight v 0 ≡ 0))

  module _ (s : ℕ) where
    abbrev all : List ℕ
    all = range_with_len 0 s

    at_own : (P : ℕ → Type 0) (v : ℕ) → v < s → HoldsAt P all v → P v
    at_own P v l h = let e : get_or all v 0 ≡ v = omega (arith, get_or-range_with_len 0 s v 0 l) in rw e at (h 0)

    agreed_by : (r : Bool) → MatchBool r (AllWithin Yes all 0 (length all)) ((k : ℕ) × (k < length all) × HoldsAt No all k) → Agreed r tight most look kept s
    agreed_by true h = record { keeps = λ v l. (each v l).0; reached = λ v l. (each v l).1 }
      where
        each : (v : ℕ) → v < s → Yes v
        each v l = at_own Yes v l (λ d. h v d (omega arith) (omega (arith, length-range_with_len 0 s)))
    agreed_by false h = let l : h.0 < s = omega (arith, length-range_with_len 0 s, h.1) in record { v = h.0; inside = l; why = at_own No h.0 l h.2 }

pub returns : goal.returns
returns c =
    let tight = c.args.tight.now in
    let most = c.args.most.now in
    let look = c.args.look.now in
    let kept = c.args.kept.now in
    agreed_by tight most look kept c.args.s c.all.result
    (cases_from_all _ _ c.all.result (Yes tight most look kept) (No tight most look kept) c.all.ensures.ran (YieldsList-from_range 0 c.args.s c.args.s refl (omega arith))
    (λ v q k. search (rules, tests)) (λ v q k. search (rules, tests)))
