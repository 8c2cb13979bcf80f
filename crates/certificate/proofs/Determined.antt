-- What noting a row and settling determine (document 01, "What the contracts must exclude"): the answers, and all that is held of a row that
-- is noted. The order within a turn is left open, where several respect the tight edges.
-- Assumes nothing.
use mathlib.Core.Path.{◌≡◌, refl, sym, ap, ◌∙◌}
use mathlib.Core.Bool.{Bool, true, false}
use mathlib.Core.Logic.{◌⊎◌, inl, inr}
use mathlib.Core.List.{List}
use Prim.Native.Nat.{ℕ, ◌≤◌, ◌<◌}
use native.Mathlib.Omega.{arith}
use native.Mathlib.Decide.{ℕ_discrete}
use lib.ListN.{get_or}
use lib.Seq.{ext_get_or}
use Rattle.limits.specs.Limits.{most_streams}
use Rattle.basis.specs.Edges.{Edge, Among}
use Rattle.basis.specs.Rows.{entry}
use Rattle.basis.proofs.Edges.{has_before}
use Rattle.basis.proofs.Rows.{rows_once}
use Rattle.basis.proofs.Tests.{lt_or_ge, true_false}
use Rattle.expression.specs.Seen.{seen_rise, seen_fall}
use Rattle.certificate.specs.Certificate.{Settled}
use Rattle.certificate.specs.Forgotten.{rises, falls, Forgotten}
use Rattle.certificate.specs.Tally.{bit, Tally, Row, Lacks, NotedRow}
use Rattle.certificate.proofs.Mask.{bit_lt, same_bits}
use Rattle.certificate.proofs.Forgetting.{fall_with_rise}
use Rattle.certificate.proofs.Verdict.{kept_of, kept_is}

-- the tally of a list of edges
module _ {es : List Edge} {look : ℕ → ℕ} {t m t' m' : List ℕ} (x : Tally (Among es) look t m) (y : Tally (Among es) look t' m') where
  tights_once : (u v : ℕ) → u < most_streams → bit (get_or t u 0) v ≡ bit (get_or t' u 0) v
  tights_once u v l = go (ℕ_discrete (bit (get_or t u 0) v) 1) (ℕ_discrete (bit (get_or t' u 0) v) 1)
    where
      go : Dec (bit (get_or t u 0) v ≡ 1) → Dec (bit (get_or t' u 0) v ≡ 1) → bit (get_or t u 0) v ≡ bit (get_or t' u 0) v
      go (yes p) (yes q) = p ∙ sym q
      go (yes p) (no q) = absurd (q (y.tights u v l (x.bits u v l p)))
      go (no p) (yes q) = absurd (p (x.tights u v l (y.bits u v l q)))
      go (no p) (no q) = omega (arith, bit_lt (get_or t u 0) v, bit_lt (get_or t' u 0) v)

  pub tally_once : (t ≡ t') × (m ≡ m')
  tally_once = (
    ext_get_or 0 t t' (x.long.0 ∙ sym y.long.0) (λ u l. same_bits _ _ (λ v. tights_once u v (omega (arith, x.long.0, l)))),
    ext_get_or 0 m m' (x.long.1 ∙ sym y.long.1) (λ v l. let k : v < most_streams = omega (arith, x.long.1, l) in
        omega (arith, kept_is es look v _ _ (x.mosts v k) (kept_of es look v _ _ (y.mosts v k) refl))),
  )

-- what is left of what was seen, where no smallest weight is noted without a largest
pub forgotten_once : {s : ℕ} {seen a b : List (List ℕ)} → ((v : ℕ) → v < s → rises seen v ≡ 0 → falls seen v ≡ 0) → Forgotten s seen a → Forgotten s seen b → a ≡ b
forgotten_once {s} {seen} {a} {b} g f h = rows_once f.shape h.shape (λ v i l k. same v i (lt_or_ge v s) (ℕ_discrete i seen_rise) (ℕ_discrete i seen_fall))
  where
    same : (v i : ℕ) → (v < s) ⊎ (s ≤ v) → Dec (i ≡ seen_rise) → Dec (i ≡ seen_fall) → entry a v i ≡ entry b v i
    same v i (inr l) d e = ap (λ (r : List ℕ). get_or r i 0) (f.past v l ∙ sym (h.past v l))
    same v i (inl l) (yes p) e = rw p (f.no_rise v l ∙ sym (h.no_rise v l))
    same v i (inl l) (no p) (yes q) = rw q (f.no_fall v l (g v l) ∙ sym (h.no_fall v l (g v l)))
    same v i (inl l) (no p) (no q) = f.others v i p q ∙ sym (h.others v i p q)

-- `note_row`, where the notes are an equation's and the tally is that of a list of edges
module _ (rs es : List Edge) (y s : ℕ) (look : ℕ → ℕ) (seen : List (List ℕ)) (t m : List ℕ) (x : Row rs y (rises seen) (falls seen) s) (h : Tally (Among es) look t m) where
  noted_or_lacks : {seen₁ : List (List ℕ)} {t₁ m₁ : List ℕ} → NotedRow true y s look seen t m seen₁ t₁ m₁ → Lacks look rs → ⊥
  noted_or_lacks u l = omega (arith, l.lacks, (u.0 rs es x h).slack l.y l.v l.k (has_before es l.has))

  pub noted_row_once :
      (a b : Bool) (seen₁ seen₂ : List (List ℕ)) (t₁ t₂ m₁ m₂ : List ℕ) →
      NotedRow a y s look seen t m seen₁ t₁ m₁ → NotedRow b y s look seen t m seen₂ t₂ m₂ →
      (a ≡ b) × (a ≡ true → (seen₁ ≡ seen₂) × (t₁ ≡ t₂) × (m₁ ≡ m₂))
  noted_row_once true true seen₁ seen₂ t₁ t₂ m₁ m₂ u v =
      let k = tally_once (u.0 rs es x h) (v.0 rs es x h) in
      (refl, λ e. (forgotten_once (λ w l. fall_with_rise (x.extremes w l)) u.1 v.1, k.0, k.1))
  noted_row_once true false seen₁ seen₂ t₁ t₂ m₁ m₂ u v = absurd (noted_or_lacks u (v rs x))
  noted_row_once false true seen₁ seen₂ t₁ t₂ m₁ m₂ u v = absurd (noted_or_lacks v (u rs x))
  noted_row_once false false seen₁ seen₂ t₁ t₂ m₁ m₂ u v = (refl, λ e. true_false e refl)

-- `settle`, where the tally is that of a list of edges
module _ (es : List Edge) (s : ℕ) (look kept : ℕ → ℕ) where
  pub settled_once : (a b : Bool) (order order' : List ℕ) → Settled a (Among es) s look kept order → Settled b (Among es) s look kept order' → a ≡ b
  settled_once true true order order' u v = refl
  settled_once true false order order' u v = absurd (v u.right)
  settled_once false true order order' u v = absurd (u v.right)
  settled_once false false order order' u v = refl
