-- The equations: what is generated is read, and what is read is generated. Their bytes are bytes.
-- Assumes nothing.
use Prim.Native.Nat.{ℕ, zero, suc, ◌+◌, ◌≤◌}
use native.Mathlib.Omega.{arith}
use mathlib.Core.Path.{◌≡◌, refl, sym, ◌∙◌, ap, subst}
use mathlib.Core.Bool.{cond}
use mathlib.Core.List.{List, [], ◌∷◌}
use lib.Dec.{eqb}
use lib.ListN.{length, get_or, length-append}
use borrow.Author.Tests.{eqb-true}
use Rattle.limits.specs.Limits.{most_streams, most_levels}
use Rattle.limits.specs.Refusals.{wrong_field}
use Rattle.basis.proofs.Tests.{pick_case}
use Rattle.wire.specs.Bytes.{AllBytes}
use Rattle.wire.proofs.Words.{no_bytes, byte_more, bytes_append}
use Rattle.wire.proofs.Stand.{Stand, more, stand_at, put, join, split}
use Rattle.wire.proofs.Stand as stand
use Rattle.node.proofs.Faults.{neither}
use Rattle.expression.specs.Syntax.{Expr}
use Rattle.expression.specs.Grammar.{Parsed, good, bad, parse}
use Rattle.expression.specs.Generation.{expression_bytes}
use Rattle.expression.proofs.Generates.{GeneratedAt, generated}
use Rattle.expression.proofs.Parses.{parsed, expression_small}
use Rattle.table.specs.Records.{equation_fault_of}
use Rattle.table.specs.Table.{Equation, Equations, equated, unfit, joined, with_expr, equation_at, equations_at_of}
use Rattle.table.specs.Generation.{equations_bytes_of, WellFormedEquations}
use Rattle.table.specs.Generation as g
use Rattle.table.proofs.Faults.{record_there, no_equation_fault}
use Rattle.table.proofs.Streams.{fine_case}

in_order : (b y : ℕ) → ◌≡◌ {A = ℕ} (cond (eqb b y) 0 wrong_field) 0 → b ≡ y
in_order b y = pick_case (λ (n : ℕ). n ≡ 0 → b ≡ y) (eqb b y) 0 wrong_field (λ p _. eqb-true _ _ p) (λ _ z. absurd (omega arith))

pub equations_small : (ts : List ℕ) → length ts ≤ most_streams → (y place : ℕ) (qs : List Equation) → y + length qs ≤ length ts → WellFormedEquations ts y place qs → AllBytes (equations_bytes_of y qs)
unfolding equations_bytes_of
equations_small ts few y place qs h g.none = no_bytes
equations_small ts few y place qs h (g.more {qs = more-qs} st f c) =
    byte_more (omega arith) (byte_more (omega arith) (bytes_append (expression_small ts few f) (equations_small ts few (y + 1) _ more-qs (omega arith) c)))

module _ (ts s : List ℕ) where
  one_back : (n y place : ℕ) (e : Expr) (m : ℕ) → equation_fault_of s place y ≡ 0 → parse most_levels ts s (get_or ts y 0) (place + 2) ≡ good e m → equations_at_of (suc n) y ts s place ≡ joined (record { start = place + 2; expr = e }) (equations_at_of n (y + 1) ts s m)
  unfolding equations_at_of equation_at
  one_back n y place e m f q = rw (f, q)

  head_back : (y place : ℕ) (bs : List ℕ) → Stand s place (0x04 ∷ y ∷ bs) → (equation_fault_of s place y ≡ 0) × Stand s (place + 2) bs
  head_back y place bs (more l e (more l1 e1 r)) = (no_equation_fault s place y e (omega arith) e1, stand_at s (omega arith) r)

  pub equations_read : (y place m : ℕ) (qs : List Equation) → WellFormedEquations ts y place qs → Stand s place (equations_bytes_of y qs) → m ≡ place + length (equations_bytes_of y qs) → equations_at_of (length qs) y ts s place ≡ equated qs m
  unfolding equations_at_of equations_bytes_of
  equations_read y place m qs g.none r q = ap (equated []) (omega arith)
  equations_read y place m qs (g.more {q = x} {qs = xs} st f c) r q =
      let z = head_back y place _ r in
      let w = split s (place + 2) (expression_bytes x.expr) (equations_bytes_of (y + 1) xs) z.1 in
      let a = length-append (expression_bytes x.expr) (equations_bytes_of (y + 1) xs) in
      let p = parsed ts s most_levels (get_or ts y 0) (place + 2) {e = x.expr} {n = place + 2 + length (expression_bytes x.expr)} (record { formed = f; stand = w.0; end = refl }) in
      let h = equations_read (y + 1) (place + 2 + length (expression_bytes x.expr)) m xs c w.1 (omega (arith, a)) in
      one_back (length xs) y place x.expr (place + 2 + length (expression_bytes x.expr)) z.0 p ∙ ap (joined (record { start = place + 2; expr = x.expr })) h ∙ ap (λ (i : ℕ). equated (record { start = i; expr = x.expr } ∷ xs) m) (sym st)

  -- ---- back

  -- n equations from that of the stream y on are generated from a place up to m
  pub record Equates (n y place : ℕ) (qs : List Equation) (m : ℕ) : Type 0 where
    pub formed : WellFormedEquations ts y place qs
    pub count : length qs ≡ n
    pub stand : Stand s place (equations_bytes_of y qs)
    pub end : m ≡ place + length (equations_bytes_of y qs)

  abbrev pub Right : ℕ → ℕ → ℕ → Equations → Type 0
  Right n y place (equated qs m) = Equates n y place qs m
  Right n y place (unfit why at) = Unit {0}

  one_more : (n y place : ℕ) (e : Expr) (m : ℕ) → equation_fault_of s place y ≡ 0 → GeneratedAt most_levels ts s (get_or ts y 0) (place + 2) e m → (d : Equations) → Right n (y + 1) (place + 2 + length (expression_bytes e)) d
      → Right (suc n) y place (joined (record { start = place + 2; expr = e }) d)
  unfolding equations_bytes_of equation_fault_of
  one_more n y place e m f x (unfit why at) r = tt
  one_more n y place e m f x (equated qs j) r =
      let z = neither _ _ f in
      let o = record_there s place 4 1 z.0 in
      let a = length-append (expression_bytes e) (equations_bytes_of (y + 1) qs) in
      record {
        formed = g.more refl x.formed r.formed;
        count = ap suc r.count;
        stand = put s place (place + 1) refl (omega (arith, o.1)) o.0 (put s (place + 1) (place + 2) (omega arith) (omega (arith, o.1)) (in_order _ y z.1) (join s (place + 2) (expression_bytes e) (equations_bytes_of (y + 1) qs) x.stand r.stand));
        end = omega (arith, r.end, a);
      }

  module _ (bytes : AllBytes s) where
    equation_read : (n y place : ℕ) → (f : ℕ → Equations) → ((m : ℕ) → Right n (y + 1) m (f m)) → equation_fault_of s place y ≡ 0 → (p : Parsed) → parse most_levels ts s (get_or ts y 0) (place + 2) ≡ p
        → Right (suc n) y place (with_expr p λ e m. joined (record { start = place + 2; expr = e }) (f m))
    equation_read n y place f h z (bad why at) q = tt
    equation_read n y place f h z (good e m) q =
        let x = generated ts s bytes most_levels (get_or ts y 0) (place + 2) q in
        one_more n y place e m z x (f m) (subst (λ (i : ℕ). Right n (y + 1) i (f m)) x.end (h m))

    any_equation : (n y place : ℕ) → (f : ℕ → Equations) → ((m : ℕ) → Right n (y + 1) m (f m)) → Right (suc n) y place (with_expr (equation_at ts s y place) λ e m. joined (record { start = place + 2; expr = e }) (f m))
    unfolding equation_at
    any_equation n y place f h =
        fine_case (λ (p : Parsed). Right (suc n) y place (with_expr p λ e m. joined (record { start = place + 2; expr = e }) (f m))) (eqb (equation_fault_of s place y) 0) _ _
        (λ p. equation_read n y place f h (eqb-true _ _ p) (parse most_levels ts s (get_or ts y 0) (place + 2)) refl) (λ _. tt)

    pub equations_right : (n y place : ℕ) → Right n y place (equations_at_of n y ts s place)
    unfolding equations_at_of equations_bytes_of
    equations_right zero y place = record { formed = g.none; count = refl; stand = stand.none; end = omega arith }
    equations_right (suc n) y place = any_equation n y place (λ m. equations_at_of n (y + 1) ts s m) (λ m. equations_right n (y + 1) m)
