-- What holds of each parsed expression and of each refusal: the expression refers to streams of the table and ends in it behind its start;
-- a refusal's number is a node's, and its place lies between the start and the end. Assumes nothing.
use mathlib.Core.Path.{◌≡◌, subst}
use mathlib.Core.Bool.{Bool, true, false}
use mathlib.Core.List.{List}
use Prim.Native.Nat.{ℕ, zero, suc, ◌≤◌, ◌<◌}
use native.Mathlib.Omega.{arith}
use lib.Dec.{eqb}
use lib.ListN.{length}
use Rattle.limits.specs.Refusals.{too_deep}
use Rattle.node.specs.declared.Node.TheVariants.{Operator}
use Rattle.node.specs.Head.{Head}
use Rattle.node.specs.Head as head
use Rattle.node.specs.Kinds.{rule_of, meant}
use Rattle.node.specs.Node.{head_at}
use Rattle.expression.specs.Syntax.{Expr}
use Rattle.basis.specs.Choices.{or_else}
use Rattle.expression.specs.Grammar.{Parsed, good, bad, and_then, operands, step, parse}
use Rattle.expression.specs.References.{references, Refers}
use Rattle.expression.proofs.References.{node_refers, both_refer}
use Rattle.expression.proofs.Heads.{NodeFault, Fine, HeadSound, head_sound}

-- an expression that starts at the place `at` and ends before n
pub record Right (ts s : List ℕ) (at : ℕ) (e : Expr) (n : ℕ) : Type 0 where
  pub refers : (y : ℕ) → Refers y (length ts) (references y e)
  pub behind : at < n
  pub within : n ≤ length s

-- a refusal of an expression that starts at the place `at`
pub record Blamed (s : List ℕ) (at why place : ℕ) : Type 0 where
  pub number : NodeFault why
  pub behind : at ≤ place
  pub within : at ≤ length s → place ≤ length s

abbrev Holds : (Expr → ℕ → Type 0) → (ℕ → ℕ → Type 0) → Parsed → Type 0
Holds P B (good e n) = P e n
Holds P B (bad why place) = B why place

abbrev pub Sound : List ℕ → List ℕ → ℕ → Parsed → Type 0
Sound ts s at = Holds (Right ts s at) (Blamed s at)

holds_then : (P Q : Expr → ℕ → Type 0) (B C : ℕ → ℕ → Type 0) (x : Parsed) (f : Expr → ℕ → Parsed) → Holds P B x → ((why place : ℕ) → B why place → C why place) → ((a : Expr) (n : ℕ) → P a n → Holds Q C (f a n)) → Holds Q C (and_then x f)
holds_then P Q B C (good a n) f h b g = g a n h
holds_then P Q B C (bad why place) f h b g = b why place h

holds_else : (P : Expr → ℕ → Type 0) (B : ℕ → ℕ → Type 0) (t : Bool) (x : Parsed) (f : Unit {0} → Parsed) → Holds P B x → Holds P B (f tt) → Holds P B (or_else t x f)
holds_else P B true x f p q = p
holds_else P B false x f p q = q

module _ (ts s : List ℕ) where
  -- what an operand is blamed for, its operator is
  blamed_before : {at next : ℕ} → at ≤ next → next ≤ length s → (why place : ℕ) → Blamed s next why place → Blamed s at why place
  blamed_before l h why place b = record { number = b.number; behind = omega (arith, b.behind); within = λ _. b.within h }

  module _ (p : ℕ → ℕ → Parsed) (h : (w at : ℕ) → Sound ts s at (p w at)) where
    -- an operand of the type v after an operator at the place `at`
    operand : (at next v : ℕ) → at ≤ next → next ≤ length s → (f : Expr → ℕ → Parsed) → ((a : Expr) (n : ℕ) → Right ts s next a n → Sound ts s at (f a n)) → Sound ts s at (and_then (p v next) f)
    operand at next v l b f = holds_then (Right ts s next) (Right ts s at) (Blamed s next) (Blamed s at) (p v next) f (h v next) (blamed_before l b)

    ops_sound : (w k at next : ℕ) → Fine ts s at (Operator k) next → Sound ts s at (operands p w k (rule_of k) next)
    unfolding operands references
    ops_sound w k at next f =
        operand at next (meant (rule_of k).first w) (omega arith) f.within _ λ a n ra.
        holds_else (Right ts s at) (Blamed s at) (eqb (rule_of k).operands 1) _ _
        (record { refers = ra.refers; behind = omega arith; within = ra.within })
        (operand at n (meant (rule_of k).rest w) (omega arith) ra.within _ λ b m rb.
        holds_else (Right ts s at) (Blamed s at) (eqb (rule_of k).operands 2) _ _
        (record { refers = λ y. both_refer _ _ (ra.refers y) (rb.refers y); behind = omega arith; within = rb.within })
        (operand at m (meant (rule_of k).rest w) (omega arith) rb.within _ λ c e rc.
        record { refers = λ y. both_refer _ _ (both_refer _ _ (ra.refers y) (rb.refers y)) (rc.refers y); behind = omega arith; within = rc.within }))

    step_sound : (w at : ℕ) (x : Head) → HeadSound ts s at x → Sound ts s at (step p w at x)
    unfolding step references
    step_sound w at (head.Refused why) g = record { number = g; behind = omega arith; within = λ l. l }
    step_sound w at (head.Leaf n m) g = record { refers = λ y. node_refers y (length ts) n g.refers; behind = g.behind; within = g.within }
    step_sound w at (head.Operator k m) g = ops_sound w k at m g

  no_level : (w at : ℕ) → Sound ts s at (bad too_deep at)
  no_level w at = record { number = omega arith; behind = omega arith; within = λ l. l }

  pub parse_sound : (l w at : ℕ) → Sound ts s at (parse l ts s w at)
  unfolding parse
  parse_sound zero w at = step_sound (λ v n. bad too_deep n) no_level w at (head_at zero ts s w at) (head_sound zero ts s w at)
  parse_sound (suc l) w at = step_sound (λ v n. parse l ts s v n) (λ v n. parse_sound l v n) w at (head_at (suc l) ts s w at) (head_sound (suc l) ts s w at)

  pub good_right : (l w at : ℕ) {e : Expr} {n : ℕ} → parse l ts s w at ≡ good e n → Right ts s at e n
  good_right l w at q = subst (Sound ts s at) q (parse_sound l w at)

  pub bad_blamed : (l w at : ℕ) {why place : ℕ} → parse l ts s w at ≡ bad why place → Blamed s at why place
  bad_blamed l w at q = subst (Sound ts s at) q (parse_sound l w at)
