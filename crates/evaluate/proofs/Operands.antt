-- The value of an operator with its operands, one operand after the other, as the grammar reads them.
-- Assumes nothing.
use mathlib.Core.Path.{◌≡◌, refl, sym, ap, ap₂, ◌∙◌}
use mathlib.Core.Bool.{Bool, true, false}
use mathlib.Core.List.{List}
use mathlib.Core.Logic.{◌⊎◌, inl, inr}
use Prim.Native.Nat.{ℕ, ◌+◌, ◌-◌}
use native.Mathlib.Omega.{arith}
use borrow.Author.Tests.{eq-eqb, ne_eqb}
use lib.Dec.{eqb}
use lib.ListN.{length, get_or}
use Rattle.basis.specs.Choices.{or_else}
use Rattle.expression.proofs.Operands.{parse_operator}
use Rattle.expression.specs.Grammar.{Parsed, good, bad, and_then, operands, parse}
use Rattle.expression.specs.Syntax.{Expr, unary, binary, ternary}
use Rattle.lola.specs.Expressions.{Ref}
use Rattle.lola.specs.Graph.{Occurs, in1, in2a, in2b, in3a, in3b, in3c}
use Rattle.lola.specs.Models.{value}
use Rattle.meaning.specs.Expressions.{meaning}
use Rattle.node.proofs.Standing.{two_operands}
use Rattle.node.specs.Kinds.{rule_of, meant}
use Rattle.node.specs.Node.{is_leaf_of, standing}
use Rattle.value.specs.declared.Value.{Value}
use Rattle.value.specs.Values.{apply_of, choose_of}
use Rattle.store.specs.declared.Frame.{Frame}
use Rattle.evaluate.specs.Evaluation.{Readable, value_in, value_of, evaluated_of, Evaluates}
use Rattle.evaluate.specs.declared.Evaluated.{Evaluated}
use Rattle.evaluate.proofs.Heads.{types_in, standing_at, operator_here}
use Rattle.evaluate.proofs.Leaves.{same_expr, same_end}

-- what `and_then` gave came from a first part that is good
pub record Got (q : Parsed) (f : Expr → ℕ → Parsed) (e : Expr) (m : ℕ) : Type 0 where
  pub a : Expr
  pub n : ℕ
  pub is : q ≡ good a n
  pub rest : f a n ≡ good e m

then_good : (q : Parsed) (f : Expr → ℕ → Parsed) (e : Expr) (m : ℕ) → and_then q f ≡ good e m → Got q f e m
then_good (good a n) f e m h = record { a = a; n = n; is = refl; rest = h }
then_good (bad why at) f e m h = let z : ◌≡◌ {A = ℕ} 0 1 = cc in absurd (omega arith)

-- what follows the operands of the kind k, one after the other: p parses those behind the first one, b and c say whether there is one, or two
module _ (k : ℕ) (p : ℕ → Parsed) where
  abbrev pub third : Expr → Expr → Expr → ℕ → Parsed
  third a d f at = good (ternary k a d f) at

  abbrev pub second : Bool → Expr → Expr → ℕ → Parsed
  second c a d at = or_else c (good (binary k a d) at) λ _. and_then (p at) (third a d)

  abbrev pub first : Bool → Bool → Expr → ℕ → Parsed
  first b c a at = or_else b (good (unary k a) at) λ _. and_then (p at) (second c a)

-- an operand's references are the operator's
module _ (types : List ℕ) (k : ℕ) (p : ℕ → Parsed) {r : Ref Value} where
  pub from_three : (a d f e : Expr) (at m : ℕ) → third k p a d f at ≡ good e m → Occurs r (meaning types f) → Occurs r (meaning types e)
  unfolding meaning
  from_three a d f e at m g o = rw (same_expr g) (in3c o)

  pub from_two : (c : Bool) (a d e : Expr) (at m : ℕ) → second k p c a d at ≡ good e m → Occurs r (meaning types a) ⊎ Occurs r (meaning types d) → Occurs r (meaning types e)
  unfolding meaning
  from_two true a d e at m g (inl o) = rw (same_expr g) (in2a o)
  from_two true a d e at m g (inr o) = rw (same_expr g) (in2b o)
  from_two false a d e at m g (inl o) = let t = then_good (p at) (third k p a d) e m g in let i : e ≡ ternary k a d t.a = same_expr t.rest in rw i (in3a o)
  from_two false a d e at m g (inr o) = let t = then_good (p at) (third k p a d) e m g in let i : e ≡ ternary k a d t.a = same_expr t.rest in rw i (in3b o)

  pub from_one : (b c : Bool) (a e : Expr) (at m : ℕ) → first k p b c a at ≡ good e m → Occurs r (meaning types a) → Occurs r (meaning types e)
  unfolding meaning
  from_one true c a e at m g o = rw (same_expr g) (in1 o)
  from_one false c a e at m g o = let t = then_good (p at) (second k p c a) e m g in from_two c a t.a e t.n m t.rest (inl o)

module _ (types kept st : List ℕ) (n j : ℕ) where
  abbrev val : Expr → Value
  val = value_in types kept st n j

  value_unary : (k : ℕ) (a : Expr) → val (unary k a) ≡ apply_of k (val a) (val a)
  unfolding value_in meaning value
  value_unary k a = refl

  value_binary : (k : ℕ) (a b : Expr) → val (binary k a b) ≡ apply_of k (val a) (val b)
  unfolding value_in meaning value
  value_binary k a b = refl

  value_ternary : (k : ℕ) (a b c : Expr) → val (ternary k a b c) ≡ choose_of (val a) (val b) (val c)
  unfolding value_in meaning value
  value_ternary k a b c = refl

-- an operand's answer, whichever way it was found
pub evaluates_as : (l : ℕ) (frame : Frame) (st s : List ℕ) (place : ℕ) {r r' : Evaluated} → r ≡ r' → Evaluates l frame st s place r' → Evaluates l frame st s place r
evaluates_as l frame st s place e h x = e ∙ h x

-- the part of the store that an operand gets is all of it
pub readable_on : {l : ℕ} {frame : Frame} {s : List ℕ} {place : ℕ} {st held : List ℕ} → held ≡ st → Readable l frame (length st) s place → Readable l frame (length held) s place
readable_on e x = rw e x

pub evaluates_on : (l : ℕ) (frame : Frame) (st s : List ℕ) (place : ℕ) {held : List ℕ} {r r' : Evaluated} → held ≡ st → r ≡ r' → Evaluates l frame held s place r' → Evaluates l frame st s place r
evaluates_on l frame st s place e f h = evaluates_as l frame st s place f (rw e at h)

-- the operator at a place where the grammar reads an expression
module _ {l : ℕ} {frame : Frame} (st : List ℕ) {s : List ℕ} {place : ℕ} (x : Readable l frame (length st) s place) (h : is_leaf_of (standing s place) ≡ false) where
  abbrev k : ℕ
  k = get_or s place 0

  abbrev Answer : Evaluated → Type 0
  Answer e = e ≡ evaluated_of (value_of st x) x.behind

  abbrev value_here : Expr → Value
  value_here = value_in x.turn.types x.turn.kept st x.turn.n x.turn.j

  abbrev q : ℕ → ℕ → Parsed
  q v at = parse (l - 1) (types_in x) s v at

  -- the operands behind the first one
  abbrev others : ℕ → Parsed
  others at = q (meant (rule_of k).rest x.wanted) at

  abbrev is_one : Bool
  is_one = eqb (rule_of k).operands 1

  abbrev is_two : Bool
  is_two = eqb (rule_of k).operands 2

  in_order : and_then (q (meant (rule_of k).first x.wanted) (place + 1)) (first k others is_one is_two) ≡ good x.expr x.behind
  unfolding operands
  in_order = sym (parse_operator l (types_in x) s x.wanted place (operator_here x h)) ∙ x.parsed

  pub one : Got (q (meant (rule_of k).first x.wanted) (place + 1)) (first k others is_one is_two) x.expr x.behind
  one = then_good _ _ _ _ in_order

  abbrev pub first_readable : Readable (l - 1) frame (length st) s (place + 1)
  first_readable = record {
    turn = x.turn;
    wanted = meant (rule_of k).first x.wanted;
    expr = one.a;
    behind = one.n;
    parsed = one.is;
    held = λ r o. x.held r (from_one x.turn.types k others is_one is_two one.a x.expr one.n x.behind one.rest o);
  }

  module _ {r1 : Evaluated} (h1 : Evaluates (l - 1) frame st s (place + 1) r1) where
    first_value : r1.value ≡ value_here one.a
    first_value = ap (λ (z : Evaluated). z.value) (h1 first_readable)

    first_end : r1.next ≡ one.n
    first_end = ap (λ (z : Evaluated). z.next) (h1 first_readable)

    pub one_gives : {v b : Value} {i : ℕ} → (rule_of k).operands ≡ 1 → b ≡ r1.value → i ≡ r1.next → v ≡ apply_of k r1.value b → Answer (evaluated_of v i)
    one_gives {v} o1 eb ei ev =
        let g : good (unary k one.a) one.n ≡ good x.expr x.behind = rw (eq-eqb _ _ o1) at one.rest in
        let a : v ≡ value_of st x
        = ev ∙ ap₂ (apply_of k) first_value (eb ∙ first_value) ∙ sym (value_unary x.turn.types x.turn.kept st x.turn.n x.turn.j k one.a) ∙ ap value_here (sym (same_expr g)) in
        λ i. record { value = a i; next = (ei ∙ first_end ∙ sym (same_end g)) i }

    module _ (n1 : (rule_of k).operands ≡ 1 → ⊥) where
      after_first : and_then (others r1.next) (second k others is_two one.a) ≡ good x.expr x.behind
      after_first = rw first_end (rw (ne_eqb _ _ n1) at one.rest)

      pub two : Got (others r1.next) (second k others is_two one.a) x.expr x.behind
      two = then_good _ _ _ _ after_first

      abbrev pub second_readable : Readable (l - 1) frame (length st) s r1.next
      second_readable = record {
        turn = x.turn;
        wanted = meant (rule_of k).rest x.wanted;
        expr = two.a;
        behind = two.n;
        parsed = two.is;
        held = λ r o. x.held r (from_two x.turn.types k others is_two one.a two.a x.expr two.n x.behind two.rest (inr o));
      }

      module _ {r2 : Evaluated} (h2 : Evaluates (l - 1) frame st s r1.next r2) where
        second_value : r2.value ≡ value_here two.a
        second_value = ap (λ (z : Evaluated). z.value) (h2 second_readable)

        second_end : r2.next ≡ two.n
        second_end = ap (λ (z : Evaluated). z.next) (h2 second_readable)

        pub two_give : {v b : Value} {i : ℕ} → ((rule_of k).operands ≡ 3 → ⊥) → b ≡ r2.value → i ≡ r2.next → v ≡ apply_of k r1.value b → Answer (evaluated_of v i)
        two_give {v} n3 eb ei ev =
            let o2 : (rule_of k).operands ≡ 2 = two_operands s k (place + 1) (standing_at x).form h n1 n3 in
            let g : good (binary k one.a two.a) two.n ≡ good x.expr x.behind = rw (eq-eqb _ _ o2) at two.rest in
            let a : v ≡ value_of st x
            = ev ∙ ap₂ (apply_of k) first_value (eb ∙ second_value) ∙ sym (value_binary x.turn.types x.turn.kept st x.turn.n x.turn.j k one.a two.a) ∙ ap value_here (sym (same_expr g)) in
            λ i. record { value = a i; next = (ei ∙ second_end ∙ sym (same_end g)) i }

        module _ (o3 : (rule_of k).operands ≡ 3) where
          after_second : and_then (others r2.next) (third k others one.a two.a) ≡ good x.expr x.behind
          after_second = let n2 : (rule_of k).operands ≡ 2 → ⊥ = λ e. omega (arith, o3, e) in rw second_end (rw (ne_eqb _ _ n2) at two.rest)

          pub three : Got (others r2.next) (third k others one.a two.a) x.expr x.behind
          three = then_good _ _ _ _ after_second

          abbrev pub third_readable : Readable (l - 1) frame (length st) s r2.next
          third_readable = record {
            turn = x.turn;
            wanted = meant (rule_of k).rest x.wanted;
            expr = three.a;
            behind = three.n;
            parsed = three.is;
            held = λ r o. x.held r (from_three x.turn.types k others one.a two.a three.a x.expr three.n x.behind three.rest o);
          }

          pub three_give : {r3 : Evaluated} {v : Value} → Evaluates (l - 1) frame st s r2.next r3 → v ≡ choose_of r1.value r2.value r3.value → Answer (evaluated_of v r3.next)
          three_give {r3} {v} h3 ev =
              let third_value : r3.value ≡ value_here three.a = ap (λ (z : Evaluated). z.value) (h3 third_readable) in
              let third_end : r3.next ≡ three.n = ap (λ (z : Evaluated). z.next) (h3 third_readable) in
              let a : v ≡ value_of st x
              = ev ∙ (λ i. choose_of (first_value i) (second_value i) (third_value i)) ∙ sym (value_ternary x.turn.types x.turn.kept st x.turn.n x.turn.j k one.a two.a three.a) ∙ ap value_here (sym (same_expr three.rest)) in
              λ i. record { value = a i; next = (third_end ∙ sym (same_end three.rest)) i }
