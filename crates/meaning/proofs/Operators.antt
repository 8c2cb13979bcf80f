-- The operators of document 01's table of kinds give what their row says: one with one or two operands its own type, `if` the wanted one.
-- Assumes nothing.
use Prim.Native.Nat.{ℕ, suc, ◌+◌}
use mathlib.Core.Path.{◌≡◌, refl, ap, ◌∙◌}
use mathlib.Core.Bool.{Bool, true, false, not, ◌&&◌, ◌||◌, cond}
use mathlib.Core.List.{List, [], ◌∷◌}
use lib.ListN.{get_or}
use native.Mathlib.Omega.{arith}
use borrow.Author.Tests.{eqb-true, ne_eqb, not-true}
use lib.Dec.{eqb}
use Rattle.basis.proofs.Tests.{and_true}
use Rattle.value.specs.Values.{op_of, type_of_op}
use Rattle.node.specs.Kinds.{rule_of, rows, look, Row, no_rule, meant, Rule}
use Rattle.wire.specs.Bytes.{word_at}
use Rattle.node.specs.Node.{signed_of, node_of}
use Rattle.node.specs.declared.Node.{Node}
use Rattle.node.specs.declared.Node.TheVariants.{Constant, Now, At, Operator}

-- a constant's or a reference's kind
abbrev is_leaf_of : ℕ → Bool
is_leaf_of k = eqb k 0x10 || (eqb k 0x11 || (eqb k 0x12 || (eqb k 0x13 || eqb k 0x14)))

-- an operator's kind, and what its row has to say of its type
pub record OpKind (k : ℕ) : Type 0 where
  pub form : (rule_of k).form ≡ 0 → ⊥
  pub no_leaf : is_leaf_of k ≡ false

abbrev one_or_two_of : Rule → Bool
one_or_two_of r = eqb r.operands 1 || eqb r.operands 2

abbrev right_type_of : ℕ → Rule → Bool
right_type_of k r = cond (one_or_two_of r) (eqb (type_of_op (op_of k)) r.result && not (eqb r.result 3)) (eqb r.rest 3)

-- a test of each row holds of the rule of every kind, if it holds where there is no rule
abbrev each : (ℕ → Rule → Bool) → List Row → Bool
each f [] = true
each f (x ∷ xs) = f x.kind x.rule && each f xs

look_each : (f : ℕ → Rule → Bool) (k : ℕ) → f k no_rule ≡ true → (xs : List Row) → each f xs ≡ true → f k (look xs k) ≡ true
unfolding look
look_each f k h [] e = h
look_each f k h (x ∷ xs) e = go (eqb k x.kind) refl (and_true (f x.kind x.rule) (each f xs) e) (look_each f k h xs)
  where
    go : (b : Bool) → eqb k x.kind ≡ b → (f x.kind x.rule ≡ true) × (each f xs ≡ true) → (each f xs ≡ true → f k (look xs k) ≡ true) → f k (cond b x.rule (look xs k)) ≡ true
    go true p q ih = rw (eqb-true k x.kind p) q.0
    go false p q ih = ih q.1

right_type : (k : ℕ) → OpKind k → right_type_of k (rule_of k) ≡ true
unfolding rule_of rows op_of
right_type k o =
    rw (ne_eqb _ _ o.form, o.no_leaf)
    at (look_each (λ j r. cond (eqb r.form 0) true (cond (is_leaf_of j) true (right_type_of j r))) k refl rows refl)

module _ (k : ℕ) (o : OpKind k) (w : ℕ) (fit : meant (rule_of k).result w ≡ w) where
  pub own_type : one_or_two_of (rule_of k) ≡ true → type_of_op (op_of k) ≡ w
  unfolding meant
  own_type e =
      let p = and_true _ _ (rw e at (right_type k o)) in
      let q : (rule_of k).result ≡ w = rw (not-true (eqb (rule_of k).result 3) p.1) at fit in
      eqb-true _ _ p.0 ∙ q

  pub rest_type_lem : one_or_two_of (rule_of k) ≡ false → meant (rule_of k).rest w ≡ w
  unfolding meant
  rest_type_lem e = let p = rw e at (right_type k o) in rw p

-- a node that is decoded as an operator has an operator's kind
abbrev kind_of : Node → ℕ
kind_of (Constant t x) = 0
kind_of (Now v) = 0
kind_of (At v k d) = 0
kind_of (Operator k) = suc k

not_leaf : (b : Bool) (n m : Node) (k : ℕ) → kind_of n ≡ 0 → cond b n m ≡ Operator k → (b ≡ false) × (m ≡ Operator k)
not_leaf true n m k h e = absurd (omega (arith, ap kind_of e))
not_leaf false n m k h e = (refl, e)

pub operator_node : (s : List ℕ) (k place j : ℕ) → ((rule_of k).form ≡ 0 → ⊥) → node_of s k place ≡ Operator j → OpKind j
unfolding node_of
operator_node s k place j f e =
    let a = not_leaf (eqb k 0x10) (Constant 0 (get_or s place 0)) _ j refl e in
    let b = not_leaf (eqb k 0x11) (Constant 1 (word_at s place)) _ j refl a.1 in
    let c = not_leaf (eqb k 0x12) (Constant 2 (word_at s place)) _ j refl b.1 in
    let d = not_leaf (eqb k 0x13) (Now (get_or s place 0)) _ j refl c.1 in
    let g = not_leaf (eqb k 0x14) (At (get_or s place 0) (signed_of (get_or s (place + 1) 0)) (word_at s (place + 2))) _ j refl d.1 in
    let same : k ≡ j = omega (arith, ap kind_of g.1) in
    rw (← same) (record { form = f; no_leaf = rw (a.0, b.0, c.0, d.0, g.0) })
