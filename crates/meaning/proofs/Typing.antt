-- An expression that the grammar reads has values of the wanted type (source 004, definitions 1 and 2: an equation is of its stream's
-- type).
-- Assumes nothing.
use Prim.Native.Nat.{ℕ, zero, suc, ◌+◌}
use mathlib.Core.Path.{◌≡◌, refl, subst}
use mathlib.Core.Bool.{Bool, true, false}
use mathlib.Core.List.{List}
use lib.ListN.{length, get_or}
use borrow.Author.Tests.{eqb-true, eqb-false}
use lib.Dec.{leb, ltb, eqb}
use lib.IntN.{ℤ}
use Rattle.basis.proofs.Tests.{pick_case}
use Rattle.value.specs.declared.Value.{Value}
use Rattle.value.specs.Values.{op_of, type_of_op}
use Rattle.node.specs.Kinds.{rule_of, meant}
use Rattle.node.specs.Node.{node_of, node_by, node_at, fault_for, type_fault_of, word_fault_of, zero_fault_of, first, fault_at, head_of, head_by_of, head_at, NodeRead}
use Rattle.node.proofs.Faults.{neither, same_type, below_of}
use Rattle.node.proofs.Heads.{faultless}
use Rattle.node.specs.declared.Node.{Node}
use Rattle.node.specs.declared.Node.TheVariants.{Constant, Now, At, Operator}
use Rattle.node.specs.Head.{Head}
use Rattle.node.specs.Head as head
use Rattle.expression.specs.Syntax.{Expr, leaf, unary, binary, ternary}
use Rattle.basis.specs.Choices.{or_else}
use Rattle.expression.specs.Grammar.{Parsed, good, bad, and_then, operands, step, parse}
use Rattle.lola.specs.Expressions.{Ref, now, at, target}
use Rattle.lola.specs.Models.{value}
use Rattle.lola.specs.Graph.{Occurs, here, in1, in2a, in2b, in3a, in3b, in3c}
use Rattle.meaning.specs.Expressions.{ops, meaning, OfType}
use Rattle.meaning.proofs.Types.{reading_of_type, apply_of_type, choose_of_type}
use Rattle.meaning.proofs.Operators.{OpKind, own_type, rest_type_lem, operator_node}

-- what holds of the expression that is read, if one is
abbrev pub Reads : (Expr → Type 0) → Parsed → Type 0
Reads P (good e n) = P e
Reads P (bad why place) = Unit {0}

pub reads_then : (Q P : Expr → Type 0) (x : Parsed) (f : Expr → ℕ → Parsed) → Reads Q x → ((a : Expr) (m : ℕ) → Q a → Reads P (f a m)) → Reads P (and_then x f)
reads_then Q P (good a m) f h g = g a m h
reads_then Q P (bad why place) f h g = tt

pub reads_else : (P : Expr → Type 0) (b : Bool) (x : Parsed) (f : Unit {0} → Parsed) → (b ≡ true → Reads P x) → (b ≡ false → Reads P (f tt)) → Reads P (or_else b x f)
reads_else P true x f p q = p refl
reads_else P false x f p q = q refl

module _ (types : List ℕ) where
  -- an expression whose values are of the type w where its references' are of their streams' types
  abbrev pub Yields : ℕ → Expr → Type 0
  Yields w e = (f : Ref Value → Value) → ((r : Ref Value) → Occurs r (meaning types e) → OfType (get_or types (target r) 0) (f r)) → OfType w (value ops f (meaning types e))

  yields_constant : (w t x : ℕ) → t ≡ w → Yields w (leaf (Constant t x))
  unfolding meaning value
  yields_constant w t x e f h = rw (← e) (reading_of_type t x)

  yields_now : (w v : ℕ) → get_or types v 0 ≡ w → Yields w (leaf (Now v))
  unfolding meaning value
  yields_now w v e f h = rw (← e) (h (now v) here)

  yields_at : (w v d : ℕ) (k : ℤ) → get_or types v 0 ≡ w → Yields w (leaf (At v k d))
  unfolding meaning value
  yields_at w v d k e f h = rw (← e) (h _ here)

  yields_unary : (w k : ℕ) (a : Expr) → type_of_op (op_of k) ≡ w → Yields w (unary k a)
  unfolding meaning value
  yields_unary w k a e f h = rw (← e) (apply_of_type k (value ops f (meaning types a)) (value ops f (meaning types a)))

  yields_binary : (w k : ℕ) (a b : Expr) → type_of_op (op_of k) ≡ w → Yields w (binary k a b)
  unfolding meaning value
  yields_binary w k a b e f h = rw (← e) (apply_of_type k (value ops f (meaning types a)) (value ops f (meaning types b)))

  yields_ternary : (w k : ℕ) (a b c : Expr) → Yields w b → Yields w c → Yields w (ternary k a b c)
  unfolding meaning value
  yields_ternary w k a b c tb tc f h = choose_of_type w (value ops f (meaning types a)) _ _ (tb f (λ r i. h r (in3b i))) (tc f (λ r i. h r (in3c i)))

  -- the same of the node that stands at a place
  abbrev HeadYields : ℕ → Head → Type 0
  HeadYields w (head.Refused why) = Unit {0}
  HeadYields w (head.Leaf n m) = Yields w (leaf n)
  HeadYields w (head.Operator k m) = OpKind k × (meant (rule_of k).result w ≡ w)

  node_yields : (s : List ℕ) (w k place m : ℕ) → ((rule_of k).form ≡ 0 → ⊥) → (node : Node) → node_of s k place ≡ node → fault_for types w node ≡ 0 → HeadYields w (head_of node m)
  unfolding head_of fault_for
  node_yields s w k place m f (Constant t x) e h = yields_constant w t x (same_type _ _ (neither (word_fault_of t x) (type_fault_of t w) h).1)
  node_yields s w k place m f (Now v) e h = yields_now w v (same_type _ _ (below_of v (length types) (type_fault_of (get_or types v 0) w) h).1)
  node_yields s w k place m f (At v o d) e h =
      let q = type_fault_of (get_or types v 0) w in
      let p = word_fault_of (get_or types v 0) d in
      yields_at w v d o (same_type _ _ (neither p q (neither (zero_fault_of o) (first p q) (below_of v (length types) (first (zero_fault_of o) (first p q)) h).1).1).1)
  node_yields s w k place m f (Operator k1) e h = (operator_node s k place k1 f e, same_type _ _ h)

  head_yields : (l : ℕ) (s : List ℕ) (w place : ℕ) → HeadYields w (head_at l types s w place)
  unfolding head_at head_by_of node_at node_by
  head_yields l s w place =
      pick_case (λ (r : NodeRead). HeadYields w (head_by_of l types w r)) (ltb place (length s)) _ _
      (λ _. pick_case (λ (r : NodeRead). HeadYields w (head_by_of l types w r)) (eqb (rule_of (get_or s place 0)).form 0) _ _ (λ _. tt)
      (λ p. pick_case (λ (r : NodeRead). HeadYields w (head_by_of l types w r)) (leb (place + 1 + (rule_of (get_or s place 0)).body) (length s)) _ _
      (λ _. pick_case (HeadYields w) (eqb (fault_at l types w (node_of s (get_or s place 0) (place + 1))) 0) _ _
      (λ q. node_yields s w (get_or s place 0) (place + 1) _ (eqb-false _ _ p) _ refl (faultless l types w _ (eqb-true _ _ q)).1) (λ _. tt))
      (λ _. tt)))
      (λ _. tt)

  operands_yield :
      (p : ℕ → ℕ → Parsed) → ((w place : ℕ) → Reads (Yields w) (p w place)) →
      (w k place : ℕ) → OpKind k → meant (rule_of k).result w ≡ w → Reads (Yields w) (operands p w k (rule_of k) place)
  unfolding operands
  operands_yield p h w k place o fit =
      reads_then (Yields (meant (rule_of k).first w)) (Yields w) (p (meant (rule_of k).first w) place) _ (h _ place) λ a n ha.
      reads_else (Yields w) (eqb (rule_of k).operands 1) _ _ (λ e. yields_unary w k a (own_type k o w fit (rw e)))
      (λ e1. reads_then (Yields (meant (rule_of k).rest w)) (Yields w) (p (meant (rule_of k).rest w) n) _ (h _ n) λ b m hb.
      reads_else (Yields w) (eqb (rule_of k).operands 2) _ _ (λ e2. yields_binary w k a b (own_type k o w fit (rw (e1, e2))))
      (λ e2. reads_then (Yields (meant (rule_of k).rest w)) (Yields w) (p (meant (rule_of k).rest w) m) _ (h _ m) λ c q hc.
      (let r : meant (rule_of k).rest w ≡ w = rest_type_lem k o w fit (rw (e1, e2)) in
      yields_ternary w k a b c (subst (λ (t : ℕ). Yields t b) r hb) (subst (λ (t : ℕ). Yields t c) r hc))))

  step_yields :
      (p : ℕ → ℕ → Parsed) → ((w place : ℕ) → Reads (Yields w) (p w place)) → (w place : ℕ) (x : Head) → HeadYields w x → Reads (Yields w) (step p w place x)
  unfolding step
  step_yields p h w place (head.Refused why) g = tt
  step_yields p h w place (head.Leaf n m) g = g
  step_yields p h w place (head.Operator k m) g = operands_yield p h w k m g.0 g.1

  parse_yields : (s : List ℕ) (l w place : ℕ) → Reads (Yields w) (parse l types s w place)
  unfolding parse
  parse_yields s zero w place = step_yields (λ v n. bad 6 n) (λ v n. tt) w place (head_at zero types s w place) (head_yields zero s w place)
  parse_yields s (suc l) w place = step_yields (λ v n. parse l types s v n) (λ v n. parse_yields s l v n) w place (head_at (suc l) types s w place) (head_yields (suc l) s w place)

  pub expression_yields : (s : List ℕ) (l w place : ℕ) {e : Expr} {m : ℕ} → parse l types s w place ≡ good e m → Yields w e
  expression_yields s l w place h = rw h at (parse_yields s l w place)

  -- a default is read at its stream's type
  default_here : (v1 : ℕ) (k1 : ℤ) (d1 v : ℕ) (k : ℤ) (d : Value) → Occurs (at v k d) (meaning types (leaf (At v1 k1 d1))) → OfType (get_or types v 0) d
  unfolding meaning
  default_here v1 k1 d1 v k d here = reading_of_type (get_or types v1 0) d1

  pub default_of_type : (v : ℕ) (k : ℤ) (d : Value) (e : Expr) → Occurs (at v k d) (meaning types e) → OfType (get_or types v 0) d
  unfolding meaning
  default_of_type v k d (leaf (Constant _ _)) h = elim h [ ]
  default_of_type v k d (leaf (Now _)) h = elim h [ ]
  default_of_type v k d (leaf (Operator _)) h = elim h [ ]
  default_of_type v k d (leaf (At v1 k1 d1)) h = default_here v1 k1 d1 v k d h
  default_of_type v k d (unary o a) (in1 i) = default_of_type v k d a i
  default_of_type v k d (binary o a b) (in2a i) = default_of_type v k d a i
  default_of_type v k d (binary o a b) (in2b i) = default_of_type v k d b i
  default_of_type v k d (ternary o a b c) (in3a i) = default_of_type v k d a i
  default_of_type v k d (ternary o a b c) (in3b i) = default_of_type v k d b i
  default_of_type v k d (ternary o a b c) (in3c i) = default_of_type v k d c i

-- two lists of types that give each stream the same type, as a list and an array that holds it, give the same meaning
pub meaning_same : (ts us : List ℕ) → ((v : ℕ) → get_or ts v 0 ≡ get_or us v 0) → (e : Expr) → meaning ts e ≡ meaning us e
unfolding meaning
meaning_same ts us h (leaf (Constant t x)) = refl
meaning_same ts us h (leaf (Now v)) = refl
meaning_same ts us h (leaf (At v k d)) = rw (h v)
meaning_same ts us h (leaf (Operator k)) = refl
meaning_same ts us h (unary k a) = rw (meaning_same ts us h a)
meaning_same ts us h (binary k a b) = rw (meaning_same ts us h a, meaning_same ts us h b)
meaning_same ts us h (ternary k a b c) = rw (meaning_same ts us h a, meaning_same ts us h b, meaning_same ts us h c)
