-- What the parser reads is generated: the expression keeps to the rules, and its bytes stand where it was read.
-- Assumes nothing.
use Prim.Native.Nat.{ℕ, zero, suc, ◌+◌, ◌≤◌, ◌<◌, ◌^◌}
use native.Mathlib.Omega.{arith}
use mathlib.Core.Path.{◌≡◌, refl, sym, ◌∙◌, subst}
use mathlib.Core.Bool.{Bool, true, false, cond}
use mathlib.Core.List.{List, [], ◌∷◌, ◌++◌}
use lib.Dec.{eqb, ltb, leb}
use lib.IntN.{ℤ}
use lib.ListN.{length, get_or, length-append}
use borrow.Author.Tests.{eqb-true, eqb-false, ltb-true, ltb-false, leb-true}
use Rattle.limits.specs.Refusals.{missing, too_deep}
use Rattle.basis.proofs.Tests.{pick_case}
use Rattle.wire.specs.Bytes.{AllBytes, le4, word_at}
use Rattle.wire.proofs.Stand.{Stand, none, more, stand_at, put, join, word_small, word_stands}
use Rattle.node.specs.declared.Node.{Node}
use Rattle.node.specs.declared.Node.TheVariants.{Constant, Now, At, Operator}
use Rattle.node.specs.Head.{Head}
use Rattle.node.specs.Head as head
use Rattle.node.specs.Kinds.{rule_of, rows, look, meant}
use Rattle.node.specs.Node.{NodeRead, Fault, Got, signed_of, node_of, node_by, node_at, fault_for, fault_at, head_of, head_by_of, head_at}
use Rattle.node.proofs.Faults.{neither, same_type, flag_small, not_zero, below_of}
use Rattle.node.proofs.Heads.{faultless}
use Rattle.expression.specs.Syntax.{Expr, leaf, binary, ternary}
use Rattle.expression.specs.Grammar.{Parsed, good, bad, and_then, operands, step, parse}
use Rattle.expression.specs.References.{Ranged}
use Rattle.expression.specs.Generation.{OperatorKind, WellFormed, signed_byte_of, constant_bytes, node_bytes, expression_bytes}
use Rattle.expression.specs.Generation as g
use Rattle.expression.proofs.Heads.{signed_ranged}
use Rattle.expression.proofs.NodeKinds.{Kind, kind_of_lem, rule_is, operator_node, of_type, gives_type}
use Rattle.expression.proofs.NodeKinds as kind

-- the expression e of the type w stands at a place and ends before n
pub record GeneratedAt (l : ℕ) (ts s : List ℕ) (w place : ℕ) (e : Expr) (n : ℕ) : Type 0 where
  pub formed : WellFormed ts l w e
  pub stand : Stand s place (expression_bytes e)
  pub end : n ≡ place + length (expression_bytes e)

signed_byte : (b : ℕ) → b < 256 → signed_byte_of (signed_of b) ≡ b
unfolding signed_of signed_byte_of
signed_byte b h = pick_case (λ (z : ℤ). signed_byte_of z ≡ b) (ltb b 128) _ _ (λ p. refl) (λ p. omega (arith, ltb-false b 128 p))

-- ---- the node that is read

-- an operator whose result is of the type w
data Gives : ℕ → ℕ → Type 0 where
  its_own : {k n a w : ℕ} → OperatorKind k n a w → Gives k w
  wanted : {w : ℕ} → Gives 0x23 w

-- what a node that is read has by itself
data Own : Node → Type 0 where
  constant : {t x : ℕ} → t ≤ 2 → x < 2 ^ 32 → Own (Constant t x)
  refers_now : {v : ℕ} → Own (Now v)
  refers_at : {v d : ℕ} {k : ℤ} → Ranged k → d < 2 ^ 32 → Own (At v k d)
  operator : {k n a t : ℕ} → OperatorKind k n a t → Own (Operator k)
  choice : Own (Operator 0x23)

record Read (s : List ℕ) (place : ℕ) (n : Node) (m : ℕ) : Type 0 where
  pub own : Own n
  pub stand : Stand s place (node_bytes n)
  pub end : m ≡ place + length (node_bytes n)

abbrev NodeRight : List ℕ → ℕ → NodeRead → Type 0
NodeRight s place (Fault why) = Unit {0}
NodeRight s place (Got n m) = Read s place n m

module _ (s : List ℕ) (bytes : AllBytes s) (place : ℕ) (in_s : place < length s) where
  fits : {n : Node} {m : ℕ} → (m ≤ length s → Read s place n m) → NodeRight s place (cond (leb m (length s)) (Got n m) (Fault missing))
  fits {n} {m} f = pick_case (NodeRight s place) (leb m (length s)) (Got n m) (Fault missing) (λ p. f (leb-true _ _ p)) (λ p. tt)

  operator_read : {k m : ℕ} → get_or s place 0 ≡ k → m ≡ place + 1 → Own (Operator k) → Read s place (Operator k) m
  unfolding node_bytes
  operator_read e q o = record { own = o; stand = more in_s e none; end = q }

  plain : {k n a t : ℕ} → get_or s place 0 ≡ k → OperatorKind k n a t → NodeRight s place (node_by s place k (rule_of k))
  unfolding node_by
  plain e o = rw ((rule_is o).rule, operator_node (rule_is o) s (place + 1)) (fits (λ p. operator_read e (omega arith) (operator o)))

  flag_read : get_or s place 0 ≡ 0x10 → place + 1 + 1 ≤ length s → Read s place (Constant 0 (get_or s (place + 1) 0)) (place + 1 + 1)
  unfolding node_bytes constant_bytes
  flag_read e p = record { own = constant {t = 0} {x = get_or s (place + 1) 0} (omega arith) (omega (arith, bytes.each (place + 1))); stand = more in_s e (more {at = place + 1} (omega arith) refl none); end = omega arith }

  word_read : get_or s place 0 ≡ 0x11 → place + 1 + 4 ≤ length s → Read s place (Constant 1 (word_at s (place + 1))) (place + 1 + 4)
  unfolding node_bytes constant_bytes le4
  word_read e p = record { own = constant {t = 1} (omega arith) (word_small s bytes (place + 1)); stand = more in_s e (word_stands s bytes (place + 1) p); end = omega arith }

  level_read : get_or s place 0 ≡ 0x12 → place + 1 + 4 ≤ length s → Read s place (Constant 2 (word_at s (place + 1))) (place + 1 + 4)
  unfolding node_bytes constant_bytes le4
  level_read e p = record { own = constant {t = 2} (omega arith) (word_small s bytes (place + 1)); stand = more in_s e (word_stands s bytes (place + 1) p); end = omega arith }

  now_read : get_or s place 0 ≡ 0x13 → place + 1 + 1 ≤ length s → Read s place (Now (get_or s (place + 1) 0)) (place + 1 + 1)
  unfolding node_bytes
  now_read e p = record { own = refers_now; stand = more in_s e (more {at = place + 1} (omega arith) refl none); end = omega arith }

  at_read : get_or s place 0 ≡ 0x14 → place + 1 + 6 ≤ length s → Read s place (At (get_or s (place + 1) 0) (signed_of (get_or s (place + 1 + 1) 0)) (word_at s (place + 1 + 2))) (place + 1 + 6)
  unfolding node_bytes le4
  at_read e p =
      record {
        own = refers_at (signed_ranged _) (word_small s bytes (place + 1 + 2));
        stand = more in_s e (more {at = place + 1} (omega arith) refl (put s (place + 1 + 1) (place + 1 + 2) (omega arith) (omega arith) (sym (signed_byte _ (bytes.each _))) (word_stands s bytes (place + 1 + 2) (omega arith))));
        end = omega arith;
      }

  by_kind : (k : ℕ) → get_or s place 0 ≡ k → Kind k → NodeRight s place (node_by s place k (rule_of k))
  unfolding node_by rule_of rows look node_of
  by_kind k e kind.flag = fits (flag_read e)
  by_kind k e kind.word = fits (word_read e)
  by_kind k e kind.level = fits (level_read e)
  by_kind k e kind.now = fits (now_read e)
  by_kind k e kind.at = fits (at_read e)
  by_kind k e (kind.operates o) = plain e o
  by_kind k e kind.choice = fits (λ p. operator_read e (omega arith) choice)

  refused_kind : (k : ℕ) → eqb (rule_of k).form 0 ≡ true → NodeRight s place (node_by s place k (rule_of k))
  unfolding node_by
  refused_kind k p = rw p tt

  any_kind : NodeRight s place (node_by s place (get_or s place 0) (rule_of (get_or s place 0)))
  any_kind = go (eqb (rule_of (get_or s place 0)).form 0) refl
    where
      go : (b : Bool) → eqb (rule_of (get_or s place 0)).form 0 ≡ b → NodeRight s place (node_by s place (get_or s place 0) (rule_of (get_or s place 0)))
      go true p = refused_kind _ p
      go false p = by_kind _ refl (kind_of_lem _ (eqb-false _ _ p))

module _ (ts s : List ℕ) (bytes : AllBytes s) where
  node_right : (place : ℕ) → NodeRight s place (node_at s place)
  unfolding node_at
  node_right place = pick_case (NodeRight s place) (ltb place (length s)) _ _ (λ p. any_kind s bytes place (ltb-true _ _ p)) (λ p. tt)

  -- ---- the head at a place

  record HeadOperator (l w place k m : ℕ) : Type 0 where
    pub gives : Gives k w
    pub some : 1 ≤ l
    pub in_s : place < length s
    pub byte : get_or s place 0 ≡ k
    pub end : m ≡ place + 1

  abbrev HeadRight : ℕ → ℕ → ℕ → Head → Type 0
  HeadRight l w place (head.Refused why) = Unit {0}
  HeadRight l w place (head.Leaf n m) = GeneratedAt l ts s w place (leaf n) m
  HeadRight l w place (head.Operator k m) = HeadOperator l w place k m

  leaf_generated : {l w place m : ℕ} {n : Node} → Read s place n m → WellFormed ts l w (leaf n) → GeneratedAt l ts s w place (leaf n) m
  unfolding expression_bytes
  leaf_generated r f = record { formed = f; stand = r.stand; end = r.end }

  constant_formed : (l t x w : ℕ) → t ≤ 2 → x < 2 ^ 32 → (t ≡ 0 → x ≤ 1) → t ≡ w → WellFormed ts (suc l) w (leaf (Constant t x))
  constant_formed l zero x w b h f e = subst (λ (y : ℕ). WellFormed ts (suc l) y (leaf (Constant 0 x))) e (g.flag (omega (arith, f refl)))
  constant_formed l (suc zero) x w b h f e = subst (λ (y : ℕ). WellFormed ts (suc l) y (leaf (Constant 1 x))) e (g.word h)
  constant_formed l (suc (suc zero)) x w b h f e = subst (λ (y : ℕ). WellFormed ts (suc l) y (leaf (Constant 2 x))) e (g.level h)
  constant_formed l (suc (suc (suc t))) x w b h f e = absurd (omega arith)

  operator_right : {l w place k m : ℕ} → Gives k w → Read s place (Operator k) m → HeadOperator (suc l) w place k m
  unfolding node_bytes
  operator_right {l} {w} {place} {k} {m} o r = go r.stand
    where
      go : Stand s place (k ∷ []) → HeadOperator (suc l) w place k m
      go (more h e _) = record { gives = o; some = omega arith; in_s = h; byte = e; end = r.end }

  head_node : (l w place m : ℕ) (n : Node) → fault_for ts w n ≡ 0 → Own n → Read s place n m → HeadRight (suc l) w place (head_of n m)
  unfolding head_of fault_for
  head_node l w place m (Constant t x) q (constant b h) r =
      let z = neither _ _ q in leaf_generated r (constant_formed l t x w b h (flag_small t x z.0) (same_type t w z.1))
  head_node l w place m (Now v) q refers_now r =
      let z = below_of v (length ts) _ q in leaf_generated r (g.now z.0 (same_type _ _ z.1))
  head_node l w place m (At v k d) q (refers_at a h) r =
      let z = below_of v (length ts) _ q in
      let y = neither _ _ z.1 in
      let x = neither _ _ y.1 in
      let e = same_type _ _ x.1 in
      leaf_generated r (g.at z.0 e a (not_zero k y.0) h (λ i. flag_small _ d x.0 (e ∙ i)))
  head_node l w place m (Operator k) q (operator o) r = operator_right (subst (Gives k) (sym (gives_type (rule_is o) w) ∙ same_type _ w q) (its_own o)) r
  head_node l w place m (Operator k) q choice r = operator_right wanted r

  head_level : (l w place m : ℕ) (n : Node) → (1 ≤ l) × (fault_for ts w n ≡ 0) → Read s place n m → HeadRight l w place (head_of n m)
  head_level zero w place m n h r = absurd (omega (arith, h.0))
  head_level (suc l) w place m n h r = head_node l w place m n h.1 r.own r

  head_by : (l w place : ℕ) (x : NodeRead) → NodeRight s place x → HeadRight l w place (head_by_of l ts w x)
  unfolding head_by_of
  head_by l w place (Fault why) h = tt
  head_by l w place (Got n m) h =
      pick_case (HeadRight l w place) (eqb (fault_at l ts w n) 0) _ _ (λ p. head_level l w place m n (faultless l ts w n (eqb-true _ _ p)) h) (λ p. tt)

  head_right : (l w place : ℕ) → HeadRight l w place (head_at l ts s w place)
  unfolding head_at
  head_right l w place = head_by l w place (node_at s place) (node_right place)

  -- ---- the parser

  abbrev Right : ℕ → ℕ → ℕ → Parsed → Type 0
  Right l w place (good e n) = GeneratedAt l ts s w place e n
  Right l w place (bad why at) = Unit {0}

  module _ (l : ℕ) (p : ℕ → ℕ → Parsed) (h : (w place : ℕ) → Right l w place (p w place)) where
    -- an operand of the type v at a place, and what follows from it
    operand : (v next w place : ℕ) (f : Expr → ℕ → Parsed) → ((a : Expr) (n : ℕ) → GeneratedAt l ts s v next a n → Right (suc l) w place (f a n)) → Right (suc l) w place (and_then (p v next) f)
    operand v next w place f q = go (p v next) (h v next)
      where
        go : (x : Parsed) → Right l v next x → Right (suc l) w place (and_then x f)
        go (good a n) r = q a n r
        go (bad why at) r = tt

    module _ (w place k m : ℕ) (b : get_or s place 0 ≡ k) (in_s : place < length s) (end : m ≡ place + 1) where
      right_one : {a : ℕ} → OperatorKind k 1 a w → Right (suc l) w place (operands p w k (rule_of k) m)
      unfolding operands expression_bytes
      right_one {a} o =
          rw ((rule_is o).rule, of_type (rule_is o) w)
          (operand a m w place _ λ e n r. record { formed = g.one o r.formed; stand = put s place m end in_s b r.stand; end = omega (arith, r.end) })

      made_two : {a : ℕ} {e f : Expr} {n i : ℕ} → OperatorKind k 2 a w → GeneratedAt l ts s a m e n → GeneratedAt l ts s a n f i → GeneratedAt (suc l) ts s w place (binary k e f) i
      unfolding expression_bytes
      made_two {a} {e} {f} o r q =
          record {
            formed = g.two o r.formed q.formed;
            stand = put s place m end in_s b (join s m (expression_bytes e) (expression_bytes f) r.stand (stand_at s r.end q.stand));
            end = let z = length-append (expression_bytes e) (expression_bytes f) in omega (arith, r.end, q.end, z);
          }

      right_two : {a : ℕ} → OperatorKind k 2 a w → Right (suc l) w place (operands p w k (rule_of k) m)
      unfolding operands
      right_two {a} o = rw ((rule_is o).rule, of_type (rule_is o) w) (operand a m w place _ λ e n r. operand a n w place _ λ f i q. made_two o r q)

      right_own : {n a : ℕ} → OperatorKind k n a w → Right (suc l) w place (operands p w k (rule_of k) m)
      right_own {n = zero} o = absurd (omega (arith, (rule_is o).one_or_two))
      right_own {n = suc zero} o = right_one o
      right_own {n = suc (suc zero)} o = right_two o
      right_own {n = suc (suc (suc n))} o = absurd (omega (arith, (rule_is o).one_or_two))

    module _ (w place m : ℕ) (b : get_or s place 0 ≡ 0x23) (in_s : place < length s) (end : m ≡ place + 1) where
      made_three : {c e f : Expr} {n i j : ℕ} → GeneratedAt l ts s 0 m c n → GeneratedAt l ts s w n e i → GeneratedAt l ts s w i f j → GeneratedAt (suc l) ts s w place (ternary 0x23 c e f) j
      unfolding expression_bytes
      made_three {c} {e} {f} r q t =
          let z = length-append (expression_bytes c) (expression_bytes e) in
          let y = length-append (expression_bytes c ++ expression_bytes e) (expression_bytes f) in
          record {
            formed = g.choice r.formed q.formed t.formed;
            stand =
                put s place m end in_s b
                (join s m (expression_bytes c ++ expression_bytes e) (expression_bytes f)
                (join s m (expression_bytes c) (expression_bytes e) r.stand (stand_at s r.end q.stand))
                (stand_at s (omega (arith, r.end, q.end, z)) t.stand));
            end = omega (arith, r.end, q.end, t.end, z, y);
          }

      right_three : Right (suc l) w place (operands p w 0x23 (rule_of 0x23) m)
      unfolding operands rule_of rows look meant
      right_three = operand 0 m w place _ λ c n r. operand w n w place _ λ e i q. operand w i w place _ λ f j t. made_three r q t

    right_operator : (w place k m : ℕ) → Gives k w → HeadOperator (suc l) w place k m → Right (suc l) w place (operands p w k (rule_of k) m)
    right_operator w place k m (its_own o) h = right_own w place k m h.byte h.in_s h.end o
    right_operator w place k m wanted h = right_three w place m h.byte h.in_s h.end

    step_right : (w place : ℕ) (x : Head) → HeadRight (suc l) w place x → Right (suc l) w place (step p w place x)
    unfolding step
    step_right w place (head.Refused why) r = tt
    step_right w place (head.Leaf n m) r = r
    step_right w place (head.Operator k m) r = right_operator w place k m r.gives r

  step_none : (p : ℕ → ℕ → Parsed) (w place : ℕ) (x : Head) → HeadRight 0 w place x → Right 0 w place (step p w place x)
  unfolding step
  step_none p w place (head.Refused why) r = tt
  step_none p w place (head.Leaf n m) r = r
  step_none p w place (head.Operator k m) r = absurd (omega (arith, r.some))

  parse_right : (l w place : ℕ) → Right l w place (parse l ts s w place)
  unfolding parse
  parse_right zero w place = step_none (λ v n. bad too_deep n) w place (head_at zero ts s w place) (head_right zero w place)
  parse_right (suc l) w place = step_right l (λ v n. parse l ts s v n) (λ v n. parse_right l v n) w place (head_at (suc l) ts s w place) (head_right (suc l) w place)

  -- each expression that is parsed is generated
  pub generated : (l w place : ℕ) {e : Expr} {n : ℕ} → parse l ts s w place ≡ good e n → GeneratedAt l ts s w place e n
  generated l w place q = subst (Right l w place) q (parse_right l w place)
