-- What is generated is parsed, and with it: the parser gives exactly what the grammar generates; the bytes of an expression are bytes.
-- Assumes nothing.
use Prim.Native.Nat.{ℕ, suc, ◌+◌, ◌-◌, ◌≤◌, ◌<◌, ◌^◌}
use native.Mathlib.Omega.{arith}
use mathlib.Core.Path.{◌≡◌, refl, sym, ◌∙◌, ap}
use mathlib.Core.Bool.{true}
use mathlib.Core.List.{List, [], ◌∷◌, ◌++◌}
use lib.IntN.{ℤ, pos, negsuc}
use lib.ListN.{length, get_or, length-append}
use borrow.Author.Tests.{ne_eqb, lt-ltb, le-ltb, le-leb}
use Rattle.limits.specs.Limits.{most_streams}
use Rattle.wire.specs.Bytes.{AllBytes, le4}
use Rattle.wire.proofs.Words.{no_bytes, byte_more, bytes_append, word_bytes}
use Rattle.wire.proofs.Stand.{Stand, none, more, stand_at, split, word_read}
use Rattle.node.specs.declared.Node.{Node}
use Rattle.node.specs.declared.Node.TheVariants.{Constant, Now, At, Operator}
use Rattle.node.specs.Head as head
use Rattle.node.specs.Kinds.{rule_of, rows, look, operator, meant}
use Rattle.node.specs.Node.{Got, signed_of, node_of, is_leaf_of, node_by, node_at, fault_for, fault_at, head_of, head_by_of, head_at}
use Rattle.node.proofs.Faults.{both_fine, word_fine, type_fine, offset_fine}
use Rattle.expression.specs.Syntax.{Expr, leaf, ternary}
use Rattle.expression.specs.Grammar.{Parsed, good, parse}
use Rattle.expression.specs.References.{Ranged}
use Rattle.expression.specs.Generation.{OperatorKind, WellFormed, signed_byte_of, constant_bytes, node_bytes, expression_bytes}
use Rattle.expression.specs.Generation as g
use Rattle.expression.proofs.NodeKinds.{rule_is, operator_node, of_type, gives_type}
use Rattle.expression.proofs.Operands.{parse_leaf, one_operand, two_operands, three_operands}
use Rattle.expression.proofs.Generates.{GeneratedAt, generated}

byte_signed : (k : ℤ) → Ranged k → signed_of (signed_byte_of k) ≡ k
unfolding signed_of signed_byte_of
byte_signed (pos n) r = rw (lt-ltb n 128 (omega (arith, r.ahead)))
byte_signed (negsuc n) r = let e : 255 - (255 - n) ≡ n = omega (arith, r.back) in rw (le-ltb (255 - n) 128 (omega (arith, r.back)), e)

module _ (ts s : List ℕ) where
  -- a kind whose body is there
  node_is : (place k : ℕ) {n : Node} {m : ℕ} → place < length s → get_or s place 0 ≡ k → node_by s place k (rule_of k) ≡ Got n m → node_at s place ≡ Got n m
  unfolding node_at
  node_is place k h e q = rw (lt-ltb place (length s) h, e, q)

  -- a node that is read and has no fault
  head_is : (l w place m : ℕ) (n : Node) → node_at s place ≡ Got n m → fault_for ts w n ≡ 0 → head_at (suc l) ts s w place ≡ head_of n m
  unfolding head_at head_by_of fault_at
  head_is l w place m n e f = rw (e, ne_eqb (suc l) 0 (λ z. omega arith), f)

  flag_node : (place x : ℕ) → Stand s place (0x10 ∷ x ∷ []) → node_at s place ≡ Got (Constant 0 x) (place + 2)
  unfolding node_by rule_of rows look node_of
  flag_node place x (more h e (more h1 e1 none)) = node_is place 0x10 h e (rw (le-leb (place + 1 + 1) (length s) (omega arith), e1) (ap (Got (Constant 0 x)) (omega arith)))

  word_node : (place x : ℕ) → x < 2 ^ 32 → Stand s place (0x11 ∷ le4 x) → node_at s place ≡ Got (Constant 1 x) (place + 5)
  unfolding node_by rule_of rows look node_of
  word_node place x b (more h e r) =
      let z = word_read s (place + 1) x b r in
      node_is place 0x11 h e (rw (le-leb (place + 1 + 4) (length s) z.1, z.0) (ap (Got (Constant 1 x)) (omega arith)))

  level_node : (place x : ℕ) → x < 2 ^ 32 → Stand s place (0x12 ∷ le4 x) → node_at s place ≡ Got (Constant 2 x) (place + 5)
  unfolding node_by rule_of rows look node_of
  level_node place x b (more h e r) =
      let z = word_read s (place + 1) x b r in
      node_is place 0x12 h e (rw (le-leb (place + 1 + 4) (length s) z.1, z.0) (ap (Got (Constant 2 x)) (omega arith)))

  now_node : (place v : ℕ) → Stand s place (0x13 ∷ v ∷ []) → node_at s place ≡ Got (Now v) (place + 2)
  unfolding node_by rule_of rows look node_of
  now_node place v (more h e (more h1 e1 none)) = node_is place 0x13 h e (rw (le-leb (place + 1 + 1) (length s) (omega arith), e1) (ap (Got (Now v)) (omega arith)))

  at_node : (place v d : ℕ) (k : ℤ) → Ranged k → d < 2 ^ 32 → Stand s place (0x14 ∷ v ∷ signed_byte_of k ∷ le4 d) → node_at s place ≡ Got (At v k d) (place + 7)
  unfolding node_by rule_of rows look node_of
  at_node place v d k g b (more h e (more h1 e1 (more h2 e2 r))) =
      let z = word_read s (place + 1 + 2) d b (stand_at s (omega arith) r) in
      node_is place 0x14 h e (rw (le-leb (place + 1 + 6) (length s) (omega (arith, z.1)), e1, e2, byte_signed k g, z.0) (ap (Got (At v k d)) (omega arith)))

  operator_head : (l w place : ℕ) {k n a : ℕ} → OperatorKind k n a w → place < length s → get_or s place 0 ≡ k → head_at (suc l) ts s w place ≡ head.Operator k (place + 1)
  unfolding node_by head_of fault_for
  operator_head l w place {k} o h e =
      let f = rule_is o in
      head_is l w place (place + 1) (Operator k)
      (node_is place k h e (rw (f.rule, operator_node f s (place + 1), le-leb (place + 1 + 0) (length s) (omega arith)) (ap (Got (Operator k)) (omega arith))))
      (type_fine _ w (gives_type f w))

  choice_head : (l w place : ℕ) → place < length s → get_or s place 0 ≡ 0x23 → head_at (suc l) ts s w place ≡ head.Operator 0x23 (place + 1)
  unfolding node_by head_of fault_for rule_of rows look node_of meant
  choice_head l w place h e =
      head_is l w place (place + 1) (Operator 0x23) (node_is place 0x23 h e (rw (le-leb (place + 1 + 0) (length s) (omega arith)) (ap (Got (Operator 0x23)) (omega arith)))) (type_fine w w refl)

  leaf_done : (i w place c m : ℕ) (n : Node) → head_of n c ≡ head.Leaf n c → node_at s place ≡ Got n c → fault_for ts w n ≡ 0 → m ≡ c → parse (suc i) ts s w place ≡ good (leaf n) m
  leaf_done i w place c m n q e f z = parse_leaf (suc i) ts s w place (head_is i w place c n e f ∙ q) ∙ ap (good (leaf n)) (sym z)

  -- an operand is parsed with one level less
  one_less : (i a place : ℕ) {x : Parsed} → parse i ts s a place ≡ x → parse (suc i - 1) ts s a place ≡ x
  one_less i a place e = let q : suc i - 1 ≡ i = omega arith in ap (λ (j : ℕ). parse j ts s a place) q ∙ e

  choice_operands : (i w place : ℕ) {a b c : Expr} {n j m : ℕ} → head_at (suc i) ts s w place ≡ head.Operator 0x23 (place + 1)
      → parse i ts s 0 (place + 1) ≡ good a n → parse i ts s w n ≡ good b j → parse i ts s w j ≡ good c m → parse (suc i) ts s w place ≡ good (ternary 0x23 a b c) m
  unfolding rule_of rows look meant
  choice_operands i w place h p1 p2 p3 =
      three_operands (suc i) ts s w place {r = rule_of 0x23} {f = 0} {q = w} h refl refl refl (one_less i 0 _ p1) (λ z. omega arith) (one_less i w _ p2) (λ z. omega arith) (one_less i w _ p3)

  -- each expression that is generated is parsed, and its end is behind its bytes
  parsed_at : (l w place m : ℕ) (e : Expr) → WellFormed ts l w e → Stand s place (expression_bytes e) → m ≡ place + length (expression_bytes e) → parse l ts s w place ≡ good e m
  unfolding expression_bytes node_bytes constant_bytes le4 head_of fault_for
  parsed_at l w place m e (g.flag {l = i} {x} h) r q =
      leaf_done i 0 place (place + 2) m (Constant 0 x) refl (flag_node place x r) (both_fine _ _ (word_fine 0 x (λ _. h)) (type_fine 0 0 refl)) q
  parsed_at l w place m e (g.word {l = i} {x} h) r q =
      leaf_done i 1 place (place + 5) m (Constant 1 x) refl (word_node place x h r) (both_fine _ _ (word_fine 1 x (λ z. absurd (omega arith))) (type_fine 1 1 refl)) q
  parsed_at l w place m e (g.level {l = i} {x} h) r q =
      leaf_done i 2 place (place + 5) m (Constant 2 x) refl (level_node place x h r) (both_fine _ _ (word_fine 2 x (λ z. absurd (omega arith))) (type_fine 2 2 refl)) q
  parsed_at l w place m e (g.now {l = i} {v = v} b t) r q =
      leaf_done i w place (place + 2) m (Now v) refl (now_node place v r) (rw (lt-ltb v (length ts) b) (type_fine _ w t)) q
  parsed_at l w place m e (g.at {l = i} {v = v} {d} {k} b t ra nz h f) r q =
      leaf_done i w place (place + 7) m (At v k d) refl (at_node place v d k ra h r)
      (rw (lt-ltb v (length ts) b) (both_fine _ _ (offset_fine k nz) (both_fine _ _ (word_fine _ d (λ z. f (sym t ∙ z))) (type_fine _ w t)))) q
  parsed_at l w place m e (g.one {l = i} {k = k} {a = a} {e = x} o c) (more h b r) q =
      let f = rule_is o in
      one_operand (suc i) ts s w place {r = operator 1 a w} {f = a} {q = a} (operator_head i w place o h b) (sym f.rule) (sym (of_type f w)) (sym (of_type f w))
      (one_less i a (place + 1) (parsed_at i a (place + 1) m x c r (omega arith))) refl
  parsed_at l w place m e (g.two {l = i} {k = k} {a = a} {e = x} {f = y} o c d) (more h b r) q =
      let f = rule_is o in
      let z = split s (place + 1) (expression_bytes x) (expression_bytes y) r in
      let u = length-append (expression_bytes x) (expression_bytes y) in
      two_operands (suc i) ts s w place {r = operator 2 a w} {f = a} {q = a} (operator_head i w place o h b) (sym f.rule) (sym (of_type f w)) (sym (of_type f w))
      (one_less i a (place + 1) (parsed_at i a (place + 1) (place + 1 + length (expression_bytes x)) x c z.0 refl)) (λ z. omega arith)
      (one_less i a (place + 1 + length (expression_bytes x)) (parsed_at i a (place + 1 + length (expression_bytes x)) m y d z.1 (omega (arith, u)))) refl
  parsed_at l w place m e (g.choice {l = i} {c = t} {e = x} {f = y} c d f) (more h b r) q =
      let z = split s (place + 1) (expression_bytes t ++ expression_bytes x) (expression_bytes y) r in
      let v = split s (place + 1) (expression_bytes t) (expression_bytes x) z.0 in
      let o = length-append (expression_bytes t) (expression_bytes x) in
      let u = length-append (expression_bytes t ++ expression_bytes x) (expression_bytes y) in
      choice_operands i w place (choice_head i w place h b)
      (parsed_at i 0 (place + 1) (place + 1 + length (expression_bytes t)) t c v.0 refl)
      (parsed_at i w (place + 1 + length (expression_bytes t)) (place + 1 + length (expression_bytes t) + length (expression_bytes x)) x d v.1 refl)
      (parsed_at i w (place + 1 + length (expression_bytes t) + length (expression_bytes x)) m y f (stand_at s (omega (arith, o)) z.1) (omega (arith, o, u)))

  pub parsed : (l w place : ℕ) {e : Expr} {n : ℕ} → GeneratedAt l ts s w place e n → parse l ts s w place ≡ good e n
  parsed l w place {e} {n} x = parsed_at l w place n e x.formed x.stand x.end

  -- the parser gives e and its end exactly where the grammar generates e there; that what it gives is generated needs that s are bytes
  pub parses_exactly : (l w place : ℕ) (e : Expr) (n : ℕ) → (AllBytes s → parse l ts s w place ≡ good e n → GeneratedAt l ts s w place e n) × (GeneratedAt l ts s w place e n → parse l ts s w place ≡ good e n)
  parses_exactly l w place e n = (λ bytes q. generated ts s bytes l w place q, λ x. parsed l w place x)

-- no operator is a leaf
pub leaf_no_operator : {ts : List ℕ} {l w : ℕ} {n : Node} → WellFormed ts l w (leaf n) → is_leaf_of n ≡ true
unfolding is_leaf_of
leaf_no_operator (g.flag h) = refl
leaf_no_operator (g.word h) = refl
leaf_no_operator (g.level h) = refl
leaf_no_operator (g.now b t) = refl
leaf_no_operator (g.at b t r z h f) = refl

-- ---- the bytes of an expression are bytes

signed_small : (k : ℤ) → Ranged k → signed_byte_of k < 256
unfolding signed_byte_of
signed_small (pos n) r = omega (arith, r.ahead)
signed_small (negsuc n) r = omega arith

module _ (ts : List ℕ) (few : length ts ≤ most_streams) where
  pub expression_small : {l w : ℕ} {e : Expr} → WellFormed ts l w e → AllBytes (expression_bytes e)
  unfolding expression_bytes node_bytes constant_bytes
  expression_small (g.flag h) = byte_more (omega arith) (byte_more (omega arith) no_bytes)
  expression_small (g.word {x = x} h) = byte_more (omega arith) (word_bytes x)
  expression_small (g.level {x = x} h) = byte_more (omega arith) (word_bytes x)
  expression_small (g.now b t) = byte_more (omega arith) (byte_more (omega arith) no_bytes)
  expression_small (g.at {d = d} {k = k} b t ra nz h f) = byte_more (omega arith) (byte_more (omega arith) (byte_more (signed_small k ra) (word_bytes d)))
  expression_small (g.one o c) = byte_more (omega (arith, (rule_is o).kinds)) (expression_small c)
  expression_small (g.two o c d) = byte_more (omega (arith, (rule_is o).kinds)) (bytes_append (expression_small c) (expression_small d))
  expression_small (g.choice c d f) = byte_more (omega arith) (bytes_append (bytes_append (expression_small c) (expression_small d)) (expression_small f))
