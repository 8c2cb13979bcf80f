-- The grammar of expressions as document 01 gives it ("The table", "Numbers"): the bytes of an expression, and the rules that it keeps to.
-- `parse` reads exactly these. Assumes nothing.
use Rattle.std.specs.Prelude.{ℕ, zero, suc, ◌-◌, ◌≤◌, ◌<◌, ◌^◌, ◌≡◌, List, [], ◌∷◌, ◌++◌, ℤ, pos, negsuc, length, get_or}
use Rattle.wire.specs.Bytes.{le4}
use Rattle.node.specs.declared.Node.{Node}
use Rattle.node.specs.declared.Node.TheVariants.{Constant, Now, At, Operator}
use Rattle.expression.specs.Syntax.{Expr, leaf, unary, binary, ternary}
use Rattle.expression.specs.References.{Ranged}

-- "signed offset byte k"
unfoldable pub signed_byte_of : ℤ → ℕ
signed_byte_of (pos n) = n
signed_byte_of (negsuc n) = 255 - n

-- "10, 11, 12: constant: flag, word, level", in one byte, in four, in four
unfoldable pub constant_bytes : (type x : ℕ) → List ℕ
constant_bytes zero x = 0x10 ∷ x ∷ []
constant_bytes (suc zero) x = 0x11 ∷ le4 x
constant_bytes (suc (suc t)) x = 0x12 ∷ le4 x

-- "one byte of kind, then a body": "13: now: this stream", "14: at: stream, signed offset byte k, default (4)"
unfoldable pub node_bytes : Node → List ℕ
node_bytes (Constant t x) = constant_bytes t x
node_bytes (Now v) = 0x13 ∷ v ∷ []
node_bytes (At v k d) = 0x14 ∷ v ∷ signed_byte_of k ∷ le4 d
node_bytes (Operator k) = k ∷ []

-- "an operator whose operands follow it in order"
unfoldable pub expression_bytes : Expr → List ℕ
expression_bytes (leaf n) = node_bytes n
expression_bytes (unary k a) = k ∷ expression_bytes a
expression_bytes (binary k a b) = k ∷ expression_bytes a ++ expression_bytes b
expression_bytes (ternary k a b c) = k ∷ expression_bytes a ++ expression_bytes b ++ expression_bytes c

-- the operators but `if`: kind, number of operands, their type, the type of the result. "types are 0 flag, 1 word, 2 level"
pub data OperatorKind : (kind operands of gives : ℕ) → Type 0 where
  not : OperatorKind 0x20 1 0 0
  and : OperatorKind 0x21 2 0 0
  or : OperatorKind 0x22 2 0 0
  add_words : OperatorKind 0x24 2 1 1
  sub_words : OperatorKind 0x25 2 1 1
  ahead : OperatorKind 0x26 2 1 0
  less_words : OperatorKind 0x27 2 1 0
  equal_words : OperatorKind 0x28 2 1 0
  equal_flags : OperatorKind 0x29 2 0 0
  equal_levels : OperatorKind 0x2A 2 2 0
  add_levels : OperatorKind 0x2B 2 2 2
  sub_levels : OperatorKind 0x2C 2 2 2
  mul_levels : OperatorKind 0x2D 2 2 2
  div_levels : OperatorKind 0x2E 2 2 2
  less_levels : OperatorKind 0x2F 2 2 0

-- An expression of the type w over streams of the types ts that nests at most so many levels deep. No operator is a leaf, and none has
-- another number of operands than its kind.
pub data WellFormed (ts : List ℕ) : (levels w : ℕ) → Expr → Type 0 where
  -- a flag is 0 or 1, a word and a level are 32 bits
  flag : {l x : ℕ} → x ≤ 1 → WellFormed ts (suc l) 0 (leaf (Constant 0 x))
  word : {l x : ℕ} → x < 2 ^ 32 → WellFormed ts (suc l) 1 (leaf (Constant 1 x))
  level : {l x : ℕ} → x < 2 ^ 32 → WellFormed ts (suc l) 2 (leaf (Constant 2 x))
  -- a reference is to a stream below S, of its type
  now : {l w v : ℕ} → v < length ts → get_or ts v 0 ≡ w → WellFormed ts (suc l) w (leaf (Now v))
  -- "k from -128 to 127 and not 0"; a flag's default is a flag
  at : {l w v d : ℕ} {k : ℤ} → v < length ts → get_or ts v 0 ≡ w → Ranged k → (k ≡ pos 0 → ⊥) → d < 2 ^ 32 → (w ≡ 0 → d ≤ 1)
      → WellFormed ts (suc l) w (leaf (At v k d))
  one : {l w k a : ℕ} {e : Expr} → OperatorKind k 1 a w → WellFormed ts l a e → WellFormed ts (suc l) w (unary k e)
  two : {l w k a : ℕ} {e f : Expr} → OperatorKind k 2 a w → WellFormed ts l a e → WellFormed ts l a f → WellFormed ts (suc l) w (binary k e f)
  -- "23: if: flag, then, else (both of the wanted type)"
  choice : {l w : ℕ} {c e f : Expr} → WellFormed ts l 0 c → WellFormed ts l w e → WellFormed ts l w f → WellFormed ts (suc l) w (ternary 0x23 c e f)
