-- One expression node: its decoding, and its faults in their order where a type is wanted: "missing kind byte (2), 3, missing body (2), 6,
-- 4, 5" (document 01, "The table" and "Refusal numbers"). Assumes nothing.
use Rattle.std.specs.Prelude.{ℕ, zero, suc, ◌+◌, ◌-◌, Bool, true, false, cond, List, ltb, leb, eqb, length, get_or, ℤ, pos, negsuc}
use Rattle.limits.specs.Refusals.{missing, wrong_kind, wrong_field, wrong_type, too_deep}
use Rattle.wire.specs.Bytes.{word_at}
use Rattle.node.specs.declared.Node.{Node}
use Rattle.node.specs.declared.Node.TheVariants.{Constant, Now, At, Operator}
use Rattle.node.specs.Head.{Head}
use Rattle.node.specs.Head as head
use Rattle.node.specs.Kinds.{Rule, rule_of, meant}

-- "signed offset byte k"
unfoldable pub signed_of : ℕ → ℤ
signed_of b = cond (ltb b 128) (pos b) (negsuc (255 - b))

-- the node of the kind k whose body starts at a place: constant, now, at, operator
unfoldable pub node_of : List ℕ → ℕ → ℕ → Node
node_of s k at =
    cond (eqb k 0x10) (Constant 0 (get_or s at 0))
    (cond (eqb k 0x11) (Constant 1 (word_at s at))
    (cond (eqb k 0x12) (Constant 2 (word_at s at))
    (cond (eqb k 0x13) (Now (get_or s at 0))
    (cond (eqb k 0x14) (At (get_or s at 0) (signed_of (get_or s (at + 1) 0)) (word_at s (at + 2)))
    (Operator k)))))

-- a node without operands: "a constant, a reference to a stream"
unfoldable pub is_leaf_of : Node → Bool
is_leaf_of (Constant t x) = true
is_leaf_of (Now v) = true
is_leaf_of (At v k d) = true
is_leaf_of (Operator k) = false

-- the length of its body, by the rule of its kind; an operator has none
unfoldable pub leaf_body_of : Node → ℕ
leaf_body_of (Constant t x) = cond (eqb t 0) (rule_of 0x10).body (rule_of 0x11).body
leaf_body_of (Now v) = (rule_of 0x13).body
leaf_body_of (At v k d) = (rule_of 0x14).body
leaf_body_of (Operator k) = 0

-- the node at a place as far as the table goes: a byte past its end counts as 0, which is no node's kind
abbrev pub standing : List ℕ → ℕ → Node
standing s at = node_of s (get_or s at 0) (at + 1)

-- what is read at a place: a node and the place behind its body, or the number of a fault
pub data NodeRead : Type 0 where
  Fault : ℕ → NodeRead
  Got : Node → ℕ → NodeRead

-- the node of the kind k whose body of b bytes starts at a place, with the place behind it; `missing` where the body is not there
abbrev pub whole_at : List ℕ → (k start b : ℕ) → NodeRead
whole_at s k start b = cond (leb (start + b) (length s)) (Got (node_of s k start) (start + b)) (Fault missing)

-- a record whose kind has the rule r: the kind is allowed, then the body is there
unfoldable pub node_by : List ℕ → ℕ → ℕ → Rule → NodeRead
node_by s at k r = cond (eqb r.form 0) (Fault wrong_kind) (whole_at s k (at + 1) r.body)

-- the node at a place and the place behind its body, or the number of the fault
unfoldable pub node_at : List ℕ → ℕ → NodeRead
node_at s at = cond (ltb at (length s)) (node_by s at (get_or s at 0) (rule_of (get_or s at 0))) (Fault missing)

-- "node not of the wanted type"
unfoldable pub type_fault_of : ℕ → ℕ → ℕ
type_fault_of t w = cond (eqb t w) 0 wrong_type

-- "flag constant or flag default above 1"
unfoldable pub word_fault_of : ℕ → ℕ → ℕ
word_fault_of t x = cond (eqb t 0) (cond (ltb 1 x) wrong_field 0) 0

-- "k = 0"
unfoldable pub zero_fault_of : ℤ → ℕ
zero_fault_of (pos zero) = wrong_field
zero_fault_of (pos (suc n)) = 0
zero_fault_of (negsuc n) = 0

-- the first of two numbers that is not 0
unfoldable pub first : ℕ → ℕ → ℕ
first a b = cond (eqb a 0) b a

-- 0, or the number of the fault of a node over streams of the types ts where the type w is wanted, also "stream not below S"
unfoldable pub fault_for : List ℕ → ℕ → Node → ℕ
fault_for ts w (Constant t x) = first (word_fault_of t x) (type_fault_of t w)
fault_for ts w (Now v) = cond (ltb v (length ts)) (type_fault_of (get_or ts v 0) w) wrong_field
fault_for ts w (At v k d) =
    cond (ltb v (length ts)) (first (zero_fault_of k) (first (word_fault_of (get_or ts v 0) d) (type_fault_of (get_or ts v 0) w))) wrong_field
fault_for ts w (Operator k) = type_fault_of (meant (rule_of k).result w) w

-- the same with l levels left: "node at level 17" comes before the others
unfoldable pub fault_at : ℕ → List ℕ → ℕ → Node → ℕ
fault_at l ts w node = cond (eqb l 0) too_deep (fault_for ts w node)

-- a node without a fault
unfoldable pub head_of : Node → ℕ → Head
head_of (Constant t x) next = head.Leaf (Constant t x) next
head_of (Now v) next = head.Leaf (Now v) next
head_of (At v k d) next = head.Leaf (At v k d) next
head_of (Operator k) next = head.Operator k next

unfoldable pub head_by_of : ℕ → List ℕ → ℕ → NodeRead → Head
head_by_of l ts w (Fault why) = head.Refused why
head_by_of l ts w (Got node next) = cond (eqb (fault_at l ts w node) 0) (head_of node next) (head.Refused (fault_at l ts w node))

-- what stands at a place where a node of the type w is wanted, with l levels left
unfoldable pub head_at : ℕ → List ℕ → List ℕ → ℕ → ℕ → Head
head_at l ts s w at = head_by_of l ts w (node_at s at)

-- the fault of a kind that can be of the types `results`, none of which is wanted
unfoldable pub result_fault_of : ℕ → ℕ
result_fault_of results = cond (eqb results 0) wrong_kind wrong_type

-- the number of a fault, or of a node that is one level too deep
unfoldable pub deep_of : NodeRead → ℕ
deep_of (Fault why) = why
deep_of (Got node next) = too_deep

abbrev pub deep_fault_of : List ℕ → ℕ → ℕ
deep_fault_of s at = deep_of (node_at s at)
