-- What holds of the head at a place: a fault's number is a node's; a node ends in the table and behind its start, and refers to a stream
-- of the table by an offset in range. Assumes nothing.
use mathlib.Core.Path.{◌≡◌, refl}
use mathlib.Core.List.{List}
use mathlib.Core.Logic.{◌⊎◌, inl, inr}
use Prim.Native.Nat.{ℕ, zero, suc, ◌+◌, ◌≤◌, ◌<◌}
use native.Mathlib.Omega.{arith}
use borrow.Author.Tests.{eqb-true, eqb-false, leb-true, ltb-true, ltb-false}
use lib.Dec.{eqb, leb, ltb}
use lib.IntN.{ℤ, pos, negsuc}
use lib.ListN.{length, get_or}
use Rattle.limits.specs.Refusals.{missing, wrong_field, wrong_type, too_deep}
use Rattle.basis.proofs.Tests.{pick_case}
use Rattle.node.specs.declared.Node.{Node}
use Rattle.node.specs.declared.Node.TheVariants.{Constant, Now, At, Operator}
use Rattle.node.specs.Node.{NodeRead, Fault, Got, signed_of, node_of, node_by, node_at, type_fault_of, word_fault_of, zero_fault_of, first, fault_for, fault_at, head_of, head_by_of, head_at}
use Rattle.node.specs.Head.{Head}
use Rattle.node.specs.Head as head
use Rattle.node.specs.Kinds.{rule_of}
use Rattle.node.proofs.Faults.{neither, not_zero, below_of}
use Rattle.node.proofs.Heads.{faultless}
use Rattle.expression.specs.References.{NodeRefers, Ranged}

-- ---- the faults of a node

-- no fault, "a field out of its rule" or "node not of the wanted type"
abbrev pub FieldOrType : ℕ → Type 0
FieldOrType n = (n ≡ 0) ⊎ ((wrong_field ≤ n) × (n ≤ wrong_type))

type_fault : (t w : ℕ) → FieldOrType (type_fault_of t w)
unfolding type_fault_of
type_fault t w = pick_case FieldOrType (eqb t w) 0 wrong_type (λ _. inl refl) (λ _. inr (omega arith))

word_fault : (t x : ℕ) → FieldOrType (word_fault_of t x)
unfolding word_fault_of
word_fault t x =
    pick_case FieldOrType (eqb t 0) _ 0 (λ _. pick_case FieldOrType (ltb 1 x) wrong_field 0 (λ _. inr (omega arith)) (λ _. inl refl)) (λ _. inl refl)

zero_fault : (k : ℤ) → FieldOrType (zero_fault_of k)
unfolding zero_fault_of
zero_fault (pos zero) = inr (omega arith)
zero_fault (pos (suc n)) = inl refl
zero_fault (negsuc n) = inl refl

first_fault : (a b : ℕ) → FieldOrType a → FieldOrType b → FieldOrType (first a b)
unfolding first
first_fault a b f g = pick_case FieldOrType (eqb a 0) b a (λ _. g) (λ _. f)

pub fault_number : (ts : List ℕ) (w : ℕ) (n : Node) → FieldOrType (fault_for ts w n)
unfolding fault_for
fault_number ts w (Constant t x) = first_fault _ _ (word_fault t x) (type_fault t w)
fault_number ts w (Now v) = pick_case FieldOrType (ltb v (length ts)) _ wrong_field (λ _. type_fault _ w) (λ _. inr (omega arith))
fault_number ts w (At v k d) =
    pick_case FieldOrType (ltb v (length ts)) _ wrong_field (λ _. first_fault _ _ (zero_fault k) (first_fault _ _ (word_fault _ d) (type_fault _ w))) (λ _. inr (omega arith))
fault_number ts w (Operator k) = type_fault _ w

-- ---- the offset of a node that is read

abbrev OffsetRanged : Node → Type 0
OffsetRanged (Constant t x) = Unit {0}
OffsetRanged (Now v) = Unit {0}
OffsetRanged (At v k d) = Ranged k
OffsetRanged (Operator k) = Unit {0}

pub signed_ranged : (b : ℕ) → Ranged (signed_of b)
unfolding signed_of
signed_ranged b = pick_case Ranged (ltb b 128) _ _ (λ p. record { ahead = omega (arith, ltb-true b 128 p); back = omega arith }) (λ p. record { ahead = omega arith; back = omega (arith, ltb-false b 128 p) })

node_ranged : (s : List ℕ) (k at : ℕ) → OffsetRanged (node_of s k at)
unfolding node_of
node_ranged s k at =
    pick_case OffsetRanged (eqb k 0x10) _ _ (λ _. tt) λ _.
    pick_case OffsetRanged (eqb k 0x11) _ _ (λ _. tt) λ _.
    pick_case OffsetRanged (eqb k 0x12) _ _ (λ _. tt) λ _.
    pick_case OffsetRanged (eqb k 0x13) _ _ (λ _. tt) λ _.
    pick_case OffsetRanged (eqb k 0x14) _ _ (λ _. signed_ranged _) (λ _. tt)

-- a reference without a fault is to a stream of the table
pub fault_free_refers : (ts : List ℕ) (w : ℕ) (n : Node) → fault_for ts w n ≡ 0 → OffsetRanged n → NodeRefers (length ts) n
unfolding fault_for
fault_free_refers ts w (Constant t x) q r = tt
fault_free_refers ts w (Now v) q r = (below_of v (length ts) _ q).0
fault_free_refers ts w (At v k d) q r = let b = below_of v (length ts) _ q in (b.0, r, not_zero k (neither _ _ b.1).0)
fault_free_refers ts w (Operator k) q r = tt

-- ---- the head at a place

-- the numbers that refuse a node, from "kind byte or body missing" to "node at level 17"
abbrev pub NodeFault : ℕ → Type 0
NodeFault n = (missing ≤ n) × (n ≤ too_deep)

abbrev NodeSound : List ℕ → ℕ → NodeRead → Type 0
NodeSound s at (Fault why) = NodeFault why
NodeSound s at (Got n m) = OffsetRanged n × (at < m) × (m ≤ length s)

node_sound : (s : List ℕ) (at : ℕ) → NodeSound s at (node_at s at)
unfolding node_at node_by
node_sound s at =
    pick_case (NodeSound s at) (ltb at (length s)) _ _
    (λ _. pick_case (NodeSound s at) (eqb (rule_of (get_or s at 0)).form 0) _ _ (λ _. omega arith)
    (λ _. pick_case (NodeSound s at) (leb (at + 1 + (rule_of (get_or s at 0)).body) (length s)) _ _ (λ p. (node_ranged s _ _, omega arith, leb-true _ _ p)) (λ _. omega arith)))
    (λ _. omega arith)

-- a node that a head may hand on
pub record Fine (ts s : List ℕ) (at : ℕ) (n : Node) (m : ℕ) : Type 0 where
  pub refers : NodeRefers (length ts) n
  pub behind : at < m
  pub within : m ≤ length s

abbrev pub HeadSound : List ℕ → List ℕ → ℕ → Head → Type 0
HeadSound ts s at (head.Refused why) = NodeFault why
HeadSound ts s at (head.Leaf n m) = Fine ts s at n m
HeadSound ts s at (head.Operator k m) = Fine ts s at (Operator k) m

head_of_lem : (ts s : List ℕ) (at : ℕ) (n : Node) (m : ℕ) → Fine ts s at n m → HeadSound ts s at (head_of n m)
unfolding head_of
head_of_lem ts s at (Constant t x) m f = f
head_of_lem ts s at (Now v) m f = f
head_of_lem ts s at (At v k d) m f = f
head_of_lem ts s at (Operator k) m f = f

own_number : {x : ℕ} → (x ≡ 0 → ⊥) → FieldOrType x → NodeFault x
own_number f (inl e) = absurd (f e)
own_number f (inr g) = omega arith

any_number : (l : ℕ) (ts : List ℕ) (w : ℕ) (n : Node) → (fault_at l ts w n ≡ 0 → ⊥) → NodeFault (fault_at l ts w n)
unfolding fault_at
any_number l ts w n =
    pick_case (λ (x : ℕ). (x ≡ 0 → ⊥) → NodeFault x) (eqb l 0) too_deep (fault_for ts w n) (λ p f. omega arith) (λ p f. own_number f (fault_number ts w n))

head_by : (l : ℕ) (ts s : List ℕ) (w at : ℕ) (r : NodeRead) → NodeSound s at r → HeadSound ts s at (head_by_of l ts w r)
unfolding head_by_of
head_by l ts s w at (Fault why) h = h
head_by l ts s w at (Got n m) h =
    pick_case (HeadSound ts s at) (eqb (fault_at l ts w n) 0) _ _ (λ p. fine (faultless l ts w n (eqb-true _ _ p)).1) (λ p. any_number l ts w n (eqb-false _ _ p))
  where
    fine : fault_for ts w n ≡ 0 → HeadSound ts s at (head_of n m)
    fine q = head_of_lem ts s at n m (record { refers = fault_free_refers ts w n q h.0; behind = h.1; within = h.2 })

pub head_sound : (l : ℕ) (ts s : List ℕ) (w at : ℕ) → HeadSound ts s at (head_at l ts s w at)
unfolding head_at
head_sound l ts s w at = head_by l ts s w at (node_at s at) (node_sound s at)
