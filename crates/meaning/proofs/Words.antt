-- Each value of a model is one of the program's, a word below 2^32 or a level of binary32, where the table is of bytes and the rows are of
-- 32-bit words (document 01, "Values").
-- Assumes nothing.
use Prim.Native.Nat.{ℕ, zero, suc, ◌+◌, ◌≤◌, ◌<◌, ◌^◌}
use mathlib.Core.Path.{◌≡◌}
use mathlib.Core.Bool.{Bool, true, false, not}
use mathlib.Core.List.{List, []}
use lib.ListN.{length, get_or}
use lib.Dec.{leb, ltb, eqb}
use lib.IntN.{ℤ}
use lib.Ieee as Ieee
use lib.Ieee.{binary32}
use lib.Ieee.Bits.{of_bits-fits}
use native.Mathlib.Omega.{arith}
use Rattle.basis.specs.Edges.{Among}
use Rattle.basis.proofs.Tests.{pick_case}
use Rattle.wire.specs.Bytes.{AllBytes, AllWords}
use Rattle.wire.proofs.Words.{word_below}
use Rattle.limits.specs.Limits.{most_levels}
use Rattle.walks.specs.Walks.{Right}
use Rattle.value.specs.declared.Value.{Value}
use Rattle.value.specs.declared.Value.TheVariants.{Flag, Word, Level}
use Rattle.value.specs.Values.{Good, reading_of, flag_for, op_of, pick}
use Rattle.value.proofs.Operators.{op_good}
use Rattle.node.specs.Kinds.{rule_of, meant}
use Rattle.node.specs.Node.{node_of, node_by, node_at, fault_at, head_of, head_by_of, head_at, NodeRead}
use Rattle.node.specs.declared.Node.{Node}
use Rattle.node.specs.declared.Node.TheVariants.{Constant, Now, At, Operator}
use Rattle.node.specs.Head.{Head}
use Rattle.node.specs.Head as head
use Rattle.expression.specs.Syntax.{Expr, leaf, unary, binary, ternary}
use Rattle.expression.specs.Grammar.{Parsed, good, bad, operands, step, parse}
use Rattle.table.specs.Table.{Table, decode, decoded, streams, equation_of, edges}
use Rattle.table.proofs.Sound.{sound}
use Rattle.lola.specs.Expressions.{Ref, at}
use Rattle.lola.specs.Models.{value, trace}
use Rattle.lola.specs.Graph.{Occurs, here, in1, in2a, in2b, in3a, in3b, in3c}
use Rattle.run.proofs.Types.{model_fits}
use Rattle.meaning.specs.Expressions.{ops, meaning}
use Rattle.meaning.specs.Tables.{spec_of, read_in, TableModel}
use Rattle.meaning.proofs.Typing.{Reads, reads_then, reads_else}
use Rattle.meaning.proofs.Accepted.{table_order, table_schedule}

reading_good : (t w : ℕ) → w < 2 ^ 32 → Good (reading_of t w)
reading_good t w h = go (eqb t 0) (eqb t 1)
  where
    go : (b d : Bool) → Good (pick b (Flag (not (eqb w 0))) (pick d (Word w) (Level (Ieee.of_bits binary32 w))))
    go true d = tt
    go false true = h
    go false false = of_bits-fits binary32 w

-- an expression whose constants and defaults are words
unfoldable Worded : Expr → Type 0
Worded (leaf (Constant t x)) = x < 2 ^ 32
Worded (leaf (Now v)) = Unit {0}
Worded (leaf (At v k d)) = d < 2 ^ 32
Worded (leaf (Operator k)) = Unit {0}
Worded (unary k a) = Worded a
Worded (binary k a b) = Worded a × Worded b
Worded (ternary k a b c) = Worded a × Worded b × Worded c

-- the same of the node that stands at a place
abbrev HeadWorded : Head → Type 0
HeadWorded (head.Refused why) = Unit {0}
HeadWorded (head.Leaf n m) = Worded (leaf n)
HeadWorded (head.Operator k m) = Unit {0}

head_of_node : (n : Node) (m : ℕ) → Worded (leaf n) → HeadWorded (head_of n m)
unfolding head_of
head_of_node (Constant t x) m h = h
head_of_node (Now v) m h = h
head_of_node (At v k d) m h = h
head_of_node (Operator k) m h = tt

module _ (types s : List ℕ) (bytes : AllBytes s) where
  node_worded : (k place : ℕ) → Worded (leaf (node_of s k place))
  unfolding node_of Worded
  node_worded k place =
      pick_case (λ (n : Node). Worded (leaf n)) (eqb k 0x10) _ _ (λ _. omega (arith, bytes.each place)) λ _.
      pick_case (λ (n : Node). Worded (leaf n)) (eqb k 0x11) _ _ (λ _. word_below s bytes place) λ _.
      pick_case (λ (n : Node). Worded (leaf n)) (eqb k 0x12) _ _ (λ _. word_below s bytes place) λ _.
      pick_case (λ (n : Node). Worded (leaf n)) (eqb k 0x13) _ _ (λ _. tt) λ _.
      pick_case (λ (n : Node). Worded (leaf n)) (eqb k 0x14) _ _ (λ _. word_below s bytes (place + 2)) (λ _. tt)

  head_worded : (l w place : ℕ) → HeadWorded (head_at l types s w place)
  unfolding head_at head_by_of node_at node_by
  head_worded l w place =
      pick_case (λ (r : NodeRead). HeadWorded (head_by_of l types w r)) (ltb place (length s)) _ _
      (λ _. pick_case (λ (r : NodeRead). HeadWorded (head_by_of l types w r)) (eqb (rule_of (get_or s place 0)).form 0) _ _ (λ _. tt)
      (λ _. pick_case (λ (r : NodeRead). HeadWorded (head_by_of l types w r)) (leb (place + 1 + (rule_of (get_or s place 0)).body) (length s)) _ _
      (λ _. pick_case HeadWorded (eqb (fault_at l types w (node_of s (get_or s place 0) (place + 1))) 0) _ _
      (λ _. head_of_node (node_of s (get_or s place 0) (place + 1)) _ (node_worded (get_or s place 0) (place + 1))) (λ _. tt))
      (λ _. tt)))
      (λ _. tt)

  step_worded : (p : ℕ → ℕ → Parsed) → ((w place : ℕ) → Reads Worded (p w place)) → (w place : ℕ) (x : Head) → HeadWorded x → Reads Worded (step p w place x)
  unfolding step operands Worded
  step_worded p h w place (head.Refused why) g = tt
  step_worded p h w place (head.Leaf n m) g = g
  step_worded p h w place (head.Operator k m) g =
      reads_then Worded Worded (p (meant (rule_of k).first w) m) _ (h _ m) λ a n ha.
      reads_else Worded (eqb (rule_of k).operands 1) _ _ (λ _. ha)
      (λ _. reads_then Worded Worded (p (meant (rule_of k).rest w) n) _ (h _ n) λ b q hb.
      reads_else Worded (eqb (rule_of k).operands 2) _ _ (λ _. (ha, hb))
      (λ _. reads_then Worded Worded (p (meant (rule_of k).rest w) q) _ (h _ q) λ c e hc. (ha, hb, hc)))

  parse_worded : (l w place : ℕ) → Reads Worded (parse l types s w place)
  unfolding parse
  parse_worded zero w place = step_worded (λ v n. bad 6 n) (λ v n. tt) w place (head_at zero types s w place) (head_worded zero w place)
  parse_worded (suc l) w place = step_worded (λ v n. parse l types s v n) (λ v n. parse_worded l v n) w place (head_at (suc l) types s w place) (head_worded (suc l) w place)

  expression_worded : (l w place : ℕ) {e : Expr} {m : ℕ} → parse l types s w place ≡ good e m → Worded e
  expression_worded l w place h = rw h at (parse_worded l w place)

-- such an expression's value is good where its references' are, and so are its defaults
module _ (types : List ℕ) where
  value_good : (f : Ref Value → Value) (e : Expr) → Worded e → ((r : Ref Value) → Occurs r (meaning types e) → Good (f r)) → Good (value ops f (meaning types e))
  unfolding meaning value Worded
  value_good f (leaf (Constant t x)) h g = reading_good t x h
  value_good f (leaf (Now v)) h g = g _ here
  value_good f (leaf (At v k d)) h g = g _ here
  value_good f (leaf (Operator k)) h g = tt
  value_good f (unary k a) h g = op_good (op_of k) _ _ _ _ _ _
  value_good f (binary k a b) h g = op_good (op_of k) _ _ _ _ _ _
  value_good f (ternary k a b c) h g = chosen (flag_for (value ops f (meaning types a))) _ _ (value_good f b h.1 (λ r i. g r (in3b i))) (value_good f c h.2 (λ r i. g r (in3c i)))
    where
      chosen : (t : Bool) (x y : Value) → Good x → Good y → Good (pick t x y)
      chosen true x y p q = p
      chosen false x y p q = q

  default_here : (v1 : ℕ) (k1 : ℤ) (d1 : ℕ) → d1 < 2 ^ 32 → (v : ℕ) (k : ℤ) (d : Value) → Occurs (at v k d) (meaning types (leaf (At v1 k1 d1))) → Good d
  unfolding meaning
  default_here v1 k1 d1 h v k d here = reading_good (get_or types v1 0) d1 h

  default_good : (v : ℕ) (k : ℤ) (d : Value) (e : Expr) → Worded e → Occurs (at v k d) (meaning types e) → Good d
  unfolding meaning Worded
  default_good v k d (leaf (Constant _ _)) h o = elim o [ ]
  default_good v k d (leaf (Now _)) h o = elim o [ ]
  default_good v k d (leaf (Operator _)) h o = elim o [ ]
  default_good v k d (leaf (At v1 k1 d1)) h o = default_here v1 k1 d1 h v k d o
  default_good v k d (unary o a) h (in1 i) = default_good v k d a h i
  default_good v k d (binary o a b) h (in2a i) = default_good v k d a h.0 i
  default_good v k d (binary o a b) h (in2b i) = default_good v k d b h.1 i
  default_good v k d (ternary o a b c) h (in3a i) = default_good v k d a h.0 i
  default_good v k d (ternary o a b c) h (in3b i) = default_good v k d b h.1 i
  default_good v k d (ternary o a b c) h (in3c i) = default_good v k d c h.2 i

pub accepted_good :
    (s : List ℕ) (t : Table) → decode s ≡ decoded t → (look kept : ℕ → ℕ) → Right (Among (edges t)) (streams t) look kept → AllBytes s →
    (rows : List (List ℕ)) → ((j : ℕ) → AllWords (get_or rows j [])) → (σ : ℕ → ℕ → Value) → TableModel t rows σ → (v j : ℕ) → v < streams t → j < length rows → Good (σ v j)
accepted_good s t e look kept right bytes rows words σ m =
    let fine = sound s e in
    let order = table_order s t fine look kept right in
    model_fits (spec_of t) look order.rank (λ v. Good) (table_schedule s t fine look kept right order)
    (record {
      defaults = λ y v k d i. default_good t.types v k d (equation_of t y).expr (worded y i.output i.stream) i.occurs;
      equations = λ y o l f g. value_good t.types f (equation_of t y).expr (worded y o l) g;
    })
    (length rows) (trace (read_in t) 0 rows) σ m (λ v j l h. reading_good (get_or t.types v 0) (get_or (get_or rows j []) v 0) (words j v))
  where
    worded : (y : ℕ) → t.inputs ≤ y → y < streams t → Worded (equation_of t y).expr
    worded y o l = expression_worded t.types s bytes most_levels (get_or t.types y 0) (equation_of t y).start ((sound s e).stands y o l).parsed
