-- The references of an expression as edges, and the largest and the smallest weight to each stream that the scan notes (document 01,
-- "What the check announces"). Assumes nothing.
use Rattle.std.specs.Prelude.{ℕ, ◌+◌, ◌≤◌, ◌<◌, cond, List, [], ◌∷◌, ◌++◌, ◌≡◌, ltb, ℤ, pos, get_or, set}
use Rattle.limits.specs.Limits.{most_back, most_ahead, rise_of_zero, fall_of_zero}
use Rattle.basis.specs.Parts.{up, down}
use Rattle.basis.specs.Edges.{Edge, Has}
use Rattle.node.specs.declared.Node.{Node}
use Rattle.node.specs.declared.Node.TheVariants.{Constant, Now, At, Operator}
use Rattle.expression.specs.Syntax.{Expr, leaf, unary, binary, ternary}

abbrev pub edge : ℕ → ℕ → ℤ → Edge
edge y v k = record { from = y; to = v; weight = k }

-- "An edge of weight k leads from y to v for each at(v, k) in y's equation, weight 0 for each now(v)"
unfoldable pub node_references : ℕ → Node → List Edge
node_references y (Constant t x) = []
node_references y (Now v) = edge y v (pos 0) ∷ []
node_references y (At v k d) = edge y v k ∷ []
node_references y (Operator k) = []

-- the references of y's expression in order of occurrence: "both branches of an if count"
unfoldable pub references : ℕ → Expr → List Edge
references y (leaf n) = node_references y n
references y (unary k a) = references y a
references y (binary k a b) = references y a ++ references y b
references y (ternary k a b c) = references y a ++ references y b ++ references y c

-- "k from -128 to 127"
pub record Ranged (k : ℤ) : Type 0 where
  pub ahead : up k ≤ most_ahead
  pub back : down k ≤ most_back

-- a node that refers to a stream refers to one below `streams`, and an at's offset is in range "and not 0"
abbrev pub NodeRefers : ℕ → Node → Type 0
NodeRefers streams (Constant t x) = Unit {0}
NodeRefers streams (Now v) = v < streams
NodeRefers streams (At v k d) = (v < streams) × Ranged k × (k ≡ pos 0 → ⊥)
NodeRefers streams (Operator k) = Unit {0}

-- the edges of a list lead from y to streams below `streams`, with weights in range
pub record Leads (y streams i v : ℕ) (k : ℤ) : Type 0 where
  pub from : i ≡ y
  pub below : v < streams
  pub ranged : Ranged k

abbrev pub Refers : ℕ → ℕ → List Edge → Type 0
Refers y streams es = (i v : ℕ) (k : ℤ) → Has i v k es → Leads y streams i v k

-- the entry of v raised to x, if it was less
unfoldable pub raised : ℕ → ℕ → List ℕ → List ℕ
raised v x a = cond (ltb (get_or a v 0) x) (set a v x) a

-- what is noted of a node under the measure m, one entry for each stream
unfoldable pub node_noted : (ℤ → ℕ) → Node → List ℕ → List ℕ
node_noted m (Constant t x) a = a
node_noted m (Now v) a = raised v (m (pos 0)) a
node_noted m (At v k d) a = raised v (m k) a
node_noted m (Operator k) a = a

-- what is noted of an expression: for each reference to v of weight k the entry of v is raised to m k
unfoldable pub noted : (ℤ → ℕ) → Expr → List ℕ → List ℕ
noted m (leaf n) a = node_noted m n a
noted m (unary k e) a = noted m e a
noted m (binary k e f) a = noted m f (noted m e a)
noted m (ternary k e f g) a = noted m g (noted m f (noted m e a))

-- rise and fall are the notes of the edges from y to v in a list: both 0 where there is none, else the largest weight is rise - `rise_of_zero`
-- and the smallest `fall_of_zero` - fall
pub record Extremes (es : List Edge) (y v rise fall : ℕ) : Type 0 where
  pub none : rise ≡ 0 → (k : ℤ) → Has y v k es → ⊥
  pub together : (1 ≤ rise → 1 ≤ fall) × (1 ≤ fall → 1 ≤ rise)
  pub between : (k : ℤ) → Has y v k es → (rise_of_zero + up k ≤ rise + down k) × (fall_of_zero + down k ≤ fall + up k)
  pub largest : 1 ≤ rise → (k : ℤ) × Has y v k es × (rise + down k ≡ rise_of_zero + up k)
  pub smallest : 1 ≤ fall → (k : ℤ) × Has y v k es × (fall + up k ≡ fall_of_zero + down k)
