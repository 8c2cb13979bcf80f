-- The value of an expression over the lent store (document 01, "A run"), and what the evaluator's functions answer of it: by the numbers of a
-- frame, and by those that the frame was laid from. `types`, `look` and `kept` hold a number for each stream. Assumes nothing.
use Rattle.std.specs.Prelude.{ℕ, ◌+◌, ◌≤◌, ◌<◌, ◌≡◌, true, false, List, ℤ, length, get_or, take}
use Rattle.basis.specs.Firsts.{of}
use Rattle.basis.specs.Parts.{up, down}
use Rattle.value.specs.declared.Value.{Value}
use Rattle.value.specs.Values.{reading_of}
use Rattle.limits.specs.Limits.{most_streams}
use Rattle.node.specs.Node.{is_leaf_of, standing}
use Rattle.expression.specs.Syntax.{Expr}
use Rattle.expression.specs.Grammar.{good, parse}
use Rattle.lola.specs.Expressions.{Ref, at, target, rise, fall}
use Rattle.lola.specs.Graph.{Occurs}
use Rattle.lola.specs.Models.{value, refer}
use Rattle.meaning.specs.Expressions.{ops, meaning}
use Rattle.store.specs.declared.Frame.{Frame}
use Rattle.store.specs.Store.{layout_of, held_of, part_of, lent_in, place_in, Framed, Findable, Within}
use Rattle.evaluate.specs.declared.Evaluated.{Evaluated}

-- a word of v, and the value that the store has of v for the position q, by a frame's numbers
abbrev pub read_in : (frame : Frame) (v w : ℕ) → Value
read_in frame v w = reading_of (part_of frame v).kind w

abbrev pub found_in : (frame : Frame) (st : List ℕ) (v q : ℕ) → Value
found_in frame st v q = read_in frame v (get_or st (place_in frame v q) 0)

-- "at(v, k) at position j is v at j+k, or the default where j+k is below 0 or not below N": d is the default's word
abbrev pub referred_in : (frame : Frame) (st : List ℕ) (v : ℕ) → ℤ → ℕ → Value
referred_in frame st v k d = refer (found_in frame st) frame.known frame.position (at v k (read_in frame v d))

-- where j+k lies in the trace, a store of m words has the word of v that the frame says
pub record Referable (frame : Frame) (m v : ℕ) (k : ℤ) : Type 0 where
  pub stream : v < most_streams
  pub found : (q : ℕ) → q + down k ≡ frame.position + up k → q < frame.known → Findable frame m v q

-- The frame of a turn t where n rows are known, with the position j of the equation that is evaluated over a store of m words.
pub record InTurn (frame : Frame) (m : ℕ) : Type 0 where
  pub types : List ℕ
  pub look : List ℕ
  pub kept : List ℕ
  pub streams : ℕ
  pub n : ℕ
  pub t : ℕ
  pub j : ℕ
  pub few : streams ≤ most_streams
  pub fits : (layout_of types (of kept)).words ≤ m
  pub framed : Framed types look kept streams n t frame
  pub position : frame.position ≡ j
  pub lent : lent_in frame ≡ m
  pub inside : j < n

-- what a reference of an equation refers to from the position j is in the store, where it lies in the trace
pub record Held (look kept : List ℕ) (streams n t j : ℕ) (r : Ref Value) : Type 0 where
  pub stream : target r < streams
  pub within : (q : ℕ) → q + fall r ≡ j + rise r → q < n → Within look kept n t (target r) q

-- the grammar reads an expression at a place of the table s with l levels left, and the store of m words has what its references refer to
pub record Readable (l : ℕ) (frame : Frame) (m : ℕ) (s : List ℕ) (place : ℕ) : Type 0 where
  pub turn : InTurn frame m
  pub wanted : ℕ
  pub expr : Expr
  pub behind : ℕ
  pub parsed : parse l (take turn.streams turn.types) s wanted place ≡ good expr behind
  pub held : (r : Ref Value) → Occurs r (meaning turn.types expr) → Held turn.look turn.kept turn.streams turn.n turn.t turn.j r

abbrev pub evaluated_of : Value → ℕ → Evaluated
evaluated_of v m = record { value = v; next = m }

-- definition 5 of source 004, over the store
unfoldable pub value_in : (types kept st : List ℕ) (n j : ℕ) → Expr → Value
value_in types kept st n j e = value ops (refer (held_of types kept st) n j) (meaning types e)

-- the value of a readable expression
abbrev pub value_of : {l : ℕ} {frame : Frame} {m : ℕ} {s : List ℕ} {place : ℕ} (st : List ℕ) → Readable l frame m s place → Value
value_of st x = value_in x.turn.types x.turn.kept st x.turn.n x.turn.j x.expr

-- the contract of `eval`, where the grammar reads an expression at the place
abbrev pub Evaluates : (l : ℕ) (frame : Frame) (st s : List ℕ) (place : ℕ) → Evaluated → Type 0
Evaluates l frame st s place r = (x : Readable l frame (length st) s place) → r ≡ evaluated_of (value_of st x) x.behind

-- of `leaf`: with any number of levels left
abbrev pub EvaluatesLeaf : (frame : Frame) (st s : List ℕ) (place : ℕ) → Evaluated → Type 0
EvaluatesLeaf frame st s place r = (l : ℕ) → Evaluates l frame st s place r

-- what they need: a node without operands stands at the place, or one with operands
pub record LeafStands (frame : Frame) (m : ℕ) (s : List ℕ) (place : ℕ) : Type 0 where
  pub levels : ℕ
  pub readable : Readable levels frame m s place
  pub leaf : is_leaf_of (standing s place) ≡ true

pub record OperatorStands (l : ℕ) (frame : Frame) (m : ℕ) (s : List ℕ) (place : ℕ) : Type 0 where
  pub readable : Readable l frame m s place
  pub operator : is_leaf_of (standing s place) ≡ false
