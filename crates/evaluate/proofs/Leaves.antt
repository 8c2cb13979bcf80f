-- The value of a constant or a reference, as the grammar reads it: what a reference refers to is found by the frame.
-- Assumes nothing.
use mathlib.Core.Path.{◌≡◌, refl, sym, ap, subst, ◌∙◌}
use mathlib.Core.Bool.{true}
use mathlib.Core.List.{List}
use Prim.Native.Nat.{ℕ, ◌+◌, ◌<◌}
use native.Mathlib.Omega.{arith}
use lib.IntN.{ℤ}
use lib.ListN.{get_or}
use Rattle.basis.specs.Parts.{up}
use Rattle.basis.proofs.Tests.{true_false}
use Rattle.expression.proofs.Operands.{parse_leaf}
use Rattle.expression.specs.Syntax.{Expr, leaf}
use Rattle.expression.specs.Grammar.{good}
use Rattle.node.specs.Kinds.{rule_of}
use Rattle.node.specs.Node.{is_leaf_of, standing, head_of}
use Rattle.node.specs.declared.Node.{Node}
use Rattle.node.specs.declared.Node.TheVariants.{Constant, Now, At, Operator}
use Rattle.node.specs.Head as head
use Rattle.value.specs.declared.Value.{Value}
use Rattle.value.specs.Values.{reading_of}
use Rattle.lola.specs.Expressions as lola
use Rattle.lola.specs.Expressions.{Ref, target, rise, fall}
use Rattle.lola.specs.Graph.{Occurs, here}
use Rattle.lola.specs.Models.{value, refer}
use Rattle.lola.proofs.References.{refer_agree}
use Rattle.meaning.specs.Expressions.{meaning}
use Rattle.store.specs.declared.Frame.{Frame}
use Rattle.store.specs.Store.{held_of, part_of, Findable}
use Rattle.store.proofs.Places.{findable, is_held}
use Rattle.evaluate.specs.Evaluation.{found_in, referred_in, Referable, InTurn, Held, Readable, value_in, value_of, evaluated_of}
use Rattle.evaluate.proofs.Heads.{types_in, leaf_here}

pub same_expr : {a e : Expr} {n m : ℕ} → good a n ≡ good e m → e ≡ a
same_expr h = cc

pub same_end : {a e : Expr} {n m : ℕ} → good a n ≡ good e m → m ≡ n
same_end h = cc

-- a reference whose stream the store holds, in a turn
module _ {frame : Frame} {m : ℕ} (x : InTurn frame m) {r : Ref Value} (h : Held x.look x.kept x.streams x.n x.t x.j r) where
  rows_known : frame.known ≡ x.n
  rows_known = x.framed.known

  -- where it lies in the trace
  module _ (q : ℕ) (e : q + fall r ≡ x.j + rise r) (l : q < x.n) where
    pub found_there : Findable frame m (target r) q
    found_there = findable x.framed h.stream (h.within q e l) x.few x.fits

    found_held : (st : List ℕ) → found_in frame st (target r) q ≡ held_of x.types x.kept st (target r) q
    found_held st = is_held x.framed h.stream (h.within q e l) st refl

  pub refers_held : (st : List ℕ) → refer (found_in frame st) frame.known frame.position r ≡ refer (held_of x.types x.kept st) x.n x.j r
  refers_held st = (λ i. refer (found_in frame st) (rows_known i) (x.position i) r) ∙ (refer_agree (found_in frame st) (held_of x.types x.kept st) x.n x.n x.j r x.inside (λ q c z. z) (λ q c z. z) (λ q c z. found_held q c z st))

module _ {frame : Frame} {m : ℕ} (x : InTurn frame m) where
  now_found : {v : ℕ} → Held x.look x.kept x.streams x.n x.t x.j (lola.now v) → Findable frame m v frame.position
  now_found {v} h = subst (λ (q : ℕ). Findable frame m v q) (sym x.position) (found_there x h x.j refl x.inside)

  at_found : {v : ℕ} {k : ℤ} {d : Value} → Held x.look x.kept x.streams x.n x.t x.j (lola.at v k d) → Referable frame m v k
  at_found {v} {k} h = record {
    stream = omega (arith, h.stream, x.few);
    found = λ q e l. found_there x h q (e ∙ ap (λ (j : ℕ). j + up k) x.position) (omega (arith, l, x.framed.known));
  }

module _ (types kept st : List ℕ) (n j : ℕ) where
  value_constant : (t w : ℕ) → reading_of t w ≡ value_in types kept st n j (leaf (Constant t w))
  unfolding value_in meaning value
  value_constant t w = refl

  value_now : (v : ℕ) → refer (held_of types kept st) n j (lola.now v) ≡ value_in types kept st n j (leaf (Now v))
  unfolding value_in meaning value
  value_now v = refl

  value_at : (v : ℕ) (k : ℤ) (d : ℕ) → refer (held_of types kept st) n j (lola.at v k (reading_of (get_or types v 0) d)) ≡ value_in types kept st n j (leaf (At v k d))
  unfolding value_in meaning value
  value_at v k d = refl

-- the node that the code decodes at a place where the grammar reads an expression
module _ {l : ℕ} {frame : Frame} {m : ℕ} {s : List ℕ} {place : ℕ} (x : Readable l frame m s place) {node : Node} (en : node ≡ standing s place) where
  abbrev behind : ℕ
  behind = place + 1 + (rule_of (get_or s place 0)).body

  leaf_is : {found : Node} → node ≡ found → head_of found behind ≡ head.Leaf found behind → good (leaf found) behind ≡ good x.expr x.behind
  leaf_is e is = sym (parse_leaf l (types_in x) s x.wanted place (leaf_here x en e is refl)) ∙ x.parsed

  holds : {found : Node} {r : Ref Value} → good (leaf found) behind ≡ good x.expr x.behind → Occurs r (meaning x.turn.types (leaf found))
      → Held x.turn.look x.turn.kept x.turn.streams x.turn.n x.turn.t x.turn.j r
  holds {found} {r} g o = x.held r (rw (same_expr g) o)

  now_held : {v : ℕ} → node ≡ Now v → Held x.turn.look x.turn.kept x.turn.streams x.turn.n x.turn.t x.turn.j (lola.now v)
  unfolding head_of meaning
  now_held e = holds (leaf_is e refl) here

  at_held : {v d : ℕ} {k : ℤ} → node ≡ At v k d → Held x.turn.look x.turn.kept x.turn.streams x.turn.n x.turn.t x.turn.j (lola.at v k (reading_of (get_or x.turn.types v 0) d))
  unfolding head_of meaning
  at_held e = holds (leaf_is e refl) here

  pub now_findable : {v : ℕ} → node ≡ Now v → Findable frame m v frame.position
  now_findable e = now_found x.turn (now_held e)

  pub at_referable : {v d : ℕ} {k : ℤ} → node ≡ At v k d → Referable frame m v k
  at_referable e = at_found x.turn (at_held e)

  -- its value, and i is the place behind its body
  module _ (st : List ℕ) {i : ℕ} (ei : i ≡ behind) where
    abbrev Answers : Value → Type 0
    Answers v = evaluated_of v i ≡ evaluated_of (value_of st x) x.behind

    leaf_gives : {v : Value} {found : Node} → good (leaf found) behind ≡ good x.expr x.behind → v ≡ value_in x.turn.types x.turn.kept st x.turn.n x.turn.j (leaf found) → Answers v
    leaf_gives {v} g ev =
        let a : v ≡ value_of st x = ev ∙ ap (value_in x.turn.types x.turn.kept st x.turn.n x.turn.j) (sym (same_expr g)) in
        λ h. record { value = a h; next = (ei ∙ sym (same_end g)) h }

    pub constant_gives : {v : Value} {t w : ℕ} → node ≡ Constant t w → v ≡ reading_of t w → Answers v
    unfolding head_of
    constant_gives {t = t} {w} e ev = leaf_gives (leaf_is e refl) (ev ∙ value_constant x.turn.types x.turn.kept st x.turn.n x.turn.j t w)

    pub now_gives : {v : Value} {y : ℕ} → node ≡ Now y → v ≡ found_in frame st y frame.position → Answers v
    unfolding head_of refer
    now_gives {y = y} e ev = leaf_gives (leaf_is e refl) (ev ∙ refers_held x.turn (now_held e) st ∙ value_now x.turn.types x.turn.kept st x.turn.n x.turn.j y)

    pub at_gives : {v : Value} {y d : ℕ} {k : ℤ} → node ≡ At y k d → v ≡ referred_in frame st y k d → Answers v
    unfolding head_of
    at_gives {y = y} {d} {k} e ev =
        let t : (part_of frame y).kind ≡ get_or x.turn.types y 0 = x.turn.framed.laid.typed y (at_held e).stream in
        leaf_gives (leaf_is e refl) (ev ∙ ap (λ (w : ℕ). refer (found_in frame st) frame.known frame.position (lola.at y k (reading_of w d))) t ∙ refers_held x.turn (at_held e) st ∙ value_at x.turn.types x.turn.kept st x.turn.n x.turn.j y k d)

    pub operator_never : {v : Value} {k : ℕ} → is_leaf_of (standing s place) ≡ true → node ≡ Operator k → Answers v
    unfolding is_leaf_of
    operator_never h e = true_false h (rw (← en, e))
