-- What a scan says and notes of a node without operands, and of an operator, one operand after the other.
-- Assumes nothing.
use mathlib.Core.Path.{◌≡◌, refl, sym, ap, ◌∙◌}
use mathlib.Core.Bool.{Bool, true, false}
use mathlib.Core.List.{List}
use mathlib.Core.Logic.{inl, inr, ⊎_elim}
use Prim.Native.Nat.{ℕ, ◌+◌, ◌-◌, ◌*◌, ◌≤◌, ◌<◌}
use native.Mathlib.Omega.{arith}
use borrow.Author.Tests.{ne_eqb, eqb-true, eqb-false}
use lib.Dec.{eqb}
use lib.ListN.{length}
use Rattle.limits.specs.Limits.{most_table}
use Rattle.basis.specs.Notes.{rising, falling}
use Rattle.basis.specs.Rows.{column}
use Rattle.basis.proofs.Tests.{true_false, lt_or_ge}
use Rattle.node.specs.Kinds.{Rule, rule_of, meant}
use Rattle.node.specs.declared.Node.{Node}
use Rattle.node.specs.declared.Node.TheVariants.{Constant, Now, At, Operator}
use Rattle.node.specs.Node.{Got, is_leaf_of, node_at, fault_for, fault_at, head_of, head_by_of, head_at}
use Rattle.node.specs.Head as head
use Rattle.expression.specs.Syntax.{Expr}
use Rattle.expression.specs.Grammar.{Parsed, good, bad, parse}
use Rattle.expression.specs.References.{noted}
use Rattle.expression.specs.Seen.{seen_rise, seen_fall, Seen}
use Rattle.expression.specs.Scanning.{places, answered, scanned_of, NotesAlone, LeafNoted, Scanning}
use Rattle.expression.proofs.Heads.{FieldOrType, fault_number}
use Rattle.expression.proofs.Operands.{parse_refused, parse_leaf, first_bad_lem, one_operand, second_bad, two_operands, third_bad, three_operands}

good_not_bad : {X : Type 0} {e : Expr} {n why place : ℕ} → bad why place ≡ good e n → X
good_not_bad q = let z : ◌≡◌ {A = ℕ} 0 1 = cc in absurd (omega arith)

module _ {p : Parsed} {s ts : List ℕ} {seen seen' : List (List ℕ)} where
  pub scans_bad : {why place : ℕ} → p ≡ bad why place → 1 ≤ why → why < 16 → place ≤ length s → NotesAlone seen seen' → Seen ts seen' → Scanning p s ts seen seen' (why * places + place)
  unfolding scanned_of
  scans_bad h a b c o l = record { answer = rw h; placed = rw h (a, b, c); rises = λ e n q. good_not_bad (sym h ∙ q); falls = λ e n q. good_not_bad (sym h ∙ q); others = o; left = l }

  scans_good : {a : Expr} {n : ℕ} → p ≡ good a n → n ≤ length s → column seen_rise seen' ≡ noted rising a (column seen_rise seen) → column seen_fall seen' ≡ noted falling a (column seen_fall seen) → NotesAlone seen seen' → Seen ts seen' → Scanning p s ts seen seen' n
  unfolding scanned_of
  scans_good {a} h c r f o l = record { answer = rw h; placed = rw h c; rises = λ e n q. r ∙ ap (λ (x : Expr). noted rising x (column seen_rise seen)) (same q); falls = λ e n q. f ∙ ap (λ (x : Expr). noted falling x (column seen_fall seen)) (same q); others = o; left = l }
    where
      same : {e : Expr} {n : ℕ} → p ≡ good e n → a ≡ e
      same q = cc

-- a scan that answers a place has read an expression and noted its references
pub record Ended (p : Parsed) (s ts : List ℕ) (seen seen' : List (List ℕ)) (n : ℕ) : Type 0 where
  pub expr : Expr
  pub parsed : p ≡ good expr n
  pub behind : n ≤ length s
  pub rises : column seen_rise seen' ≡ noted rising expr (column seen_rise seen)
  pub falls : column seen_fall seen' ≡ noted falling expr (column seen_fall seen)

-- one that answers a fault has found none
pub record Refused (p : Parsed) (s : List ℕ) (r : ℕ) : Type 0 where
  pub why : ℕ
  pub place : ℕ
  pub parsed : p ≡ bad why place
  pub is : r ≡ why * places + place
  pub some : 1 ≤ why
  pub few : why < 16
  pub within : place ≤ length s

module _ {s ts : List ℕ} {seen seen' : List (List ℕ)} {r : ℕ} (short : length s ≤ most_table) where
  ended : (p : Parsed) → Scanning p s ts seen seen' r → r < places → Ended p s ts seen seen' r
  unfolding scanned_of
  ended (good e n) x h =
      let q : r ≡ n = x.answer in
      record { expr = e; parsed = ap (good e) (sym q); behind = rw q x.placed; rises = x.rises e n refl; falls = x.falls e n refl }
  ended (bad why place) x h = absurd (omega (arith, x.answer, x.placed.0))

  pub scan_ended : {p : Parsed} → Scanning p s ts seen seen' r → r < places → Ended p s ts seen seen' r
  scan_ended {p} x h = ended p x h

  refused : (p : Parsed) → Scanning p s ts seen seen' r → places ≤ r → Refused p s r
  unfolding scanned_of
  refused (good e n) x h = absurd (omega (arith, x.answer, x.placed))
  refused (bad why place) x h = record { why = why; place = place; parsed = refl; is = x.answer; some = x.placed.0; few = x.placed.1; within = x.placed.2 }

  pub scan_refused : {p : Parsed} → Scanning p s ts seen seen' r → places ≤ r → Refused p s r
  scan_refused {p} x h = refused p x h

-- a refusal as an answer
refusal : {p q : Parsed} {s ts : List ℕ} {seen seen' : List (List ℕ)} {r : ℕ} → Refused q s r → ((why place : ℕ) → q ≡ bad why place → p ≡ bad why place) → NotesAlone seen seen' → Seen ts seen' → Scanning p s ts seen seen' r
refusal x f o l = rw x.is (scans_bad (f x.why x.place x.parsed) x.some x.few x.within o l)

module _ (l : ℕ) (ts s : List ℕ) (w at : ℕ) {seen seen' : List (List ℕ)} (alone : NotesAlone seen seen') (lv : Seen ts seen') (pl : at ≤ length s) where
  -- a fault at the place itself
  pub refused_here : {why : ℕ} → head_at l ts s w at ≡ head.Refused why → 1 ≤ why → why < 16 → Scanning (parse l ts s w at) s ts seen seen' (why * places + at)
  refused_here e a b = scans_bad (parse_refused l ts s w at e) a b pl alone lv

-- ---- a node without operands

leaf_head : (n : Node) (next : ℕ) → is_leaf_of n ≡ true → head_of n next ≡ head.Leaf n next
unfolding head_of is_leaf_of
leaf_head (Constant t x) next h = refl
leaf_head (Now v) next h = refl
leaf_head (At v k d) next h = refl
leaf_head (Operator k) next h = true_false h refl

module _ (l : ℕ) (ts s : List ℕ) (w at : ℕ) {seen seen' : List (List ℕ)} {node : Node} {next r : ℕ} (e : node_at s at ≡ Got node next) (is : is_leaf_of node ≡ true) (pl : at ≤ length s) (pn : next ≤ length s) (x : LeafNoted node w at next ts seen seen' r) where
  pub leaf_scans : Scanning (parse (l + 1) ts s w at) s ts seen seen' r
  unfolding answered head_at head_by_of fault_at noted
  leaf_scans = go (eqb (fault_for ts w node) 0) refl
    where
      lev : eqb (l + 1) 0 ≡ false
      lev = ne_eqb (l + 1) 0 (λ z. omega arith)

      number : FieldOrType (fault_for ts w node) → (fault_for ts w node ≡ 0 → ⊥) → (1 ≤ fault_for ts w node) × (fault_for ts w node < 16)
      number (inl z) n = absurd (n z)
      number (inr h) n = (omega (arith, h.0), omega (arith, h.1))

      go : (b : Bool) → eqb (fault_for ts w node) 0 ≡ b → Scanning (parse (l + 1) ts s w at) s ts seen seen' r
      go true z =
          let a : r ≡ next = x.answer ∙ rw z in
          let h : head_at (l + 1) ts s w at ≡ head.Leaf node next = rw (e, lev, z) (leaf_head node next is) in
          rw a (scans_good (parse_leaf (l + 1) ts s w at h) pn (x.rises (eqb-true _ _ z)) (x.falls (eqb-true _ _ z)) x.others x.left)
      go false z =
          let a : r ≡ fault_for ts w node * places + at = x.answer ∙ rw z in
          let h : head_at (l + 1) ts s w at ≡ head.Refused (fault_for ts w node) = rw (e, lev, z) in
          let n = number (fault_number ts w node) (eqb-false _ _ z) in
          rw a (refused_here (l + 1) ts s w at x.others x.left pl h n.0 n.1)

-- ---- an operator of the kind k, whose rule is r, and the types f and q of its operands

module _ (l : ℕ) (ts s : List ℕ) (w at : ℕ) {seen : List (List ℕ)} {k next : ℕ} {r : Rule} {f q : ℕ} (short : length s ≤ most_table) (e : head_at l ts s w at ≡ head.Operator k next) (er : r ≡ rule_of k) (ef : f ≡ meant r.first w) (eq : q ≡ meant r.rest w) {seen₁ : List (List ℕ)} {x : ℕ} (s1 : Scanning (parse (l - 1) ts s f next) s ts seen seen₁ x) where
  pub first_refused : places ≤ x → Scanning (parse l ts s w at) s ts seen seen₁ x
  first_refused h = refusal (scan_refused short s1 h) (λ why place p. first_bad_lem l ts s w at e er ef eq p) s1.others s1.left

  module _ (h : x < places) where
    a : Ended (parse (l - 1) ts s f next) s ts seen seen₁ x
    a = scan_ended short s1 h

    one_ended : r.operands ≡ 1 → Scanning (parse l ts s w at) s ts seen seen₁ x
    unfolding noted
    one_ended o = scans_good (one_operand l ts s w at e er ef eq a.parsed o) a.behind a.rises a.falls s1.others s1.left

    module _ (o1 : r.operands ≡ 1 → ⊥) {seen₂ : List (List ℕ)} {y : ℕ} (s2 : Scanning (parse (l - 1) ts s q x) s ts seen₁ seen₂ y) where
      others₂ : NotesAlone seen seen₂
      others₂ j h g = s2.others j h g ∙ s1.others j h g

      pub second_refused : places ≤ y → Scanning (parse l ts s w at) s ts seen seen₂ y
      second_refused g = refusal (scan_refused short s2 g) (λ why place p. second_bad l ts s w at e er ef eq a.parsed o1 p) others₂ s2.left

      module _ (g : y < places) where
        b : Ended (parse (l - 1) ts s q x) s ts seen₁ seen₂ y
        b = scan_ended short s2 g

        rises₂ : column seen_rise seen₂ ≡ noted rising b.expr (noted rising a.expr (column seen_rise seen))
        rises₂ = b.rises ∙ ap (noted rising b.expr) a.rises

        falls₂ : column seen_fall seen₂ ≡ noted falling b.expr (noted falling a.expr (column seen_fall seen))
        falls₂ = b.falls ∙ ap (noted falling b.expr) a.falls

        two_ended : r.operands ≡ 2 → Scanning (parse l ts s w at) s ts seen seen₂ y
        unfolding noted
        two_ended o = scans_good (two_operands l ts s w at e er ef eq a.parsed o1 b.parsed o) b.behind rises₂ falls₂ others₂ s2.left

        -- the scan of the third operand answers for the whole
        pub three_scanned : (r.operands ≡ 2 → ⊥) → {seen₃ : List (List ℕ)} {z : ℕ} → Scanning (parse (l - 1) ts s q y) s ts seen₂ seen₃ z → Scanning (parse l ts s w at) s ts seen seen₃ z
        unfolding noted
        three_scanned o2 {seen₃} {z} s3 = ⊎_elim fine wrong (lt_or_ge z places)
          where
            others₃ : NotesAlone seen seen₃
            others₃ j h g = s3.others j h g ∙ others₂ j h g

            fine : z < places → Scanning (parse l ts s w at) s ts seen seen₃ z
            fine i =
                let c = scan_ended short s3 i in
                scans_good (three_operands l ts s w at e er ef eq a.parsed o1 b.parsed o2 c.parsed) c.behind (c.rises ∙ ap (noted rising c.expr) rises₂) (c.falls ∙ ap (noted falling c.expr) falls₂) others₃ s3.left

            wrong : places ≤ z → Scanning (parse l ts s w at) s ts seen seen₃ z
            wrong i = refusal (scan_refused short s3 i) (λ why place p. third_bad l ts s w at e er ef eq a.parsed o1 b.parsed o2 p) others₃ s3.left

      pub two_scanned : r.operands ≡ 2 → Scanning (parse l ts s w at) s ts seen seen₂ y
      two_scanned o = ⊎_elim (λ g. two_ended g o) second_refused (lt_or_ge y places)

  pub one_scanned : r.operands ≡ 1 → Scanning (parse l ts s w at) s ts seen seen₁ x
  one_scanned o = ⊎_elim (λ h. one_ended h o) first_refused (lt_or_ge x places)
