-- A reference noted in a stream's row, and what a node without operands answers and notes.
-- Assumes nothing.
use mathlib.Core.Path.{◌≡◌, refl, sym, ap, ◌∙◌, subst}
use mathlib.Core.Bool.{cond}
use mathlib.Core.List.{List}
use mathlib.Core.Logic.{◌⊎◌, inl, inr, ⊎_elim}
use Prim.Native.Nat.{ℕ, ◌*◌, ◌+◌, ◌≤◌, ◌<◌}
use native.Mathlib.Omega.{arith}
use borrow.Author.Tests.{eq-eqb, ne_eqb, lt-ltb, le-ltb}
use lib.Dec.{eqb, ltb}
use lib.IntN.{ℤ, pos}
use lib.ListN.{length, get_or}
use Rattle.limits.specs.Limits.{most_streams}
use Rattle.limits.specs.Refusals.{wrong_field, wrong_type}
use Rattle.basis.specs.Notes.{rising, falling}
use Rattle.basis.specs.Rows.{entry, column, put, Shaped}
use Rattle.basis.proofs.Rows.{column_at, column_put, column_left, shaped_put, column_same}
use Rattle.basis.proofs.Tests.{pick_case, lt_or_ge}
use Rattle.node.specs.declared.Node.{Node}
use Rattle.node.specs.declared.Node.TheVariants.{Constant, Now, At}
use Rattle.node.specs.Node.{type_fault_of, word_fault_of, zero_fault_of, fault_for}
use Rattle.node.proofs.Faults.{first_none, first_some, word_fine, type_fine}
use Rattle.expression.specs.References.{raised, node_noted}
use Rattle.expression.specs.Seen.{seen_type, seen_rise, seen_fall, seen_entries, no_type, Seen}
use Rattle.expression.specs.Scanning.{places, answered, other_fault_of, Raised, NotesAlone, Noting, LeafNoted}
use Rattle.expression.proofs.Notes.{raised_less, raised_enough}

-- ---- rows

module _ (seen : List (List ℕ)) {v i : ℕ} (x : ℕ) (lv : v < most_streams) (li : i < seen_entries) where
  pub raised_put : entry seen v i < x → Raised v i x seen (put seen v i x)
  raised_put h = record {
    shape = shaped_put v i x;
    raises = λ s. column_put seen v i x (omega (arith, s.wide v lv, li)) ∙ raised_less (column i seen) v x (subst (λ (n : ℕ). n < x) (sym (column_at i seen v)) h);
    others = λ j f. column_left seen v i x j f;
  }

  pub raised_left : x ≤ entry seen v i → Raised v i x seen seen
  raised_left h = record { shape = λ s. s; raises = λ s. raised_enough (column i seen) v x (subst (λ (n : ℕ). x ≤ n) (sym (column_at i seen v)) h); others = λ j f. refl }

pub noted_both : {v rise fall : ℕ} {a b c : List (List ℕ)} → Raised v seen_rise rise a b → Raised v seen_fall fall b c → Noting v rise fall a c
noted_both {v} {rise} {fall} p q = record {
  shape = λ s. q.shape (p.shape s);
  rises = λ s. q.others seen_rise (λ e. omega arith) ∙ p.raises s;
  falls = λ s. q.raises (p.shape s) ∙ ap (raised v fall) (p.others seen_fall (λ e. omega arith));
  others = λ j h g. q.others j g ∙ p.others j h;
}

-- rows of the same types
pub seen_same : {ts : List ℕ} {a b : List (List ℕ)} → Seen ts a → Shaped most_streams seen_entries b → column seen_type b ≡ column seen_type a → Seen ts b
seen_same {a = a} {b = b} x s e = record { shape = s; few = x.few; typed = x.typed; types = λ v h. same v ∙ x.types v h; past = λ v h l. same v ∙ x.past v h l }
  where
    same : (v : ℕ) → entry b v seen_type ≡ entry a v seen_type
    same v = column_same seen_type v b a e

-- ---- nodes without operands

module _ (node : Node) (w at next : ℕ) {ts : List ℕ} {seen : List (List ℕ)} (x : Seen ts seen) where
  pub leaf_fault : {f : ℕ} → fault_for ts w node ≡ f → (f ≡ 0 → ⊥) → LeafNoted node w at next ts seen seen (f * places + at)
  unfolding answered
  leaf_fault e z = record { answer = rw (e, ne_eqb _ _ z); rises = λ q. absurd (z (sym e ∙ q)); falls = λ q. absurd (z (sym e ∙ q)); others = λ j h g. refl; left = x }

  leaf_fine : {seen' : List (List ℕ)} → fault_for ts w node ≡ 0 → column seen_rise seen' ≡ node_noted rising node (column seen_rise seen) → column seen_fall seen' ≡ node_noted falling node (column seen_fall seen) → NotesAlone seen seen' → Seen ts seen' → LeafNoted node w at next ts seen seen' next
  unfolding answered
  leaf_fine e r f o l = record { answer = rw (eq-eqb _ _ e); rises = λ _. r; falls = λ _. f; others = o; left = l }

field : wrong_field ≡ 0 → ⊥
field e = omega arith

other_some : (t : ℕ) → other_fault_of t ≡ 0 → ⊥
unfolding other_fault_of
other_some t = pick_case (λ (x : ℕ). x ≡ 0 → ⊥) (eqb t no_type) wrong_field wrong_type (λ _ e. omega arith) (λ _ e. omega arith)

word_wrong : (t x : ℕ) → t ≡ 0 → 1 < x → word_fault_of t x ≡ wrong_field
unfolding word_fault_of
word_wrong t x e h = rw (eq-eqb _ _ e, lt-ltb _ _ h)

type_wrong : (t w : ℕ) → (t ≡ w → ⊥) → type_fault_of t w ≡ wrong_type
unfolding type_fault_of
type_wrong t w e = rw (ne_eqb _ _ e)

-- no flag, or one that is 0 or 1
pub small_flag : {Flag : Type 0} {x : ℕ} → (Flag × (x ≤ 1)) ⊎ (Flag → ⊥) → Flag → x ≤ 1
small_flag (inl h) e = h.1
small_flag (inr f) e = absurd (f e)

-- ---- a constant

module _ (ts : List ℕ) (t x w at next : ℕ) where
  answer_of : {f : ℕ} → fault_for ts w (Constant t x) ≡ f → (f ≡ 0 → ⊥) → f * places + at ≡ answered ts w (Constant t x) at next
  unfolding answered
  answer_of e z = rw (e, ne_eqb _ _ z)

  pub constant_word : t ≡ 0 → 1 < x → wrong_field * places + at ≡ answered ts w (Constant t x) at next
  unfolding fault_for
  constant_word e h = answer_of (first_some (word_fault_of t x) (type_fault_of t w) (λ q. field (sym (word_wrong t x e h) ∙ q)) ∙ word_wrong t x e h) field

  pub constant_type : (t ≡ 0 → x ≤ 1) → (t ≡ w → ⊥) → wrong_type * places + at ≡ answered ts w (Constant t x) at next
  unfolding fault_for
  constant_type h e = answer_of (first_none (word_fault_of t x) (type_fault_of t w) (word_fine t x h) ∙ type_wrong t w e) (λ q. omega arith)

  pub constant_fine : (t ≡ 0 → x ≤ 1) → t ≡ w → next ≡ answered ts w (Constant t x) at next
  unfolding answered fault_for
  constant_fine h e = rw (first_none (word_fault_of t x) (type_fault_of t w) (word_fine t x h) ∙ type_fine t w e)

-- ---- a reference

-- a stream past the last row
far_fault : {ts : List ℕ} {seen : List (List ℕ)} → Seen ts seen → (v x : ℕ) → most_streams ≤ v → cond (ltb v (length ts)) x wrong_field ≡ wrong_field
far_fault {ts} s v x h = rw (le-ltb v (length ts) (omega (arith, s.few)))

-- its row has the type t
module _ {ts : List ℕ} {seen : List (List ℕ)} (x : Seen ts seen) {v t : ℕ} (lv : v < most_streams) (et : t ≡ entry seen v seen_type) where
  inside : t < no_type → v < length ts
  inside h = ⊎_elim (λ l. l) (λ l. absurd (omega (arith, et, x.past v l lv))) (lt_or_ge v (length ts))

  of_type : v < length ts → get_or ts v 0 ≡ t
  of_type l = sym (et ∙ x.types v l)

  -- there is such a stream: the fault is f
  there : t < no_type → {f g : ℕ} → f ≡ g → cond (ltb v (length ts)) f wrong_field ≡ g
  there h e = rw (lt-ltb _ _ (inside h)) e

  -- another type than the wanted one: f is the fault where there is such a stream
  other_type : (w : ℕ) → (t ≡ w → ⊥) → (f : ℕ) → (v < length ts → f ≡ type_fault_of (get_or ts v 0) w) → cond (ltb v (length ts)) f wrong_field ≡ other_fault_of t
  unfolding other_fault_of
  other_type w n f e = ⊎_elim yes no (lt_or_ge v (length ts))
    where
      yes : v < length ts → cond (ltb v (length ts)) f wrong_field ≡ other_fault_of t
      yes l =
          let q : type_fault_of (get_or ts v 0) w ≡ wrong_type = ap (λ (n : ℕ). type_fault_of n w) (of_type l) ∙ type_wrong t w n in
          let z : t ≡ no_type → ⊥ = λ p. omega (arith, p, of_type l, x.typed v l) in
          rw (lt-ltb _ _ l, ne_eqb t no_type z) (e l ∙ q)

      no : length ts ≤ v → cond (ltb v (length ts)) f wrong_field ≡ other_fault_of t
      no l = rw (le-ltb _ _ l, eq-eqb t no_type (et ∙ x.past v l lv))

  module _ (w at next : ℕ) (lw : w < 3) where
    pub now_other : (t ≡ w → ⊥) → LeafNoted (Now v) w at next ts seen seen (other_fault_of t * places + at)
    unfolding fault_for
    now_other n = leaf_fault (Now v) w at next x (other_type w n (type_fault_of (get_or ts v 0) w) (λ l. refl)) (other_some t)

    pub now_fine : {seen' : List (List ℕ)} {a b : ℕ} → t ≡ w → a ≡ rising (pos 0) → b ≡ falling (pos 0) → Noting v a b seen seen' → LeafNoted (Now v) w at next ts seen seen' next
    unfolding fault_for node_noted
    now_fine e ea eb n =
        let l : v < length ts = inside (omega arith) in
        leaf_fine (Now v) w at next x (there (omega arith) (ap (λ (n : ℕ). type_fault_of n w) (of_type l) ∙ type_fine t w e)) (rw (← ea) (n.rises x.shape)) (rw (← eb) (n.falls x.shape)) n.others (seen_same x (n.shape x.shape) (n.others seen_type (λ e. omega arith) (λ e. omega arith)))

    module _ {k : ℤ} {d : ℕ} where
      pub at_word : zero_fault_of k ≡ 0 → t ≡ 0 → 1 < d → LeafNoted (At v k d) w at next ts seen seen (wrong_field * places + at)
      unfolding fault_for
      at_word z e h =
          let l : v < length ts = inside (omega arith) in
          let q : word_fault_of (get_or ts v 0) d ≡ wrong_field = word_wrong (get_or ts v 0) d (of_type l ∙ e) h in
          leaf_fault (At v k d) w at next x (there (omega arith) (first_none _ _ z ∙ first_some _ _ (λ p. field (sym q ∙ p)) ∙ q)) field

      pub at_other : zero_fault_of k ≡ 0 → (t ≡ 0 → d ≤ 1) → (t ≡ w → ⊥) → LeafNoted (At v k d) w at next ts seen seen (other_fault_of t * places + at)
      unfolding fault_for
      at_other z h n = leaf_fault (At v k d) w at next x (other_type w n _ (λ l. first_none _ _ z ∙ first_none _ _ (word_fine (get_or ts v 0) d (λ e. h (sym (of_type l) ∙ e))))) (other_some t)

      pub at_fine : {seen' : List (List ℕ)} {a b : ℕ} → zero_fault_of k ≡ 0 → (t ≡ 0 → d ≤ 1) → t ≡ w → a ≡ rising k → b ≡ falling k → Noting v a b seen seen' → LeafNoted (At v k d) w at next ts seen seen' next
      unfolding fault_for node_noted
      at_fine z h e ea eb n =
          let l : v < length ts = inside (omega arith) in
          leaf_fine (At v k d) w at next x
          (there (omega arith) (first_none _ _ z ∙ first_none _ _ (word_fine (get_or ts v 0) d (λ q. h (sym (of_type l) ∙ q))) ∙ ap (λ (n : ℕ). type_fault_of n w) (of_type l) ∙ type_fine t w e))
          (rw (← ea) (n.rises x.shape)) (rw (← eb) (n.falls x.shape)) n.others (seen_same x (n.shape x.shape) (n.others seen_type (λ e. omega arith) (λ e. omega arith)))

module _ {ts : List ℕ} {seen : List (List ℕ)} (x : Seen ts seen) (v w at next : ℕ) where
  pub now_far : most_streams ≤ v → LeafNoted (Now v) w at next ts seen seen (wrong_field * places + at)
  unfolding fault_for
  now_far h = leaf_fault (Now v) w at next x (far_fault x v _ h) field

  module _ {k : ℤ} {d : ℕ} where
    pub at_far : most_streams ≤ v → LeafNoted (At v k d) w at next ts seen seen (wrong_field * places + at)
    unfolding fault_for
    at_far h = leaf_fault (At v k d) w at next x (far_fault x v _ h) field

    pub at_zero : zero_fault_of k ≡ wrong_field → LeafNoted (At v k d) w at next ts seen seen (wrong_field * places + at)
    unfolding fault_for
    at_zero z = leaf_fault (At v k d) w at next x (pick_case (λ (n : ℕ). n ≡ wrong_field) (ltb v (length ts)) _ wrong_field (λ _. first_some _ _ (λ q. field (sym z ∙ q)) ∙ z) (λ _. refl)) field
