-- The streams' records, one after the other, and what holds of those that are declared.
-- Assumes nothing.
use mathlib.Core.Path.{◌≡◌, refl, sym, ap, ap₂, ◌∙◌}
use mathlib.Core.Bool.{Bool, true, false}
use mathlib.Core.List.{List, [], ◌∷◌, ◌++◌, append_assoc, append-nil}
use Prim.Native.Nat.{ℕ, zero, suc, ◌+◌, ◌-◌, ◌≤◌, ◌<◌}
use native.Mathlib.Omega.{arith}
use native.Mathlib.Numerals.{add-one}
use native.Mathlib.Nat.{pos_of_ne-zero}
use borrow.Author.Tests.{eq-eqb, ne_eqb, lt-ltb, le-ltb, eqb-true, eqb-false, leb-true}
use lib.Dec.{eqb, leb, ltb}
use lib.ListN.{length, get_or, take, set}
use lib.Seq.{take-suc-set}
use Rattle.std.proofs.lemmas.List.{set-get_or}
use Rattle.limits.specs.Faults.{number_for}
use Rattle.limits.specs.declared.Fault.{Fault}
use Rattle.limits.proofs.Faults.{number_some}
use Rattle.limits.specs.Limits.{least_table, most_table}
use Rattle.basis.proofs.Tests.{pick_case}
use Rattle.table.specs.Records.{head_fault_of, input_fault_of, output_fault_of, side_of, stream_fault_of, role_at, behind, if_fine, Declared, declares, wrong, before, declared, heads}
use Rattle.table.specs.Sound.{RecordRefusal}
use Rattle.table.proofs.Faults.{HeadFits, head_fits, head_low, head_room, StreamFits, stream_fits, stream_low, stream_room, input_role}

before_before : (ts rs us qs : List ℕ) (d : Declared) → before ts rs (before us qs d) ≡ before (ts ++ us) (rs ++ qs) d
before_before ts rs us qs (declares vs ps n) = ap₂ (λ (l m : List ℕ). declares l m n) (sym (append_assoc ts us vs)) (sym (append_assoc rs qs ps))
before_before ts rs us qs (wrong why place) = refl

before_none : (d : Declared) → before [] [] d ≡ d
before_none (declares ts rs n) = refl
before_none (wrong why place) = refl

pub streams_first : (n i : ℕ) (s : List ℕ) (at : ℕ) → before [] [] (declared (n - 0) i 0 s at) ≡ declared n i 0 s at
streams_first n i s at = let e : n - 0 ≡ n = omega arith in rw (e, before_none)

module _ (i : ℕ) (s : List ℕ) (at v to : ℕ) where
  pub streams_end : (ts rs : List ℕ) → to ≤ v → before ts rs (declared (to - v) i v s at) ≡ declares ts rs at
  unfolding declared
  streams_end ts rs h = let e : to - v ≡ 0 = omega arith in rw (e, append-nil ts, append-nil rs)

  module _ {side : ℕ} (h : v < to) (sd : side_of i v ≡ side) where
    streams_fault : {f : ℕ} → stream_fault_of side s at ≡ f → (f ≡ 0 → ⊥) → (ts rs : List ℕ) → before ts rs (declared (to - v) i v s at) ≡ wrong f at
    unfolding declared
    streams_fault p z ts rs = let e : to - v ≡ suc (to - (v + 1)) = omega arith in rw (e, sd, p, ne_eqb _ _ z)

    streams_more : stream_fault_of side s at ≡ 0 → (types roles : List ℕ) → v < length types → v < length roles
        → before (take (v + 1) (set types v (get_or s (at + 1) 0))) (take (v + 1) (set roles v (role_at side s at))) (declared (to - (v + 1)) i (v + 1) s (behind side at))
        ≡ before (take v types) (take v roles) (declared (to - v) i v s at)
    unfolding declared
    streams_more p types roles g k =
        let e : to - v ≡ suc (to - (v + 1)) = omega arith in
        rw (e, sd, eq-eqb _ _ p, before_before, add-one v, take-suc-set types v (get_or s (at + 1) 0), take-suc-set roles v (role_at side s at))

  module _ (h : v < to) (l : v < i) where
    an_input : side_of i v ≡ 0
    unfolding side_of
    an_input = rw (lt-ltb _ _ l)

    pub input_wrong : (f : Fault) → input_fault_of s at ≡ number_for f → (ts rs : List ℕ) → before ts rs (declared (to - v) i v s at) ≡ wrong (number_for f) at
    unfolding stream_fault_of
    input_wrong f p ts rs = streams_fault h an_input p (number_some f) ts rs

    -- its role is that of the array, which is 0
    pub input_more : input_fault_of s at ≡ 0 → (types roles : List ℕ) → v < length types → v < length roles → get_or roles v 0 ≡ 0
        → before (take (v + 1) (set types v (get_or s (at + 1) 0))) (take (v + 1) roles) (declared (to - (v + 1)) i (v + 1) s (at + 2)) ≡ before (take v types) (take v roles) (declared (to - v) i v s at)
    unfolding stream_fault_of role_at
    input_more p types roles g k z =
        let e : set roles v 0 ≡ roles = ap (set roles v) (sym z) ∙ set-get_or roles v 0 in
        let a : at + 2 + 0 ≡ at + 2 = omega arith in
        rw (e, a) at (streams_more h an_input p types roles g k)

  module _ (h : v < to) (l : i ≤ v) where
    an_output : side_of i v ≡ 1
    unfolding side_of
    an_output = rw (le-ltb _ _ l)

    pub output_wrong : (f : Fault) → output_fault_of s at ≡ number_for f → (ts rs : List ℕ) → before ts rs (declared (to - v) i v s at) ≡ wrong (number_for f) at
    unfolding stream_fault_of
    output_wrong f p ts rs = streams_fault h an_output p (number_some f) ts rs

    pub output_more : output_fault_of s at ≡ 0 → (types roles : List ℕ) → v < length types → v < length roles
        → before (take (v + 1) (set types v (get_or s (at + 1) 0))) (take (v + 1) (set roles v (get_or s (at + 2) 0))) (declared (to - (v + 1)) i (v + 1) s (at + 3))
        ≡ before (take v types) (take v roles) (declared (to - v) i v s at)
    unfolding stream_fault_of role_at
    output_more p types roles g k = let a : at + 2 + 1 ≡ at + 3 = omega arith in rw a at (streams_more h an_output p types roles g k)

-- what holds of both branches holds of the choice
pub fine_case : {A : Type 0} (P : A → Type 0) (b : Bool) (f : Unit {0} → A) (x : A) → (b ≡ true → P (f tt)) → (b ≡ false → P x) → P (if_fine b f x)
fine_case P true f x g h = g refl
fine_case P false f x g h = h refl

-- what holds of n streams from the stream v on, of i inputs
pub record StreamsFit (n i v : ℕ) (ts rs : List ℕ) : Type 0 where
  pub types_are : length ts ≡ n
  pub roles_are : length rs ≡ n
  pub each_fits : (k : ℕ) → StreamFits (get_or ts k 0) (get_or rs k 0)
  pub input_is_plain : (k : ℕ) → v + k < i → get_or rs k 0 ≡ 0

abbrev DeclaredFits : ℕ → ℕ → ℕ → Declared → Type 0
DeclaredFits n i v (declares ts rs m) = StreamsFit n i v ts rs
DeclaredFits n i v (wrong why place) = RecordRefusal why

module _ (n i v : ℕ) (t r : ℕ) (f : StreamFits t r) (g : v < i → r ≡ 0) where
  one_more : (d : Declared) → DeclaredFits n i (v + 1) d → DeclaredFits (suc n) i v (before (t ∷ []) (r ∷ []) d)
  one_more (declares ts rs m) h =
      record { types_are = ap suc h.types_are; roles_are = ap suc h.roles_are; each_fits = each; input_is_plain = plain }
    where
      each : (k : ℕ) → StreamFits (get_or (t ∷ ts) k 0) (get_or (r ∷ rs) k 0)
      each zero = f
      each (suc k) = h.each_fits k

      plain : (k : ℕ) → v + k < i → get_or (r ∷ rs) k 0 ≡ 0
      plain zero l = g (omega arith)
      plain (suc k) l = h.input_is_plain k (omega arith)
  one_more (wrong why place) h = h

declared_fits : (n i v : ℕ) (s : List ℕ) (at : ℕ) → DeclaredFits n i v (declared n i v s at)
unfolding declared
declared_fits zero i v s at =
    record { types_are = refl; roles_are = refl; each_fits = λ k. record { type_is = omega arith; role_is = omega arith; trigger_is_flag = λ q. refl }; input_is_plain = λ k h. refl }
declared_fits (suc n) i v s at =
    fine_case (DeclaredFits (suc n) i v) (eqb (stream_fault_of (side_of i v) s at) 0) _ _
    (λ p. one_more n i v _ _ (stream_fits (side_of i v) s at (eqb-true _ _ p)) (λ h. input_role i v s at h) (declared n i (v + 1) s (behind (side_of i v) at)) (declared_fits n i (v + 1) s (behind (side_of i v) at)))
    (λ p. (pos_of_ne-zero (eqb-false _ _ p), stream_low (side_of i v) s at))

-- what holds of all that stands before the first equation
pub record HeadsFit (s ts rs : List ℕ) : Type 0 where
  pub bytes : (least_table ≤ length s) × (length s ≤ most_table)
  pub head : HeadFits s
  pub streams : StreamsFit (get_or s 2 0 + get_or s 3 0) (get_or s 2 0) 0 ts rs

abbrev pub Headed : List ℕ → Declared → Type 0
Headed s (declares ts rs m) = HeadsFit s ts rs
Headed s (wrong why place) = RecordRefusal why

with_head : (s : List ℕ) (d : Declared) → (least_table ≤ length s) × (length s ≤ most_table) → HeadFits s → DeclaredFits (get_or s 2 0 + get_or s 3 0) (get_or s 2 0) 0 d → Headed s d
with_head s (declares ts rs m) b h f = record { bytes = b; head = h; streams = f }
with_head s (wrong why place) b h f = f

pub heads_fit : (s : List ℕ) → Headed s (heads s)
unfolding heads
heads_fit s =
    fine_case (Headed s) (leb least_table (length s)) _ _
    (λ a. fine_case (Headed s) (leb (length s) most_table) _ _
    (λ b. fine_case (Headed s) (eqb (head_fault_of s) 0) _ _
    (λ p. with_head s (declared (get_or s 2 0 + get_or s 3 0) (get_or s 2 0) 0 s 4) (leb-true _ _ a, leb-true _ _ b) (head_fits s (eqb-true _ _ p)) (declared_fits (get_or s 2 0 + get_or s 3 0) (get_or s 2 0) 0 s 4))
    (λ p. (pos_of_ne-zero (eqb-false _ _ p), head_low s)))
    (λ _. omega arith))
    (λ _. omega arith)

-- ---- the place behind them lies in the table

abbrev pub EndsWithin : ℕ → Declared → Type 0
EndsWithin n (declares ts rs m) = m ≤ n
EndsWithin n (wrong why place) = Unit {0}

within_before : (n : ℕ) (ts rs : List ℕ) (d : Declared) → EndsWithin n d → EndsWithin n (before ts rs d)
within_before n ts rs (declares us qs m) h = h
within_before n ts rs (wrong why place) h = tt

side_low : (i v : ℕ) → side_of i v ≤ 1
unfolding side_of
side_low i v = pick_case (λ (n : ℕ). n ≤ 1) (ltb v i) 0 1 (λ _. omega arith) (λ _. omega arith)

declared_within : (n i v : ℕ) (s : List ℕ) (at : ℕ) → at ≤ length s → EndsWithin (length s) (declared n i v s at)
unfolding declared
declared_within zero i v s at h = h
declared_within (suc n) i v s at h =
    fine_case (EndsWithin (length s)) (eqb (stream_fault_of (side_of i v) s at) 0) _ _
    (λ p. within_before (length s) (get_or s (at + 1) 0 ∷ []) (role_at (side_of i v) s at ∷ []) (declared n i (v + 1) s (behind (side_of i v) at)) (declared_within n i (v + 1) s (behind (side_of i v) at) (stream_room (side_of i v) s at (side_low i v) (eqb-true _ _ p))))
    (λ _. tt)

pub heads_within : (s : List ℕ) → EndsWithin (length s) (heads s)
unfolding heads
heads_within s =
    fine_case (EndsWithin (length s)) (leb least_table (length s)) _ _
    (λ _. fine_case (EndsWithin (length s)) (leb (length s) most_table) _ _
    (λ _. fine_case (EndsWithin (length s)) (eqb (head_fault_of s) 0) _ _
    (λ p. declared_within (get_or s 2 0 + get_or s 3 0) (get_or s 2 0) 0 s 4 (head_room s (eqb-true _ _ p)))
    (λ _. tt))
    (λ _. tt))
    (λ _. tt)
