-- An operator that stands at a place: its rule by the constant table, its faults, and the scans of its operands put together.
-- Assumes nothing.
use mathlib.Core.Path.{◌≡◌, refl, sym, ap, ◌∙◌, subst}
use mathlib.Core.Bool.{false}
use mathlib.Core.List.{List}
use Prim.Native.Nat.{ℕ, zero, ◌+◌, ◌-◌, ◌*◌, ◌/◌, ◌%◌, ◌^◌, ◌≤◌, ◌<◌}
use native.Mathlib.Omega.{arith}
use native.Mathlib.Nat.{mod-lt}
use lib.Dec.{eqb, ltb, leb}
use lib.ListN.{length, get_or}
use Rattle.limits.specs.Limits.{most_table}
use Rattle.limits.specs.Refusals.{missing, wrong_kind, too_deep}
use Rattle.basis.proofs.Tests.{pick_case}
use Rattle.node.specs.Node.{NodeRead, Fault, Got, is_leaf_of, standing, node_by, node_at, fault_at, head_by_of, head_at, result_fault_of, deep_of, deep_fault_of}
use Rattle.node.specs.Head as head
use Rattle.node.specs.Kinds.{rule_of, meant, rest_of, results_for, many_kinds}
use Rattle.node.proofs.Rules.{Operates, past_form, is_given, first_meant, rest_meant, rest_small}
use Rattle.node.proofs.Standing.{none_read, strange_read, operates, operator_head, result_head}
use Rattle.node.proofs.Heads as heads
use Rattle.expression.specs.Grammar.{bad, parse, step}
use Rattle.expression.specs.Seen.{Seen}
use Rattle.expression.specs.Scanning.{places, CanScan, Scanning}
use Rattle.expression.proofs.Operands.{first_bad_lem}
use Rattle.expression.proofs.Scan.{scans_bad, refused_here, first_refused, one_scanned, second_refused, two_scanned, three_scanned}

-- ---- no operator after all

module _ (l : ℕ) (ts s : List ℕ) (w at : ℕ) {seen : List (List ℕ)} (x : Seen ts seen) (pl : at ≤ length s) where
  pub none_here : length s ≤ at → Scanning (parse l ts s w at) s ts seen seen (missing * places + at)
  none_here h = refused_here l ts s w at (λ j h g. refl) x pl (heads.missing l ts s w at (none_read s at h)) (omega arith) (omega arith)

  module _ {op : ℕ} (h : at < length s) (e : op ≡ get_or s at 0) where
    pub strange_here : many_kinds ≤ op → Scanning (parse l ts s w at) s ts seen seen (wrong_kind * places + at)
    strange_here g = refused_here l ts s w at (λ j h g. refl) x pl (heads.missing l ts s w at (strange_read s at h e (past_form op g))) (omega arith) (omega arith)

    module _ (o : is_leaf_of (standing s at) ≡ false) (lev : 1 ≤ l) (lw : w < 3) (g : op < many_kinds) {r : ℕ} (er : r ≡ results_for (rule_of op)) where
      pub other_here : r / 2 ^ w % 2 ≡ 0 → Scanning (parse l ts s w at) s ts seen seen (result_fault_of r * places + at)
      unfolding result_fault_of
      other_here b = refused_here l ts s w at (λ j h g. refl) x pl (result_head s at h e o l ts w lev g lw er (λ q. omega (arith, b, q))) number.0 number.1
        where
          number : (1 ≤ result_fault_of r) × (result_fault_of r < 16)
          number = pick_case (λ (n : ℕ). (1 ≤ n) × (n < 16)) (eqb r 0) _ _ (λ _. (omega arith, omega arith)) (λ _. (omega arith, omega arith))

-- ---- an operator of the kind op

pub record Here (l : ℕ) (ts s : List ℕ) (w at op operands first : ℕ) : Type 0 where
  pub within : at < length s
  pub stands : head_at l ts s w at ≡ head.Operator op (at + 1)
  pub rules : Operates op
  pub operands_are : operands ≡ (rule_of op).operands
  pub first_is : first ≡ (rule_of op).first

pub here : (l : ℕ) (ts s : List ℕ) (w at : ℕ) {op operands first r : ℕ} → is_leaf_of (standing s at) ≡ false → 1 ≤ l → w < 3 → at < length s → op ≡ get_or s at 0 → op < many_kinds → r ≡ results_for (rule_of op)
    → (r / 2 ^ w % 2 ≡ 0 → ⊥) → operands ≡ (rule_of op).operands → first ≡ (rule_of op).first → Here l ts s w at op operands first
here l ts s w at {op} {r = r} o lev lw h e g er b eo ef = record {
  within = h;
  stands = operator_head s at h e o l ts w lev g lw set;
  rules = operates s at h e o g (is_given op w g lw set).0;
  operands_are = eo;
  first_is = ef;
}
  where
    set : results_for (rule_of op) / 2 ^ w % 2 ≡ 1
    set = let q : r / 2 ^ w % 2 ≡ 1 = omega (arith, b, mod-lt (r / 2 ^ w) (let z : 0 < 2 = omega arith in z)) in rw er at q

module _ {l : ℕ} {ts s : List ℕ} {w at op operands first : ℕ} (x : Here l ts s w at op operands first) (lw : w < 3) where
  pub first_small : first < 3
  first_small = omega (arith, x.first_is, x.rules.first)

  rest_fits : {rest : ℕ} → rest ≡ rest_of operands first w → rest < 3
  rest_fits e = rw e (rest_small operands first w first_small lw)

  first_type : first ≡ meant (rule_of op).first w
  first_type = x.first_is ∙ sym (first_meant (rule_of op).first w x.rules.first)

  rest_type_lem : {rest : ℕ} → rest ≡ rest_of operands first w → rest ≡ meant (rule_of op).rest w
  rest_type_lem e = e ∙ rw (x.operands_are, x.first_is, x.rules.rest) (sym (rest_meant (rule_of op).operands (rule_of op).first w x.rules.first))

  -- what the scans of its operands need
  module _ {kinds seen seen' : List (List ℕ)} (c : CanScan kinds seen s w at) (y : Seen c.types seen') where
    pub can_first : CanScan kinds seen' s first (at + 1)
    can_first = record { tabulated = c.tabulated; few = c.few; wants = first_small; place = omega (arith, x.within); types = c.types; rows = y }

    pub can_rest : {rest : ℕ} → rest ≡ rest_of operands first w → {next : ℕ} → next ≤ length s → CanScan kinds seen' s rest next
    can_rest e h = record { tabulated = c.tabulated; few = c.few; wants = rest_fits e; place = h; types = c.types; rows = y }

  module _ (short : length s ≤ most_table) {seen seen₁ : List (List ℕ)} {a : ℕ} (s1 : Scanning (parse (l - 1) ts s first (at + 1)) s ts seen seen₁ a) where
    pub one_gives : operands ≡ 1 → Scanning (parse l ts s w at) s ts seen seen₁ a
    one_gives o = one_scanned l ts s w at short x.stands refl first_type (rest_type_lem refl) s1 (sym x.operands_are ∙ o)

    pub first_gives : places ≤ a → Scanning (parse l ts s w at) s ts seen seen₁ a
    first_gives h = first_refused l ts s w at short x.stands refl first_type (rest_type_lem refl) s1 h

    module _ {rest : ℕ} (er : rest ≡ rest_of operands first w) (h : a < places) (o1 : operands ≡ 1 → ⊥) {seen₂ : List (List ℕ)} {b : ℕ} (s2 : Scanning (parse (l - 1) ts s rest a) s ts seen₁ seen₂ b) where
      pub two_give : operands ≡ 2 → Scanning (parse l ts s w at) s ts seen seen₂ b
      two_give o = two_scanned l ts s w at short x.stands refl first_type (rest_type_lem er) s1 h (λ q. o1 (x.operands_are ∙ q)) s2 (sym x.operands_are ∙ o)

      pub second_gives : places ≤ b → Scanning (parse l ts s w at) s ts seen seen₂ b
      second_gives g = second_refused l ts s w at short x.stands refl first_type (rest_type_lem er) s1 h (λ q. o1 (x.operands_are ∙ q)) s2 g

      pub three_give : b < places → (operands ≡ 2 → ⊥) → {seen₃ : List (List ℕ)} {z : ℕ} → Scanning (parse (l - 1) ts s rest b) s ts seen₂ seen₃ z → Scanning (parse l ts s w at) s ts seen seen₃ z
      three_give g o2 s3 = three_scanned l ts s w at short x.stands refl first_type (rest_type_lem er) s1 h (λ q. o1 (x.operands_are ∙ q)) s2 g (λ q. o2 (x.operands_are ∙ q)) s3

-- ---- one level too deep

deep_bad : (ts s : List ℕ) (w at : ℕ) → parse zero ts s w at ≡ bad (deep_fault_of s at) at
unfolding parse step head_at head_by_of fault_at deep_of
deep_bad ts s w at = go (node_at s at)
  where
    go : (n : NodeRead) → step (λ v m. bad too_deep m) w at (head_by_of zero ts w n) ≡ bad (deep_of n) at
    go (Fault why) = refl
    go (Got node next) = refl

abbrev Numbered : NodeRead → Type 0
Numbered n = (1 ≤ deep_of n) × (deep_of n < 16)

deep_number : (s : List ℕ) (at : ℕ) → (1 ≤ deep_fault_of s at) × (deep_fault_of s at < 16)
unfolding node_at node_by deep_of
deep_number s at =
    pick_case Numbered (ltb at (length s)) _ _
    (λ _. pick_case Numbered (eqb (rule_of (get_or s at 0)).form 0) _ _ (λ _. (omega arith, omega arith)) (λ _. pick_case Numbered (leb (at + 1 + (rule_of (get_or s at 0)).body) (length s)) _ _ (λ _. (omega arith, omega arith)) (λ _. (omega arith, omega arith))))
    (λ _. (omega arith, omega arith))

pub deep_gives : {l : ℕ} {ts s : List ℕ} {w at op operands first d : ℕ} {seen : List (List ℕ)} → Here l ts s w at op operands first → w < 3 → l ≡ 1 → d ≡ deep_fault_of s (at + 1) → Seen ts seen → Scanning (parse l ts s w at) s ts seen seen (d * places + (at + 1))
deep_gives {l} {ts} {s} {w} {at} {op} {operands} {first} {d} x lw e ed y =
    let p : parse (l - 1) ts s first (at + 1) ≡ bad d (at + 1) = rw e (deep_bad ts s first (at + 1) ∙ ap (λ (n : ℕ). bad n (at + 1)) (sym ed)) in
    let n = deep_number s (at + 1) in
    scans_bad (first_bad_lem l ts s w at x.stands refl (first_type x lw) (rest_type_lem x lw refl) p) (rw ed n.0) (rw ed n.1) (omega (arith, x.within)) (λ j h g. refl) y

-- a leaf's scan at any level, one below l
pub at_level : (l w at : ℕ) {ts s : List ℕ} {r : ℕ} {seen seen' : List (List ℕ)} → 2 ≤ l → ((m : ℕ) → Scanning (parse (m + 1) ts s w at) s ts seen seen' r) → Scanning (parse (l - 1) ts s w at) s ts seen seen' r
at_level l w at {ts} {s} {r} {seen} {seen'} h f = subst (λ (n : ℕ). Scanning (parse n ts s w at) s ts seen seen' r) (let e : l - 2 + 1 ≡ l - 1 = omega arith in e) (f (l - 2))
