-- Where a text leaves a bounded decimal with the byte behind it; an offset; eight hex digits. Assumes nothing.
use Prim.Native.Nat.{ℕ, zero, suc, ◌+◌, ◌*◌, ◌-◌, ◌/◌, ◌%◌, ◌≤◌, ◌<◌}
use native.Mathlib.Omega.{arith}
use native.Mathlib.Decide.{ℕ_discrete}
use native.Mathlib.Bridge.{le_prop}
use mathlib.Core.Path.{◌≡◌, refl, sym, ap, ◌∙◌, subst}
use mathlib.Core.HLevel.{Σ_prop_path, ×_prop}
use mathlib.Core.Logic.{◌⊎◌, inl, inr}
use mathlib.Core.List.{List, [], ◌∷◌, ◌++◌, append_assoc}
use lib.ListN.{length, get_or, length-append}
use borrow.Author.Tests.{lt-ltb, le-ltb}
use Rattle.basis.proofs.Tests.{lt_or_ge}
use Rattle.lines.specs.Lines.{decimal, hex_digit_of}
use Rattle.lines.proofs.Decimals.{decimal_below_ten, decimal_by_last_digit}
use Rattle.shapes.specs.Forms.{Form, Parts, here, next, Within, Fault, Small, none, more, Marked, mark, behind, Plain, Outcome, whole, fault, Reads, word, seq}
use Rattle.shapes.specs.Numbers.{number, offset, hex_one, times}
use Rattle.shapes.proofs.Forms.{parts_more, parts_before, parts_sym, parts_behind, parts_in_right, small_both, word_reads, word_plain, seq_reads, seq_plain, alt_reads, alt_plain}

-- two texts are equal, or part, or one begins the other
data Way (u s : List ℕ) : Type 0 where
  same : u ≡ s → Way u s
  part : (k : ℕ) → Parts u s k → Way u s
  longer : (d : ℕ) (t : List ℕ) → u ≡ s ++ (d ∷ t) → Way u s
  shorter : (d : ℕ) (t : List ℕ) → s ≡ u ++ (d ∷ t) → Way u s

way_on : (a : ℕ) {u s : List ℕ} → Way u s → Way (a ∷ u) (a ∷ s)
way_on a (same e) = same (ap (λ (l : List ℕ). a ∷ l) e)
way_on a (part k h) = part (suc k) (next h)
way_on a (longer d t e) = longer d t (ap (λ (l : List ℕ). a ∷ l) e)
way_on a (shorter d t e) = shorter d t (ap (λ (l : List ℕ). a ∷ l) e)

way : (u s : List ℕ) → Way u s
way [] [] = same refl
way [] (b ∷ s) = shorter b s refl
way (a ∷ u) [] = longer a u refl
way (a ∷ u) (b ∷ s) = by (ℕ_discrete a b) (way u s)
  where
    by : Dec (a ≡ b) → Way u s → Way (a ∷ u) (b ∷ s)
    by (yes e) w = subst (λ (c : ℕ). Way (a ∷ u) (c ∷ s)) e (way_on a w)
    by (no n) w = part zero (here n)

-- decimal digits
data Digits : List ℕ → Type 0 where
  no_more : Digits []
  digit : {d : ℕ} {w : List ℕ} → 48 ≤ d → d ≤ 57 → Digits w → Digits (d ∷ w)

digits_both : {u v : List ℕ} → Digits u → Digits v → Digits (u ++ v)
digits_both no_more k = k
digits_both (digit a b h) k = digit a b (digits_both h k)

digits_at : (u : List ℕ) (d : ℕ) (t : List ℕ) → Digits (u ++ (d ∷ t)) → (48 ≤ d) × (d ≤ 57)
digits_at [] d t (digit a b h) = (a, b)
digits_at (x ∷ u) d t (digit a b h) = digits_at u d t h

decimal_digits : (n : ℕ) → Digits (decimal n)
decimal_digits n = go (suc n) n (omega arith)
  where
    by : (n : ℕ) → (n < 10) ⊎ (10 ≤ n) → (10 ≤ n → Digits (decimal (n / 10))) → Digits (decimal n)
    by n (inl l) h = subst Digits (sym (decimal_below_ten n l)) (digit (omega arith) (omega arith) no_more)
    by n (inr l) h = subst Digits (sym (decimal_by_last_digit n l)) (digits_both (h l) (digit (omega arith) (omega arith) no_more))

    go : (f n : ℕ) → n < f → Digits (decimal n)
    go zero n l = absurd (omega arith)
    go (suc f) n l = by n (lt_or_ge n 10) λ k. go f (n / 10) (omega arith)

small_digits : {w : List ℕ} → Digits w → Small w
small_digits no_more = none
small_digits (digit {d} a b h) = more {b = d} (omega arith) (small_digits h)

-- the number that digits give behind a number
value : ℕ → List ℕ → ℕ
value v [] = v
value v (d ∷ w) = value (10 * v + (d - 48)) w

value_append : (v : ℕ) (u w : List ℕ) → value v (u ++ w) ≡ value (value v u) w
unfolding value
value_append v [] w = refl
value_append v (d ∷ u) w = value_append (10 * v + (d - 48)) u w

value_grows : (v : ℕ) (w : List ℕ) → v ≤ value v w
unfolding value
value_grows v [] = omega arith
value_grows v (d ∷ w) = let h = value_grows (10 * v + (d - 48)) w in omega (arith, h)

value_one : (v d : ℕ) → value v (d ∷ []) ≡ 10 * v + (d - 48)
unfolding value
value_one v d = refl

value_next : (v d : ℕ) (w : List ℕ) → 10 * v + (d - 48) ≤ value v (d ∷ w)
unfolding value
value_next v d w = value_grows (10 * v + (d - 48)) w

value_decimal : (n : ℕ) → value 0 (decimal n) ≡ n
value_decimal n = go (suc n) n (omega arith)
  where
    by : (n : ℕ) → (n < 10) ⊎ (10 ≤ n) → (10 ≤ n → value 0 (decimal (n / 10)) ≡ n / 10) → value 0 (decimal n) ≡ n
    by n (inl l) h = ap (value 0) (decimal_below_ten n l) ∙ value_one 0 (48 + n) ∙ omega arith
    by n (inr l) h =
        ap (value 0) (decimal_by_last_digit n l) ∙ value_append 0 (decimal (n / 10)) ((48 + n % 10) ∷ [])
        ∙ ap (λ (v : ℕ). value v ((48 + n % 10) ∷ [])) (h l) ∙ value_one (n / 10) (48 + n % 10) ∙ omega arith

    go : (f n : ℕ) → n < f → value 0 (decimal n) ≡ n
    go zero n l = absurd (omega arith)
    go (suc f) n l = by n (lt_or_ge n 10) λ k. go f (n / 10) (omega arith)

-- the first digit, which is no 0 but for 0
record First (n : ℕ) : Type 0 where
  lead : ℕ
  rest : List ℕ
  is : decimal n ≡ lead ∷ rest
  low : 48 ≤ lead
  high : lead ≤ 57
  no_zero : 1 ≤ n → 49 ≤ lead
  alone : n < 1 → rest ≡ []

first : (n : ℕ) → First n
first n = go (suc n) n (omega arith)
  where
    by : (n : ℕ) → (n < 10) ⊎ (10 ≤ n) → (10 ≤ n → First (n / 10)) → First n
    by n (inl l) h = record { lead = 48 + n; rest = []; is = decimal_below_ten n l; low = omega arith; high = omega arith; no_zero = λ k. omega arith; alone = λ k. refl }
    by n (inr l) h = record {
      lead = (h l).lead;
      rest = (h l).rest ++ ((48 + n % 10) ∷ []);
      is = decimal_by_last_digit n l ∙ ap (λ (w : List ℕ). w ++ ((48 + n % 10) ∷ [])) (h l).is;
      low = (h l).low;
      high = (h l).high;
      no_zero = λ k. (h l).no_zero (omega arith);
      alone = λ k. absurd (omega arith);
    }

    go : (f n : ℕ) → n < f → First n
    go zero n l = absurd (omega arith)
    go (suc f) n l = by n (lt_or_ge n 10) λ k. go f (n / 10) (omega arith)

-- what n has to be if its digits are those of v, then d, and more
digit_behind : (n v d : ℕ) (t : List ℕ) → decimal n ≡ decimal v ++ (d ∷ t) → (48 ≤ d) × (d ≤ 57) × (1 ≤ v) × (10 * v + (d - 48) ≤ n)
digit_behind n v d t e = (fits.0, fits.1, nonzero (lt_or_ge v 1) (lt_or_ge n 1), reaches)
  where
    fits : (48 ≤ d) × (d ≤ 57)
    fits = digits_at (decimal v) d t (subst Digits e (decimal_digits n))

    is_value : value v (d ∷ t) ≡ n
    is_value = ap (λ (k : ℕ). value k (d ∷ t)) (sym (value_decimal v)) ∙ sym (value_append 0 (decimal v) (d ∷ t)) ∙ ap (value 0) (sym e) ∙ value_decimal n

    reaches : 10 * v + (d - 48) ≤ n
    reaches = omega (arith, value_next v d t, is_value)

    -- one digit 0 before d: then n has a leading 0
    led : v < 1 → (first n).lead ∷ (first n).rest ≡ 48 ∷ (d ∷ t)
    led l = sym (first n).is ∙ e ∙ ap (λ (w : List ℕ). w ++ (d ∷ t)) (decimal_below_ten v (omega arith)) ∙ ap (λ (k : ℕ). (48 + k) ∷ (d ∷ t)) (let z : v ≡ 0 = omega arith in z)

    nonzero : (v < 1) ⊎ (1 ≤ v) → (n < 1) ⊎ (1 ≤ n) → 1 ≤ v
    nonzero (inr l) o = l
    nonzero (inl l) (inl k) =
        let a = ap length (led l) in
        let b = ap length ((first n).alone k) in
        absurd (omega (arith, a, b))
    nonzero (inl l) (inr k) = absurd (omega (arith, (first n).no_zero k, ap (λ (w : List ℕ). get_or w 0 0) (led l)))

module _ (least most stop : ℕ) (low : stop < 48) where
  -- the loop's fault: v is read, and the byte there is neither the one that has to follow nor a digit that stays in range
  pub number_fault : (v b : ℕ) (r : List ℕ) → least ≤ v → v ≤ most → (stop ≡ b → ⊥)
      → ((d : ℕ) → b ≡ 48 + d → d < 10 → 1 ≤ v → 10 * v + d ≤ most → ⊥) → Fault (number least most stop) (decimal v ++ (b ∷ r)) (length (decimal v))
  number_fault v b r l m s n = record {
    near = (v, (l, m));
    goes = subst (λ (k : ℕ). Parts (decimal v ++ (stop ∷ [])) (decimal v ++ (b ∷ r)) k) (omega arith) (parts_behind (decimal v) (here s));
    others = λ t. by t.0 t.1.1 (way (decimal t.0) (decimal v));
  }
    where
      at_end_lem : Within (decimal v ++ (stop ∷ [])) (decimal v ++ (b ∷ r)) (length (decimal v))
      at_end_lem = record { at = length (decimal v) + 0; early = omega arith; parts = parts_behind (decimal v) (here s) }

      by : (x : ℕ) → x ≤ most → Way (decimal x) (decimal v) → Within (decimal x ++ (stop ∷ [])) (decimal v ++ (b ∷ r)) (length (decimal v))
      by x k (same e) = subst (λ (w : List ℕ). Within (w ++ (stop ∷ [])) (decimal v ++ (b ∷ r)) (length (decimal v))) (sym e) at_end_lem
      by x k (part q h) = record { at = q; early = omega (arith, parts_in_right h); parts = parts_more (stop ∷ []) (parts_before (b ∷ r) h) }
      by x k (longer d t e) =
          let o = digit_behind x v d t e in
          let f : d ≡ b → ⊥ = λ z. n (d - 48) (omega (arith, o)) (omega (arith, o)) o.2 (omega (arith, o)) in
          record {
            at = length (decimal v) + 0;
            early = omega arith;
            parts = subst (λ (w : List ℕ). Parts w (decimal v ++ (b ∷ r)) (length (decimal v) + 0))
                (sym (append_assoc (decimal v) (d ∷ t) (stop ∷ [])) ∙ ap (λ (w : List ℕ). w ++ (stop ∷ [])) (sym e))
                (parts_behind (decimal v) (here f));
          }
      by x k (shorter d t e) =
          let o = digits_at (decimal x) d t (subst Digits e (decimal_digits v)) in
          let f : stop ≡ d → ⊥ = λ z. omega (arith, o) in
          record {
            at = length (decimal x) + 0;
            early = omega (arith, ap length e, length-append (decimal x) (d ∷ t));
            parts = subst (λ (w : List ℕ). Parts (decimal x ++ (stop ∷ [])) w (length (decimal x) + 0))
                (sym (append_assoc (decimal x) (d ∷ t) (b ∷ r)) ∙ ap (λ (w : List ℕ). w ++ (b ∷ r)) (sym e))
                (parts_behind (decimal x) (here f));
          }

  -- the fault at the first byte: no digit, or a 0 where 0 is out of range
  pub number_first : (b : ℕ) (r : List ℕ) → least ≤ 1 → least ≤ most → ((d : ℕ) → b ≡ 48 + d → d < 10 → least ≤ d → ⊥)
      → Fault (number least most stop) (b ∷ r) zero
  number_first b r l m n = record { near = (least, (omega arith, m)); goes = begins least (omega arith); others = λ t. record { at = zero; early = omega arith; parts = begins t.0 t.1.0 } }
    where
      other : (x : ℕ) → least ≤ x → (x < 1) ⊎ (1 ≤ x) → (first x).lead ≡ b → ⊥
      other x k (inl o) z = n ((first x).lead - 48) (omega (arith, (first x).low)) (omega (arith, (first x).high, (first x).low)) (omega arith)
      other x k (inr o) z = n ((first x).lead - 48) (omega (arith, (first x).low)) (omega (arith, (first x).high, (first x).low)) (omega (arith, (first x).no_zero o))

      begins : (x : ℕ) → least ≤ x → Parts (decimal x ++ (stop ∷ [])) (b ∷ r) zero
      begins x k = subst (λ (w : List ℕ). Parts (w ++ (stop ∷ [])) (b ∷ r) zero) (sym (first x).is) (here (other x k (lt_or_ge x 1)))

  pub number_plain : Plain (number least most stop)
  number_plain = record {
    apart = λ x y. by x y (way (decimal x.0) (decimal y.0));
    small = λ x. small_both (small_digits (decimal_digits x.0)) (more {b = stop} (omega arith) none);
  }
    where
      ahead : (x y d : ℕ) (t : List ℕ) → decimal x ≡ decimal y ++ (d ∷ t) → Parts (decimal x ++ (stop ∷ [])) (decimal y ++ (stop ∷ [])) (length (decimal y) + 0)
      ahead x y d t e =
          let o = digits_at (decimal y) d t (subst Digits e (decimal_digits x)) in
          let f : d ≡ stop → ⊥ = λ z. omega (arith, o) in
          subst (λ (w : List ℕ). Parts w (decimal y ++ (stop ∷ [])) (length (decimal y) + 0))
          (sym (append_assoc (decimal y) (d ∷ t) (stop ∷ [])) ∙ ap (λ (w : List ℕ). w ++ (stop ∷ [])) (sym e))
          (parts_behind (decimal y) (here f))

      by : (x y : (n : ℕ) × ((least ≤ n) × (n ≤ most))) → Way (decimal x.0) (decimal y.0)
          → (x ≡ y) ⊎ ((k : ℕ) × Parts (decimal x.0 ++ (stop ∷ [])) (decimal y.0 ++ (stop ∷ [])) k)
      by x y (same e) =
          inl (Σ_prop_path (λ (n : ℕ). ×_prop (le_prop {n = least} {m = n}) (le_prop {n = n} {m = most})) {u = x} {v = y}
          (sym (value_decimal x.0) ∙ ap (value 0) e ∙ value_decimal y.0))
      by x y (part k h) = inr (k, parts_more (stop ∷ []) (parts_before (stop ∷ []) h))
      by x y (longer d t e) = inr (length (decimal y.0) + 0, ahead x.0 y.0 d t e)
      by x y (shorter d t e) = inr (length (decimal x.0) + 0, parts_sym (ahead y.0 x.0 d t e))

-- one digit more
pub decimal_more : (v d : ℕ) → 1 ≤ v → d < 10 → decimal (10 * v + d) ≡ decimal v ++ ((48 + d) ∷ [])
decimal_more v d l h =
    let q : (10 * v + d) / 10 ≡ v = omega arith in
    let r : (10 * v + d) % 10 ≡ d = omega arith in
    decimal_by_last_digit (10 * v + d) (omega arith) ∙ ap (λ (k : ℕ). decimal k ++ ((48 + (10 * v + d) % 10) ∷ [])) q
    ∙ ap (λ (k : ℕ). decimal v ++ ((48 + k) ∷ [])) r

module _ (least most stop : ℕ) (low : stop < 48) (tiny : least ≤ 1) (wide : 9 ≤ most) where
  Going : ℕ → ℕ → Type 0
  Going v b = (48 ≤ b) × (b ≤ 57) × (1 ≤ v) × (10 * v + (b - 48) ≤ most)

  goes : (v b : ℕ) → Going v b ⊎ ((d : ℕ) → b ≡ 48 + d → d < 10 → 1 ≤ v → 10 * v + d ≤ most → ⊥)
  unfolding Going
  goes v b = by (lt_or_ge b 48) (lt_or_ge 57 b) (lt_or_ge v 1) (lt_or_ge most (10 * v + (b - 48)))
    where
      by : (b < 48) ⊎ (48 ≤ b) → (57 < b) ⊎ (b ≤ 57) → (v < 1) ⊎ (1 ≤ v) → (most < 10 * v + (b - 48)) ⊎ (10 * v + (b - 48) ≤ most)
          → Going v b ⊎ ((d : ℕ) → b ≡ 48 + d → d < 10 → 1 ≤ v → 10 * v + d ≤ most → ⊥)
      by (inl h) o p q = inr (λ d e i j k. omega arith)
      by (inr h) (inl o) p q = inr (λ d e i j k. omega arith)
      by (inr h) (inr o) (inl p) q = inr (λ d e i j k. omega arith)
      by (inr h) (inr o) (inr p) (inl q) = inr (λ d e i j k. omega arith)
      by (inr h) (inr o) (inr p) (inr q) = inl (h, o, p, q)

  -- the loop: v is read
  loop : (v : ℕ) (s : List ℕ) → Marked s → least ≤ v → v ≤ most → Outcome (number least most stop) (decimal v ++ s)
  loop v s (mark {s = r}) l h = fault (length (decimal v)) (number_fault least most stop low v 256 r l h (λ e. omega arith) (λ d e i j k. omega arith))
  loop v s (behind {b} {s = r} m) l h = step (ℕ_discrete stop b) (goes v b) λ v' l' h'. loop v' r m l' h'
    where
      step : Dec (stop ≡ b) → Going v b ⊎ ((d : ℕ) → b ≡ 48 + d → d < 10 → 1 ≤ v → 10 * v + d ≤ most → ⊥)
          → ((v' : ℕ) → least ≤ v' → v' ≤ most → Outcome (number least most stop) (decimal v' ++ r)) → Outcome (number least most stop) (decimal v ++ (b ∷ r))
      step (yes e) o k = whole (v, (l, h)) r (ap (λ (c : ℕ). decimal v ++ (c ∷ r)) (sym e) ∙ sym (append_assoc (decimal v) (stop ∷ []) r))
      step (no n) (inr o) k = fault (length (decimal v)) (number_fault least most stop low v b r l h n o)
      step (no n) (inl o) k =
          let g : (48 ≤ b) × (b ≤ 57) × (1 ≤ v) × (10 * v + (b - 48) ≤ most) = unfold Going in o in
          let c : 48 + (b - 48) ≡ b = omega (arith, g) in
          subst (Outcome (number least most stop))
          (ap (λ (w : List ℕ). w ++ r) (decimal_more v (b - 48) g.2 (omega (arith, g))) ∙ append_assoc (decimal v) ((48 + (b - 48)) ∷ []) r
          ∙ ap (λ (z : ℕ). decimal v ++ (z ∷ r)) c)
          (k (10 * v + (b - 48)) (omega (arith, g)) g.3)

  pub number_reads : Reads (number least most stop)
  number_reads s (mark {s = r}) = fault zero (number_first least most stop low 256 r tiny (omega arith) (λ d e i j. omega arith))
  number_reads s (behind {b} {s = r} m) = by b r m (lt_or_ge b (48 + least)) (lt_or_ge 57 b)
    where
      by : (b : ℕ) (r : List ℕ) → Marked r → (b < 48 + least) ⊎ (48 + least ≤ b) → (57 < b) ⊎ (b ≤ 57) → Outcome (number least most stop) (b ∷ r)
      by b r m (inl h) o = fault zero (number_first least most stop low b r tiny (omega arith) (λ d e i j. omega arith))
      by b r m (inr h) (inl o) = fault zero (number_first least most stop low b r tiny (omega arith) (λ d e i j. omega arith))
      by b r m (inr h) (inr o) =
          let c : 48 + (b - 48) ≡ b = omega arith in
          subst (Outcome (number least most stop)) (ap (λ (w : List ℕ). w ++ r) (decimal_below_ten (b - 48) (omega arith)) ∙ ap (λ (z : ℕ). z ∷ r) c)
          (loop (b - 48) r m (omega arith) (omega arith))

-- an offset: the sign tells the two apart
pub offset_plain : (stop : ℕ) → stop < 48 → Plain (offset stop)
offset_plain stop low =
    alt_plain (number 0 127 stop) (seq (word (45 ∷ [])) λ _. number 1 128 stop) (number_plain 0 127 stop low)
    (seq_plain (word (45 ∷ [])) (λ _. number 1 128 stop) (word_plain (45 ∷ []) (more (omega arith) none)) λ _. number_plain 1 128 stop low)
    sign
  where
    sign : (x : (number 0 127 stop).Of) (y : (seq (word (45 ∷ [])) (λ _. number 1 128 stop)).Of)
        → (k : ℕ) × Parts ((number 0 127 stop).print x) ((seq (word (45 ∷ [])) (λ _. number 1 128 stop)).print y) k
    sign x y =
        let f : (first x.0).lead ≡ 45 → ⊥ = λ e. omega (arith, (first x.0).low) in
        (zero, subst (λ (w : List ℕ). Parts (w ++ (stop ∷ [])) (45 ∷ (decimal y.1.0 ++ (stop ∷ []))) zero) (sym (first x.0).is) (here f))

pub offset_reads : (stop : ℕ) → stop < 48 → Reads (offset stop)
offset_reads stop low =
    alt_reads (number 0 127 stop) (seq (word (45 ∷ [])) λ _. number 1 128 stop) (number_reads 0 127 stop low (omega arith) (omega arith))
    (seq_reads (word (45 ∷ [])) (λ _. number 1 128 stop) (word_plain (45 ∷ []) (more (omega arith) none)) (λ _. (1, (omega arith, omega arith)))
    (word_reads (45 ∷ []) (more (omega arith) none)) λ _. number_reads 1 128 stop low (omega arith) (omega arith))

-- hex digits
pub hex_low : (d : ℕ) → d < 10 → hex_digit_of d ≡ 48 + d
unfolding hex_digit_of
hex_low d h = rw (lt-ltb d 10 h)

pub hex_high : (d : ℕ) → 10 ≤ d → hex_digit_of d ≡ 87 + d
unfolding hex_digit_of
hex_high d h = rw (le-ltb d 10 h)

-- what is known of the byte of a digit
pub hex_known : (d : ℕ) → d < 16 → ((d < 10) × (hex_digit_of d ≡ 48 + d)) ⊎ ((10 ≤ d) × (hex_digit_of d ≡ 87 + d))
hex_known d l = by (lt_or_ge d 10)
  where
    by : (d < 10) ⊎ (10 ≤ d) → ((d < 10) × (hex_digit_of d ≡ 48 + d)) ⊎ ((10 ≤ d) × (hex_digit_of d ≡ 87 + d))
    by (inl h) = inl (h, hex_low d h)
    by (inr h) = inr (h, hex_high d h)

pub hex_plain : Plain hex_one
hex_plain = record { apart = λ x y. by x y (ℕ_discrete x.0 y.0); small = λ x. bytes x.0 (hex_known x.0 x.1) x.1 }
  where
    bytes : (d : ℕ) → ((d < 10) × (hex_digit_of d ≡ 48 + d)) ⊎ ((10 ≤ d) × (hex_digit_of d ≡ 87 + d)) → d < 16 → Small (hex_digit_of d ∷ [])
    bytes d (inl h) l = more {b = hex_digit_of d} (omega (arith, h.1)) none
    bytes d (inr h) l = more {b = hex_digit_of d} (omega (arith, h.1)) none

    differ : (d c : ℕ) → (d ≡ c → ⊥) → d < 16 → c < 16 → ((d < 10) × (hex_digit_of d ≡ 48 + d)) ⊎ ((10 ≤ d) × (hex_digit_of d ≡ 87 + d))
        → ((c < 10) × (hex_digit_of c ≡ 48 + c)) ⊎ ((10 ≤ c) × (hex_digit_of c ≡ 87 + c)) → hex_digit_of d ≡ hex_digit_of c → ⊥
    differ d c n l k (inl a) (inl b) e = n (omega (arith, a.1, b.1))
    differ d c n l k (inl a) (inr b) e = omega (arith, a.1, b.1, a.0, b.0)
    differ d c n l k (inr a) (inl b) e = omega (arith, a.1, b.1, a.0, b.0)
    differ d c n l k (inr a) (inr b) e = n (omega (arith, a.1, b.1))

    by : (x y : (d : ℕ) × (d < 16)) → Dec (x.0 ≡ y.0) → (x ≡ y) ⊎ ((k : ℕ) × Parts (hex_digit_of x.0 ∷ []) (hex_digit_of y.0 ∷ []) k)
    by x y (yes e) = inl (Σ_prop_path (λ (n : ℕ). le_prop {n = suc n} {m = 16}) {u = x} {v = y} e)
    by x y (no n) = inr (zero, here (differ x.0 y.0 n x.1 y.1 (hex_known x.0 x.1) (hex_known y.0 y.1)))

-- a byte that is no digit
pub hex_fault : (b : ℕ) (r : List ℕ) → ((b < 48) ⊎ (((57 < b) × (b < 97)) ⊎ (102 < b))) → Fault hex_one (b ∷ r) zero
hex_fault b r h = record { near = (0, omega arith); goes = part 0 (omega arith); others = λ x. record { at = zero; early = omega arith; parts = part x.0 x.1 } }
  where
    off : (d : ℕ) → d < 16 → ((b < 48) ⊎ (((57 < b) × (b < 97)) ⊎ (102 < b))) → ((d < 10) × (hex_digit_of d ≡ 48 + d)) ⊎ ((10 ≤ d) × (hex_digit_of d ≡ 87 + d)) → hex_digit_of d ≡ b → ⊥
    off d l (inl o) (inl a) e = omega (arith, a.0, a.1)
    off d l (inl o) (inr a) e = omega (arith, a.0, a.1)
    off d l (inr (inl o)) (inl a) e = omega (arith, a.0, a.1, o)
    off d l (inr (inl o)) (inr a) e = omega (arith, a.0, a.1, o)
    off d l (inr (inr o)) (inl a) e = omega (arith, a.0, a.1)
    off d l (inr (inr o)) (inr a) e = omega (arith, a.0, a.1)

    part : (d : ℕ) → d < 16 → Parts (hex_digit_of d ∷ []) (b ∷ r) zero
    part d l = here (off d l h (hex_known d l))

pub hex_reads : Reads hex_one
hex_reads s (mark {s = r}) = fault zero (hex_fault 256 r (inr (inr (omega arith))))
hex_reads s (behind {b} {s = r} m) = by b r (lt_or_ge b 48) (lt_or_ge 57 b) (lt_or_ge b 97) (lt_or_ge 102 b)
  where
    by : (b : ℕ) (r : List ℕ) → (b < 48) ⊎ (48 ≤ b) → (57 < b) ⊎ (b ≤ 57) → (b < 97) ⊎ (97 ≤ b) → (102 < b) ⊎ (b ≤ 102) → Outcome hex_one (b ∷ r)
    by b r (inl o) p q t = fault zero (hex_fault b r (inl o))
    by b r (inr o) (inr p) q t =
        let l : b - 48 < 10 = omega arith in
        let c : 48 + (b - 48) ≡ b = omega arith in
        whole (b - 48, omega arith) r (ap (λ (z : ℕ). z ∷ r) (sym c ∙ sym (hex_low (b - 48) l)))
    by b r (inr o) (inl p) (inl q) t = fault zero (hex_fault b r (inr (inl (p, q))))
    by b r (inr o) (inl p) (inr q) (inl t) = fault zero (hex_fault b r (inr (inr t)))
    by b r (inr o) (inl p) (inr q) (inr t) =
        let l : 10 ≤ b - 87 = omega arith in
        let c : 87 + (b - 87) ≡ b = omega arith in
        whole (b - 87, omega arith) r (ap (λ (z : ℕ). z ∷ r) (sym c ∙ sym (hex_high (b - 87) l)))

-- n times
pub times_plain : (n : ℕ) (F : Form) → Plain F → Plain (times n F)
times_plain zero F f = word_plain [] none
times_plain (suc n) F f = seq_plain F (λ _. times n F) f λ _. times_plain n F f

pub times_some : (n : ℕ) (F : Form) → F.Of → (times n F).Of
times_some zero F x = tt
times_some (suc n) F x = (x, times_some n F x)

pub times_reads : (n : ℕ) (F : Form) → Plain F → F.Of → Reads F → Reads (times n F)
times_reads zero F f x a = word_reads [] none
times_reads (suc n) F f x a = seq_reads F (λ _. times n F) f (λ _. times_some n F x) a λ _. times_reads n F f x a
