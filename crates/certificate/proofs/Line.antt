-- Laws of the line of streams: how it grows, and when it is stuck.
-- Assumes nothing.
use mathlib.Core.Path.{◌≡◌, refl, sym, ap, ap₂, ◌∙◌}
use mathlib.Core.Logic.{◌⊎◌, inl, inr, ⊎_elim}
use mathlib.Core.List.{List}
use Rattle.std.specs.Prelude.{Some, None}
use Prim.Native.Nat.{ℕ, zero, suc, ◌+◌, ◌^◌, ◌≤◌, ◌<◌}
use native.Mathlib.Omega.{arith}
use native.Mathlib.Nat.{not-suc-le-zero, le_of_suc-le-suc}
use native.Mathlib.Decide.{ℕ_discrete}
use lib.ListN.{length, get_or, set, length-set}
use lib.Seq.{get_or-set_same, get_or-set_other}
use lib.Bits.{bit_xor}
use Rattle.limits.specs.Limits.{most_streams}
use Rattle.basis.proofs.Tests.{lt_or_eq}
use Rattle.certificate.specs.Tally.{bit}
use Rattle.certificate.specs.Line.{Ready, Lined, Stuck}
use Rattle.certificate.proofs.Mask.{bit_lt, and_none, and_some, out_own, out_other, one_at, one_is}

-- how many of the first s are in m
unfoldable pub left : ℕ → ℕ → ℕ
left zero m = 0
left (suc s) m = bit m s + left s m

left_same : (s m n : ℕ) → ((v : ℕ) → v < s → bit m v ≡ bit n v) → left s m ≡ left s n
unfolding left
left_same zero m n h = refl
left_same (suc s) m n h = ap₂ ◌+◌ (h s (omega arith)) (left_same s m n (λ v l. h v (omega arith)))

left_out : (s m y : ℕ) → y < s → bit m y ≡ 1 → left s m ≡ suc (left s (bit_xor m (2 ^ y)))
unfolding left
left_out zero m y h e = absurd (not-suc-le-zero h)
left_out (suc s) m y h e = ⊎_elim
    (λ p. omega (arith, left_out s m y p e, out_other m y s (λ q. less p q)))
    (λ q. let q' : s ≡ y = sym q in rw q' (omega (arith, e, out_own m y e, left_same y m (bit_xor m (2 ^ y)) (λ v l. sym (out_other m y v (λ r. less l (sym r)))))))
    (lt_or_eq (le_of_suc-le-suc h))
  where
    less : {a b : ℕ} → a < b → b ≡ a → ⊥
    less p q = omega arith

left_none : (s m : ℕ) → left s m ≡ 0 → (v : ℕ) → v < s → bit m v ≡ 0
unfolding left
left_none zero m e v h = absurd (not-suc-le-zero h)
left_none (suc s) m e v h = ⊎_elim (λ p. left_none s m (omega arith) v p) (λ q. rw q (omega arith)) (lt_or_eq (le_of_suc-le-suc h))

left_some : (s m : ℕ) → (left s m ≡ 0 → ⊥) → (v : ℕ) × (v < s) × (bit m v ≡ 1)
unfolding left
left_some zero m n = absurd (n refl)
left_some (suc s) m n = go (ℕ_discrete (bit m s) 0) (left_some s m)
  where
    go : Dec (bit m s ≡ 0) → ((left s m ≡ 0 → ⊥) → (v : ℕ) × (v < s) × (bit m v ≡ 1)) → (v : ℕ) × (v < suc s) × (bit m v ≡ 1)
    go (yes e) ih = let r = ih (λ q. n (omega arith)) in (r.0, omega (arith, r.1), r.2)
    go (no e) ih = (s, omega arith, omega (arith, bit_lt m s))

left_all : (s m : ℕ) → ((v : ℕ) → v < s → bit m v ≡ 1) → left s m ≡ s
unfolding left
left_all zero m h = refl
left_all (suc s) m h = omega (arith, h s (omega arith), left_all s m (λ v l. h v (omega arith)))

-- the line so far: the streams that are not in the rest
pub record Way (tight : List ℕ) (s n rest : ℕ) (order : List ℕ) : Type 0 where
  pub within : n ≤ s
  pub long : length order ≡ most_streams
  pub closed : (i : ℕ) → i < n → (get_or order i 0 < s) × (bit rest (get_or order i 0) ≡ 0)
  pub placed : (y : ℕ) → y < s → bit rest y ≡ 0 → (i : ℕ) × (i < n) × (get_or order i 0 ≡ y)
  pub before : (i v : ℕ) → i < n → v < s → bit (get_or tight (get_or order i 0) 0) v ≡ 1 → (j : ℕ) × (j < i) × (get_or order j 0 ≡ v)
  pub once : (i j : ℕ) → i < n → j < i → get_or order i 0 ≡ get_or order j 0 → ⊥
  pub count : n + left s rest ≡ s

module _ (tight : List ℕ) (s : ℕ) where
  pub way_start : (rest : ℕ) (order : List ℕ) → length order ≡ most_streams → ((v : ℕ) → v < s → bit rest v ≡ 1) → Way tight s 0 rest order
  way_start o order e h = record {
    within = omega arith;
    long = e;
    closed = λ i l. absurd (not-suc-le-zero l);
    placed = λ y l z. absurd (omega (arith, h y l));
    before = λ i v l. absurd (not-suc-le-zero l);
    once = λ i j l. absurd (not-suc-le-zero l);
    count = omega (arith, left_all s o h);
  }

  module _ (n o : ℕ) (order : List ℕ) (w : Way tight s n o order) where
    pub way_end : s ≤ n → Lined tight s order
    way_end h = record {
      inside = λ i l. (w.closed i (omega arith)).0;
      placed = λ y l. let p = w.placed y l (left_none s o (omega (arith, w.count)) y l) in (p.0, omega (arith, p.1, w.within), p.2);
      before = λ i v l. w.before i v (omega arith);
      once = λ i j l. w.once i j (omega arith);
    }

    pub way_stuck : n < s → Ready tight o s None → Stuck tight s
    way_stuck h r =
        let q = left_some s o (λ e. let c = w.count in omega arith) in
        record { rest = o; y = q.0; inside = q.1; is = q.2; on = λ y l b. and_some (get_or tight y 0) o (r y l b) }

    module _ (y : ℕ) (s32 : s ≤ most_streams) (r : Ready tight o s (Some y)) where
      order' : List ℕ
      order' = set order n y

      o' : ℕ
      o' = bit_xor o (2 ^ y)

      is_open : bit o y ≡ 1
      is_open = r.1

      room : n < s
      room = omega (arith, w.count, left_out s o y r.0 is_open)

      own : get_or order' n 0 ≡ y
      unfolding order'
      own = get_or-set_same order n y 0 (omega (arith, w.long, room))

      old : (i : ℕ) → i < n → get_or order' i 0 ≡ get_or order i 0
      unfolding order'
      old i h = get_or-set_other order n i y 0 (λ e. omega arith)

      -- an old one is not y
      differs : (i : ℕ) → i < n → get_or order i 0 ≡ y → ⊥
      differs i h e = let c = (w.closed i h).1 in omega (arith, is_open, ap (bit o) e)

      stays : (v : ℕ) → (v ≡ y → ⊥) → bit o' v ≡ bit o v
      unfolding o'
      stays v h = out_other o y v h

      closed' : (i : ℕ) → (i < n) ⊎ (i ≡ n) → (get_or order' i 0 < s) × (bit o' (get_or order' i 0) ≡ 0)
      unfolding o'
      closed' i (inl h) = rw (old i h) ((w.closed i h).0, stays (get_or order i 0) (differs i h) ∙ (w.closed i h).1)
      closed' i (inr e) = rw (e, own) (r.0, out_own o y is_open)

      placed' : (v : ℕ) → v < s → bit o' v ≡ 0 → Dec (v ≡ y) → (i : ℕ) × (i < n + 1) × (get_or order' i 0 ≡ v)
      placed' v h e (yes q) = (n, omega arith, own ∙ sym q)
      placed' v h e (no q) = let p = w.placed v h (sym (stays v q) ∙ e) in (p.0, omega (arith, p.1), old p.0 p.1 ∙ p.2)

      before' : (i v : ℕ) → (i < n) ⊎ (i ≡ n) → v < s → bit (get_or tight (get_or order' i 0) 0) v ≡ 1 → (j : ℕ) × (j < i) × (get_or order' j 0 ≡ v)
      before' i v (inl h) k b =
          let p = w.before i v h k (ap (λ (x : ℕ). bit (get_or tight x 0) v) (sym (old i h)) ∙ b) in
          (p.0, p.1, old p.0 (omega (arith, p.1)) ∙ p.2)
      before' i v (inr e) k b = rw e (go (ℕ_discrete (bit o v) 0))
        where
          b' : bit (get_or tight y 0) v ≡ 1
          b' = ap (λ (x : ℕ). bit (get_or tight x 0) v) (sym (ap (λ (x : ℕ). get_or order' x 0) e ∙ own)) ∙ b

          go : Dec (bit o v ≡ 0) → (j : ℕ) × (j < n) × (get_or order' j 0 ≡ v)
          go (yes z) = let p = w.placed v k z in (p.0, p.1, old p.0 p.1 ∙ p.2)
          go (no z) = absurd (and_none (get_or tight y 0) o v r.2 b' (omega (arith, bit_lt o v)))

      once' : (i j : ℕ) → (i < n) ⊎ (i ≡ n) → j < i → get_or order' i 0 ≡ get_or order' j 0 → ⊥
      once' i j (inl h) k e = w.once i j h k (sym (old i h) ∙ e ∙ old j (omega arith))
      once' i j (inr q) k e = let k' : j < n = omega arith in differs j k' (sym (old j k') ∙ sym e ∙ ap (λ (x : ℕ). get_or order' x 0) q ∙ own)

      upto : (i : ℕ) → i < n + 1 → (i < n) ⊎ (i ≡ n)
      upto i h = lt_or_eq (omega arith)

      pub way_step : Way tight s (n + 1) (bit_xor o (one_at y)) (set order n y)
      unfolding order' o'
      way_step = rw (one_is y (omega arith)) (record {
        within = omega (arith, room);
        long = length-set order n y ∙ w.long;
        closed = λ i h. closed' i (upto i h);
        placed = λ v h e. placed' v h e (ℕ_discrete v y);
        before = λ i v h k b. before' i v (upto i h) k b;
        once = λ i j h k e. once' i j (upto i h) k e;
        count = omega (arith, w.count, left_out s o y r.0 is_open);
      })
