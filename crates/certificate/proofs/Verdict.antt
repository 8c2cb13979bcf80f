-- The verdict on a record's numbers: yes exactly where they are the announced ones, and then the order within a turn.
-- Assumes nothing.
use mathlib.Core.Path.{◌≡◌, refl, sym, ap, ◌∙◌}
use mathlib.Core.Bool.{Bool, true, false}
use mathlib.Core.Logic.{inl, inr, ⊎_elim}
use mathlib.Core.List.{List}
use Prim.Native.Nat.{ℕ, ◌+◌, ◌≤◌, ◌<◌}
use native.Mathlib.Omega.{arith}
use native.Mathlib.Decide.{dec_lt}
use lib.ListN.{get_or}
use Rattle.basis.specs.Firsts.{of}
use Rattle.limits.specs.Limits.{most_streams}
use Rattle.basis.specs.Edges.{Edge, Among}
use Rattle.walks.specs.Walks.{Within, Kept, Right}
use Rattle.certificate.specs.Certificate.{Ordered, Settled}
use Rattle.certificate.specs.Tally.{bit, Most, Tally, Lacks}
use Rattle.certificate.specs.Line.{Lined, Stuck, InLine, Agree, Amiss}
use Rattle.walks.proofs.Schedule.{slack_of_edge, schedule}
use Rattle.walks.proofs.Unique.{kept_one}
use Rattle.certificate.proofs.Certificate.{Reached, Ranked, sound_below, sound_ahead, tight_reaches, none_stuck}
use Rattle.certificate.proofs.Mask.{some_bit, has_not_zero}

-- the largest slack gives the kept number, and no other
pub kept_of : (es : List Edge) (L : ℕ → ℕ) (v m n : ℕ) → Most (Among es) L v m → n ≡ m + 1 → Kept (Among es) L v n
kept_of es L v m n x e = record {
  some = omega arith;
  all = λ y k h. omega (arith, x.all y k h);
  real = ⊎_elim (λ z. inl (omega arith)) (λ r. inr (r.0, r.1, r.2, omega (arith, r.3))) x.real;
}

pub kept_is : (es : List Edge) (L : ℕ → ℕ) (v m n : ℕ) → Most (Among es) L v m → Kept (Among es) L v n → n ≡ m + 1
kept_is es L v m n x y = kept_one y (kept_of es L v m (m + 1) x refl)

-- the place of a stream in the line is its rank
module _ {t : List ℕ} {s : ℕ} {order : List ℕ} (x : Lined t s order) where
  pick : (y : ℕ) → Dec (y < s) → ℕ
  pick y (yes l) = (x.placed y l).0
  pick y (no l) = 0

  rank_of : ℕ → ℕ
  rank_of y = pick y (dec_lt y s)

  pick_is : (y : ℕ) (d : Dec (y < s)) → y < s → (pick y d < s) × (get_or order (pick y d) 0 ≡ y)
  unfolding pick
  pick_is y (yes l) h = ((x.placed y l).1, (x.placed y l).2)
  pick_is y (no l) h = absurd (l h)

  rank_is : (y : ℕ) → y < s → (rank_of y < s) × (get_or order (rank_of y) 0 ≡ y)
  unfolding rank_of
  rank_is y h = pick_is y (dec_lt y s) h

  alone : (i j : ℕ) → i < s → j < s → get_or order i 0 ≡ get_or order j 0 → i ≡ j
  alone i j h k e = go (dec_lt j i) (dec_lt i j)
    where
      go : Dec (j < i) → Dec (i < j) → i ≡ j
      go (yes l) d = absurd (x.once i j h l e)
      go (no l) (yes r) = absurd (x.once j i k r (sym e))
      go (no l) (no r) = omega arith

  back_is : (i : ℕ) → i < s → rank_of (get_or order i 0) ≡ i
  back_is i h = let r = rank_is (get_or order i 0) (x.inside i h) in alone (rank_of (get_or order i 0)) i r.0 h r.1

  falls : (y v : ℕ) → y < s → v < s → bit (get_or t y 0) v ≡ 1 → rank_of v < rank_of y
  falls y v h k b =
      let r = rank_is y h in
      let q = rank_is v k in
      let p = x.before (rank_of y) v r.0 k (ap (λ (a : ℕ). bit (get_or t a 0) v) r.1 ∙ b) in
      let e = alone (rank_of v) p.0 q.0 (omega (arith, p.1, r.0)) (q.1 ∙ sym p.2) in
      omega (arith, p.1)

-- the verdict, once every edge is noted
module _ (es : List Edge) (s : ℕ) (s32 : s ≤ most_streams) (ends : Within (Among es) s) (t m look kept : List ℕ) (x : Tally (Among es) (of look) t m) where
  module _ (a : Agree t m look kept s) where
    reached' : Reached (Among es) s (of look)
    reached' y l = ⊎_elim inl (λ n. let b = some_bit (get_or t y 0) n in inr (b.0, x.bits y b.0 (omega arith) b.1)) (a.reached y l)

    pub settle_yes : (order : List ℕ) → Lined t s order → Ordered (Among es) s (of look) (of kept) order
    settle_yes order line = record {
      right = record {
        below = sound_below (Among es) (of look) x.slack (rank_of line) falls';
        ahead = sound_ahead (Among es) (of look) x.slack (rank_of line) falls' s reached' ends;
        keeps = λ v l. kept_of es (of look) v (get_or m v 0) (get_or kept v 0) (x.mosts v (omega arith)) (a.keeps v l);
      };
      schedule = record {
        rank = rank_of line;
        few = λ v l. (rank_is line v l).0;
        slack = x.slack;
        falls = λ y v k e h. falls' y v (record { k = k; edge = e; tight = h });
      };
      placed = λ v l. (rank_is line v l).1;
      inside = line.inside;
      back = back_is line;
    }
      where
        falls' : Ranked (Among es) (of look) (rank_of line)
        falls' y v z = let e = ends y v z.k z.edge in falls line y v e.0 e.1 (x.tights y v (omega (arith, e.0)) z)

  pub settle_amiss : Amiss t m look kept s → Right (Among es) s (of look) (of kept) → ⊥
  settle_amiss z r = ⊎_elim
      (λ n. n (kept_is es (of look) z.v (get_or m z.v 0) (get_or kept z.v 0) (x.mosts z.v (omega (arith, z.inside))) (r.keeps z.v z.inside)))
      (λ n. ⊎_elim (λ e. n.0 e) (λ q. has_not_zero (get_or t z.v 0) q.0 (x.tights z.v q.0 (omega (arith, z.inside)) q.1) n.1)
      (tight_reaches ends r.ahead z.v z.inside))
      z.why

  pub settle_stuck : Stuck t s → Right (Among es) s (of look) (of kept) → ⊥
  settle_stuck z r =
      let h = schedule es s (of look) ends r.below r.ahead in
      none_stuck (λ y v t. h.falls y v t.k t.edge t.tight) (λ y. (y < s) × (bit z.rest y ≡ 1))
      (λ y u. let q = z.on y u.0 u.1 in let b = x.bits y q.0 (omega (arith, u.0)) q.1 in (q.0, b, ((ends y q.0 b.k b.edge).1, q.2)))
      (h.rank z.y + 1) z.y (omega arith) (z.inside, z.is)

  pub settle_line : Agree t m look kept s → (b : Bool) (order : List ℕ) → InLine b t s order → Settled b (Among es) s (of look) (of kept) order
  settle_line a true order x = settle_yes a order x
  settle_line a false order x = settle_stuck x

-- an edge without slack
pub settle_lacks : (es : List Edge) (s : ℕ) → Within (Among es) s → (look kept : ℕ → ℕ) → Lacks look es → Right (Among es) s look kept → ⊥
settle_lacks es s ends look kept x r = omega (arith, x.lacks, slack_of_edge ends r.ahead x.y x.v x.k x.has)
