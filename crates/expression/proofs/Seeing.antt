-- The rows of a scan before anything is noted: filled with the streams' types one after the other, and what stands in them.
-- Assumes nothing.
use mathlib.Core.Path.{◌≡◌, ap, sym, ◌∙◌}
use mathlib.Core.Logic.{◌⊎◌, inl, inr}
use mathlib.Core.List.{List, [], ◌∷◌, ◌++◌, map, map-append, append_assoc}
use Prim.Native.Nat.{ℕ, suc, ◌+◌, ◌-◌, ◌≤◌, ◌<◌}
use native.Mathlib.Omega.{arith}
use native.Mathlib.Numerals.{add-one}
use lib.ListN.{length, get_or, set, take, replicate, length-append, length-map, length-replicate, length-take, get_or-replicate, get_or-append, get_or-map, get_or-eq_default}
use lib.Seq.{take-suc, length-take-le, get_or-append-add, set_at, get_or_at}
use Rattle.limits.specs.Limits.{most_streams}
use Rattle.basis.specs.Rows.{put}
use Rattle.basis.proofs.Firsts.{get_d_any}
use Rattle.basis.proofs.Tests.{lt_or_ge}
use Rattle.expression.specs.Seen.{seen_type, seen_rise, seen_fall, no_type, Seen, Unnoted, fresh_row, unseen, fresh}

-- as many rows as are left, the first of them alone
rest_of : (v : ℕ) → v < most_streams → replicate (most_streams - v) (fresh_row no_type) ≡ fresh_row no_type ∷ replicate (most_streams - (v + 1)) (fresh_row no_type)
rest_of v h = ap (λ (n : ℕ). replicate n (fresh_row no_type)) (let e : most_streams - v ≡ suc (most_streams - (v + 1)) = omega arith in e)

module _ (types : List ℕ) (long : length types ≡ most_streams) where
  taken : (v : ℕ) → v ≤ most_streams → length (map fresh_row (take v types)) ≡ v
  taken v h = length-map (take v types) fresh_row ∙ length-take-le v types (omega arith)

  fresh_at : (v : ℕ) → v ≤ most_streams → fresh (take v types) ≡ map fresh_row (take v types) ++ replicate (most_streams - v) (fresh_row no_type)
  unfolding fresh
  fresh_at v h = ap (λ (n : ℕ). map fresh_row (take v types) ++ replicate (most_streams - n) (fresh_row no_type)) (length-take-le v types (omega arith))

  pub see_start : {seen : List (List ℕ)} → seen ≡ unseen → seen ≡ fresh (take 0 types)
  unfolding fresh
  see_start e = e

  pub see_more : {v x : ℕ} {seen : List (List ℕ)} → v < most_streams → x ≡ get_or types v 0 → seen ≡ fresh (take v types) → put seen v seen_type x ≡ fresh (take (v + 1) types)
  see_more {v} {x} {seen} h e s = rw is (ap (λ (r : List ℕ). set (rows ++ fresh_row no_type ∷ rest) v (set r seen_type x)) (get_or_at rows (fresh_row no_type) rest [] v n)
      ∙ set_at rows (fresh_row no_type) rest (fresh_row x) v n ∙ sym (append_assoc rows (fresh_row x ∷ []) rest) ∙ ap (λ (l : List (List ℕ)). l ++ rest) one_more ∙ sym (fresh_at (v + 1) (omega arith)))
    where
      rows : List (List ℕ)
      rows = map fresh_row (take v types)

      rest : List (List ℕ)
      rest = replicate (most_streams - (v + 1)) (fresh_row no_type)

      n : length rows ≡ v
      n = taken v (omega arith)

      is : seen ≡ rows ++ fresh_row no_type ∷ rest
      is = s ∙ fresh_at v (omega arith) ∙ ap (λ (l : List (List ℕ)). rows ++ l) (rest_of v h)

      one_more : rows ++ fresh_row x ∷ [] ≡ map fresh_row (take (v + 1) types)
      one_more = ap (λ (t : ℕ). rows ++ fresh_row t ∷ []) e ∙ sym (map-append fresh_row (take v types) (get_or types v 0 ∷ [])) ∙ rw add-one (ap (map fresh_row) (sym (take-suc types v 0 (omega arith))))

-- what stands in the row of a stream
module _ (ts : List ℕ) (few : length ts ≤ most_streams) where
  row_by : (v : ℕ) → v < most_streams → (v < length ts) ⊎ (length ts ≤ v) → get_or (fresh ts) v [] ≡ fresh_row (get_or ts v no_type)
  unfolding fresh
  row_by v h (inl l) =
      let n : v < length (map fresh_row ts) = omega (arith, l, length-map ts fresh_row) in
      get_or-append (map fresh_row ts) _ [] v n ∙ get_d_any (map fresh_row ts) v [] (fresh_row no_type) n ∙ get_or-map fresh_row ts v no_type
  row_by v h (inr l) =
      ap (λ (n : ℕ). get_or (map fresh_row ts ++ replicate (most_streams - length ts) (fresh_row no_type)) n []) (let e : v ≡ length (map fresh_row ts) + (v - length ts) = omega (arith, length-map ts fresh_row) in e)
      ∙ get_or-append-add (map fresh_row ts) _ (v - length ts) []
      ∙ get_or-replicate (most_streams - length ts) (v - length ts) (fresh_row no_type) [] (omega arith)
      ∙ sym (ap fresh_row (get_or-eq_default ts no_type l))

  row_of : (v : ℕ) → v < most_streams → get_or (fresh ts) v [] ≡ fresh_row (get_or ts v no_type)
  row_of v h = row_by v h (lt_or_ge v (length ts))

  fresh_long : length (fresh ts) ≡ most_streams
  unfolding fresh
  fresh_long = length-append (map fresh_row ts) _ ∙ omega (arith, length-map ts fresh_row, length-replicate (most_streams - length ts) (fresh_row no_type))

-- rows of streams that are of a type each
pub fresh_seen :
    (types : List ℕ) (streams : ℕ) {seen : List (List ℕ)} → streams ≤ most_streams → seen ≡ fresh (take streams types) →
    ((v : ℕ) → v < length (take streams types) → get_or (take streams types) v 0 < no_type) → Seen (take streams types) seen × Unnoted seen
fresh_seen types streams h e t = rw e (
  record {
    shape = record { long = fresh_long ts few; wide = λ v l. ap length (row_of ts few v l) };
    few = few;
    typed = t;
    types = λ v l. ap (λ (r : List ℕ). get_or r seen_type 0) (row_of ts few v (omega (arith, l, few))) ∙ get_d_any ts v no_type 0 l;
    past = λ v l k. ap (λ (r : List ℕ). get_or r seen_type 0) (row_of ts few v k) ∙ get_or-eq_default ts no_type l;
  },
  λ v l. (ap (λ (r : List ℕ). get_or r seen_rise 0) (row_of ts few v l), ap (λ (r : List ℕ). get_or r seen_fall 0) (row_of ts few v l)),
)
  where
    ts : List ℕ
    ts = take streams types

    few : length ts ≤ most_streams
    few = omega (arith, length-take streams types)
