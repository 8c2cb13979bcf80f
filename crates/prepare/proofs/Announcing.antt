-- Numbers are a record's of an accepted table exactly where they are those that the check announces of its bytes (document 01, "What the
-- check announces" and refusal 10). Assumes nothing.
use Prim.Native.Nat.{ℕ, ◌≤◌, ◌<◌}
use mathlib.Core.Path.{◌≡◌, refl, sym, ap, subst, ◌∙◌}
use mathlib.Core.Bool.{Bool, true, false, cond}
use mathlib.Core.List.{List}
use mathlib.Core.Logic.{◌⊎◌, inl, inr, ⊎_elim}
use native.Mathlib.Omega.{arith}
use borrow.Author.Tests.{lt-ltb, le-ltb, le-leb, leb-true}
use lib.Dec.{leb}
use lib.ListN.{length, get_or, get_or-eq_default}
use lib.Seq.{ext_get_or}
use Rattle.basis.specs.Sums.{total, most}
use Rattle.basis.specs.Edges.{Among}
use Rattle.basis.proofs.Sums.{total_same}
use Rattle.basis.proofs.Tests.{lt_or_ge}
use Rattle.walks.specs.Walks.{Within, Kept, Right}
use Rattle.walks.specs.Longest.{square_for, loops_below_of, look_of, place_of, kept_from}
use Rattle.walks.proofs.Announced.{accepted_right, right_accepted, right_announced}
use Rattle.basis.specs.Firsts.{firsts, of}
use Rattle.basis.proofs.Firsts.{length_firsts, get_d_firsts}
use Rattle.table.specs.Table.{Table, Decoded, decoded, refused, decode, streams, edges}
use Rattle.table.proofs.Sound.{sound, refusal_number}
use Rattle.announce.specs.declared.Checked.{Checked}
use Rattle.announce.specs.Announced.{longest, look_ahead_of, kept_values_of, store_words, closing_turns_of, refusal, acceptance, weigh_table, after_scan, announced}
use Rattle.limits.specs.Limits.{most_streams, most_words}
use Rattle.limits.specs.Refusals.{wrong_loop, over_words}
use Rattle.store.specs.Store.{layout_of}
use Rattle.store.proofs.Layouts.{layout_words}
use Rattle.vouch.specs.Vouching.{Certified}

module _ (s : List ℕ) (t : Table) (e : decode s ≡ decoded t) where
  pub edges_within : Within (Among (edges t)) (streams t)
  edges_within y v k h = let w = (sound s e).edge_within y v k h in (w.0.1, w.1.0)

  -- "(0 past S)"
  look_past : (v : ℕ) → streams t ≤ v → look_ahead_of t v ≡ 0
  unfolding look_ahead_of look_of
  look_past v h = rw (le-ltb _ _ h)

  kept_past : (v : ℕ) → streams t ≤ v → kept_values_of t v ≡ 0
  unfolding kept_values_of
  kept_past v h = rw (le-ltb _ _ h)

  kept_below : (v : ℕ) → v < streams t → kept_from (edges t) (look_ahead_of t) v ≡ kept_values_of t v
  unfolding kept_values_of
  kept_below v h = rw (lt-ltb _ _ h)

  announced_right : loops_below_of (longest t) (streams t) ≡ true → Right (Among (edges t)) (streams t) (look_ahead_of t) (kept_values_of t)
  unfolding look_ahead_of
  announced_right h =
      let r = accepted_right (edges t) (streams t) edges_within h in
      record { below = r.below; ahead = r.ahead; keeps = λ v l. subst (λ (n : ℕ). Kept (Among (edges t)) (look_of (longest t) (streams t)) v n) (kept_below v l) (r.keeps v l) }

  -- the 32 first of the numbers are all of them
  listed : (f : ℕ → ℕ) → ((v : ℕ) → streams t ≤ v → f v ≡ 0) → f ≡ of (firsts f most_streams)
  listed f past = λ i v. at v i
    where
      go : (v : ℕ) → (v < most_streams) ⊎ (most_streams ≤ v) → f v ≡ of (firsts f most_streams) v
      go v (inl h) = sym (get_d_firsts f most_streams v 0 h)
      go v (inr h) = past v (omega (arith, (sound s e).few)) ∙ sym (get_or-eq_default (firsts f most_streams) 0 (omega (arith, length_firsts f most_streams)))

      at : (v : ℕ) → f v ≡ of (firsts f most_streams) v
      at v = go v (lt_or_ge v most_streams)

  module _ (look kept : List ℕ) where
    module _ (c : Certified t look kept) (look_long : length look ≡ most_streams) (kept_long : length kept ≡ most_streams) where
      look_at : (v : ℕ) → v < most_streams → get_or look v 0 ≡ look_ahead_of t v
      unfolding look_ahead_of
      look_at v h = ⊎_elim
          (λ l. (right_announced (edges t) (streams t) edges_within c.right v l).0)
          (λ g. c.bounded.look_past v g h ∙ sym (look_past v g))
          (lt_or_ge v (streams t))

      kept_announced : (v : ℕ) → v < streams t → get_or kept v 0 ≡ kept_from (edges t) (look_ahead_of t) v
      unfolding look_ahead_of
      kept_announced v l = (right_announced (edges t) (streams t) edges_within c.right v l).1

      kept_at : (v : ℕ) → v < most_streams → get_or kept v 0 ≡ kept_values_of t v
      kept_at v h = ⊎_elim
          (λ l. kept_announced v l ∙ kept_below v l)
          (λ g. c.bounded.kept_past v g h ∙ sym (kept_past v g))
          (lt_or_ge v (streams t))

      pub look_announced : firsts (look_ahead_of t) most_streams ≡ look
      look_announced =
          ext_get_or 0 (firsts (look_ahead_of t) most_streams) look (length_firsts (look_ahead_of t) most_streams ∙ sym look_long) λ v h.
          let l : v < most_streams = omega (arith, length_firsts (look_ahead_of t) most_streams) in
          get_d_firsts (look_ahead_of t) most_streams v 0 l ∙ sym (look_at v l)

      pub kept_announced_list : firsts (kept_values_of t) most_streams ≡ kept
      kept_announced_list =
          ext_get_or 0 (firsts (kept_values_of t) most_streams) kept (length_firsts (kept_values_of t) most_streams ∙ sym kept_long) λ v h.
          let l : v < most_streams = omega (arith, length_firsts (kept_values_of t) most_streams) in
          get_d_firsts (kept_values_of t) most_streams v 0 l ∙ sym (kept_at v l)

      pub words_announced : total (of kept) (streams t) ≡ store_words t
      unfolding store_words
      words_announced = total_same (of kept) (kept_values_of t) (streams t) (λ v l. kept_at v (omega (arith, (sound s e).few)))

      pub closing_announced : (v : ℕ) → v < streams t → get_or look v 0 ≡ look_ahead_of t v
      closing_announced v l = look_at v (omega (arith, (sound s e).few))

      -- so the check accepts the bytes
      pub certified_accepted : announced s ≡ acceptance t
      unfolding announced weigh_table
      certified_accepted =
          let few : store_words t ≤ most_words = subst (λ (n : ℕ). n ≤ most_words) words_announced c.bounded.store in
          rw (e, right_accepted (edges t) (streams t) edges_within c.right, le-leb _ _ few)

    module _ (a : firsts (look_ahead_of t) most_streams ≡ look) (b : firsts (kept_values_of t) most_streams ≡ kept) where
      look_function : look_ahead_of t ≡ of look
      look_function = listed (look_ahead_of t) look_past ∙ ap of a

      kept_function : kept_values_of t ≡ of kept
      kept_function = listed (kept_values_of t) kept_past ∙ ap of b

      accepted_certified : loops_below_of (longest t) (streams t) ≡ true → store_words t ≤ most_words → Certified t look kept
      unfolding store_words
      accepted_certified h few =
          record {
            right = subst (λ (f : ℕ → ℕ). Right (Among (edges t)) (streams t) (of look) f) kept_function (subst (λ (f : ℕ → ℕ). Right (Among (edges t)) (streams t) f (kept_values_of t)) look_function (announced_right h));
            bounded = record {
              look_past = λ v g l. ap (λ (f : ℕ → ℕ). f v) (sym look_function) ∙ look_past v g;
              kept_past = λ v g l. ap (λ (f : ℕ → ℕ). f v) (sym kept_function) ∙ kept_past v g;
              store = subst (λ (f : ℕ → ℕ). total f (streams t) ≤ most_words) kept_function few;
            };
          }

-- what acceptance of the bytes gives
pub record Accepting (s : List ℕ) : Type 0 where
  pub table : Table
  pub decodes : decode s ≡ decoded table
  pub certified : Certified table (announced s).look (announced s).kept
  pub words_are : (announced s).words ≡ total (of (announced s).kept) (streams table)
  pub closing_is : (announced s).closing ≡ most (of (announced s).look) (streams table)

module _ (s : List ℕ) (t : Table) (e : decode s ≡ decoded t) where
  abbrev weighed : Bool → Bool → Checked
  weighed x y = cond x (cond y (acceptance t) (refusal over_words 0)) (refusal wrong_loop (place_of (square_for (edges t)) (streams t)))

  by_tests : (x y : Bool) → loops_below_of (longest t) (streams t) ≡ x → leb (store_words t) most_words ≡ y → announced s ≡ weighed x y → (announced s).number ≡ 0 → Accepting s
  unfolding store_words closing_turns_of
  by_tests true true h few a n =
      let l : firsts (look_ahead_of t) most_streams ≡ (announced s).look = sym (ap (λ (c : Checked). c.look) a) in
      let k : firsts (kept_values_of t) most_streams ≡ (announced s).kept = sym (ap (λ (c : Checked). c.kept) a) in
      record {
        table = t;
        decodes = e;
        certified = accepted_certified s t e (announced s).look (announced s).kept l k h (leb-true _ _ few);
        words_are = ap (λ (c : Checked). c.words) a ∙ ap (λ (f : ℕ → ℕ). total f (streams t)) (kept_function s t e (announced s).look (announced s).kept l k);
        closing_is = ap (λ (c : Checked). c.closing) a ∙ ap (λ (f : ℕ → ℕ). most f (streams t)) (look_function s t e (announced s).look (announced s).kept l k);
      }
  by_tests true false h few a n = absurd (omega (arith, ap (λ (c : Checked). c.number) a, n))
  by_tests false y h few a n = absurd (omega (arith, ap (λ (c : Checked). c.number) a, n))

  accepting_table : (announced s).number ≡ 0 → Accepting s
  unfolding announced weigh_table
  accepting_table n = by_tests (loops_below_of (longest t) (streams t)) (leb (store_words t) most_words) refl refl (ap after_scan e) n

pub accepting : (s : List ℕ) → (announced s).number ≡ 0 → Accepting s
unfolding announced
accepting s n = by_decode (decode s) refl
  where
    by_decode : (d : Decoded) → decode s ≡ d → Accepting s
    by_decode (decoded t) e = accepting_table s t e n
    by_decode (refused why place) e =
        let z : why ≡ 0 = sym (ap (λ (d : Decoded). (after_scan d).number) e) ∙ n in
        absurd (⊎_elim (λ h. omega (arith, h.0, z)) (λ h. omega (arith, h, z)) (refusal_number s e))

-- the words that are announced are those of the store's layout
pub store_words_lem : (s types : List ℕ) → (announced s).number ≡ 0 → (layout_of types (of (announced s).kept)).words ≡ (announced s).words
store_words_lem s types n =
    let a = accepting s n in
    layout_words types (of (announced s).kept) (streams a.table) (sound s a.decodes).few a.certified.bounded.kept_past ∙ sym a.words_are

-- the numbers announced of accepted bytes are a record's of their table
pub announced_certified :
    (s look kept : List ℕ) → ((t : Table) → decode s ≡ decoded t → Certified t look kept → ⊥) →
    (announced s).number ≡ 0 → (announced s).look ≡ look → (announced s).kept ≡ kept → ⊥
announced_certified s look kept none n a b =
    let x = accepting s n in
    none x.table x.decodes (subst (λ (k : List ℕ). Certified x.table look k) b (subst (λ (l : List ℕ). Certified x.table l (announced s).kept) a x.certified))
