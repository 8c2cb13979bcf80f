-- What the check announces is what document 01 says of the table: accepted exactly under its conditions, with its numbers; refused with
-- its number and place. Two answers that the document allows are equal.
-- Assumes nothing.
use Prim.Native.Nat.{ℕ, suc, ◌≤◌, ◌<◌}
use native.Mathlib.Omega.{arith}
use mathlib.Core.Path.{◌≡◌, refl, sym, ◌∙◌, subst}
use mathlib.Core.Bool.{Bool, true, false, cond}
use mathlib.Core.Logic.{◌⊎◌, inl, inr, ⊎_elim}
use mathlib.Core.List.{List}
use borrow.Author.Tests.{lt-ltb, le-ltb, le-leb, leb-true, leb-false}
use lib.Dec.{leb}
use lib.IntN.{ℤ, pos}
use lib.Signed.{◌≤ℤ◌, clash_ℤ}
use mir.Syntax.{w8}
use mir.Val.{Fits}
use lib.ListN.{length, get_or, length-replicate}
use lib.Seq.{ext_get_or}
use Rattle.limits.specs.Limits.{most_streams, most_words}
use Rattle.limits.specs.Refusals.{wrong_loop, over_words}
use Rattle.basis.specs.Sums.{total}
use Rattle.basis.proofs.Sums.{total_same, most_same}
use Rattle.basis.proofs.Tests.{lt_or_ge}
use Rattle.wire.specs.Bytes.{AllBytes}
use Rattle.node.proofs.Tabulated.{same_at}
use Rattle.table.specs.Table.{Table, Decoded, decoded, refused, decode, streams, edges}
use Rattle.table.specs.Answers.{scan_of}
use Rattle.table.specs.Generation.{Generated}
use Rattle.table.proofs.Generation.{decoded_generated, generated_decodes, one_table}
use Rattle.table.proofs.Sound.{refusal_number}
use Rattle.walks.specs.Walks.{Walk, LoopsBelow, LookAhead, Kept, PlaceOfLoop}
use Rattle.walks.specs.Longest.{square_for, through, loops_below_of, place_of, kept_from}
use Rattle.walks.proofs.Announced.{accepted_loops, accepted_look, loops_accepted, refused_place}
use Rattle.walks.proofs.Kept.{kept_is}
use Rattle.walks.proofs.Unique.{right_one, place_one, below_no_place}
use Rattle.basis.specs.Firsts.{firsts}
use Rattle.basis.proofs.Firsts.{get_d_firsts, firsts_past, length_firsts}
use Rattle.announce.specs.declared.Checked.{Checked}
use Rattle.announce.specs.Announced.{look_ahead_of, kept_values_of, store_words, room_bytes_of, closing_turns_of, refusal, acceptance, weigh_table, after_scan, announced}
use Rattle.announce.specs.Conditions.{EdgesOf, Numbers, Accepted, Refusal, by_grammar, by_loop, by_store, Announces, Refuses, Answers, accepts, refuses}
use Rattle.announce.specs.Rows.{Scanned}
use Rattle.announce.proofs.Numbers.{whole, ends, look_past, look_at}

refused_by : {s : List ℕ} {n p : ℕ} → Refusal s n p → 1 ≤ n → Refuses s (refusal n p)
refused_by r h = record {
  refusal = r;
  some = h;
  sizes = (length-replicate {A = ℕ} most_streams 0, length-replicate {A = ℕ} most_streams 0);
  zeros = λ v. (same_at 0 most_streams v, same_at 0 most_streams v);
  nothing = (refl, (refl, refl));
}

module _ (s : List ℕ) (t : Table) (e : decode s ≡ decoded t) where
  abbrev x : Scanned s (scan_of t)
  x = record { table = t; decodes = e; scan_is = refl }

  abbrev S : ℕ
  S = streams t

  kept_here : (v : ℕ) → v < S → kept_values_of t v ≡ kept_from (edges t) (look_ahead_of t) v
  unfolding kept_values_of
  kept_here v l = rw (lt-ltb v S l)

  kept_past : (v : ℕ) → S ≤ v → kept_values_of t v ≡ 0
  unfolding kept_values_of
  kept_past v l = rw (le-ltb v S l)

  kept_at : (v : ℕ) → get_or (firsts (kept_values_of t) most_streams) v 0 ≡ kept_values_of t v
  kept_at v = ⊎_elim (λ h. get_d_firsts (kept_values_of t) most_streams v 0 h) (λ h. firsts_past (kept_values_of t) most_streams v h ∙ sym (kept_past v (omega (arith, (whole x).few)))) (lt_or_ge v most_streams)

  -- with every loop below 0 the computed numbers are the document's
  module _ (b : loops_below_of (through (square_for (edges t)) S) S ≡ true) where
    numbers_right : Numbers t (look_ahead_of t) (kept_values_of t) (store_words t) (room_bytes_of t) (closing_turns_of t)
    unfolding look_ahead_of store_words room_bytes_of closing_turns_of
    numbers_right = record {
      look_ahead_lem = accepted_look (edges t) S (ends x) b;
      kept_values = λ v l. subst (Kept (EdgesOf t) (look_ahead_of t) v) (sym (kept_here v l)) (kept_is (look_ahead_of t) v (edges t));
      store_words_lem = refl;
      room_bytes = refl;
      closing_turns = refl;
    }

    announces : store_words t ≤ most_words → Announces t (acceptance t)
    announces h = record {
      loops = accepted_loops (edges t) S (ends x) b;
      numbers = subst (λ (f : ℕ → ℕ). Numbers t f (λ v. get_or (firsts (kept_values_of t) most_streams) v 0) (store_words t) (room_bytes_of t) (closing_turns_of t)) (λ d v. sym (look_at x v) d)
          (subst (λ (f : ℕ → ℕ). Numbers t (look_ahead_of t) f (store_words t) (room_bytes_of t) (closing_turns_of t)) (λ d v. sym (kept_at v) d) numbers_right);
      store = h;
      number_is = refl;
      place_is = refl;
      sizes = (length_firsts (look_ahead_of t) most_streams, length_firsts (kept_values_of t) most_streams);
      past = λ v l. (look_at x v ∙ look_past x v l, kept_at v ∙ kept_past v l);
    }

  -- an accepting answer, or a refusing one where the bytes are the table's
  abbrev Weighed : Checked → Type 0
  Weighed r = Announces t r ⊎ ((1 ≤ r.number) × (Generated s t → Refuses s r))

  weighed : Weighed (weigh_table t)
  unfolding weigh_table
  weighed = loops (loops_below_of (through (square_for (edges t)) S) S) refl
    where
      refusing : {n p : ℕ} → 1 ≤ n → (Generated s t → Refusal s n p) → Weighed (refusal n p)
      refusing h f = inr (h, λ g. refused_by (f g) h)

      store : loops_below_of (through (square_for (edges t)) S) S ≡ true → (b : Bool) → leb (store_words t) most_words ≡ b → Weighed (cond b (acceptance t) (refusal over_words 0))
      store l true h = inl (announces l (leb-true (store_words t) most_words h))
      store l false h =
          refusing (omega arith) (λ g. by_store (look_ahead_of t) (kept_values_of t) (store_words t) (room_bytes_of t) (closing_turns_of t) g (accepted_loops (edges t) S (ends x) l) (numbers_right l) (leb-false (store_words t) most_words h))

      loops : (b : Bool) → loops_below_of (through (square_for (edges t)) S) S ≡ b
          → Weighed (cond b (cond (leb (store_words t) most_words) (acceptance t) (refusal over_words 0)) (refusal wrong_loop (place_of (square_for (edges t)) S)))
      loops true h = store h (leb (store_words t) most_words) refl
      loops false h = refusing (omega arith) (λ g. by_loop g (refused_place (edges t) S (ends x) h))

refused_number : (s : List ℕ) {n p : ℕ} → decode s ≡ refused n p → 1 ≤ n
refused_number s e = ⊎_elim (λ h. h.0) (λ h. omega arith) (refusal_number s e)

-- the check's answer to bytes is one that the document allows
pub announced_answers : (s : List ℕ) → AllBytes s → Answers s (announced s)
unfolding announced
announced_answers s bytes = go (decode s) refl
  where
    go : (d : Decoded) → decode s ≡ d → Answers s (after_scan d)
    go (decoded t) e = let g = decoded_generated s bytes e in ⊎_elim (accepts t g) (λ r. refuses (r.1 g)) (weighed s t e)
    go (refused n p) e = refuses (refused_by (by_grammar e) (refused_number s e))

-- so is that to a slice of u8, whose entries are bytes
pub slice_answers : {s : List ℕ} {r : Checked} → ((i : ℕ) → Fits w8 (get_or s i 0)) → r ≡ announced s → (r ≡ announced s) × Answers s r
slice_answers {s} {r} bytes e = (e, rw e (announced_answers s (record { each = λ i. (bytes i).fits })))

-- number 0 is an accepting answer of a decoded table
pub record Decodes (s : List ℕ) (r : Checked) : Type 0 where
  pub table : Table
  pub decodes : decode s ≡ decoded table
  pub announces : Announces table r

pub accepted_decodes : (s : List ℕ) → (announced s).number ≡ 0 → Decodes s (announced s)
unfolding announced
accepted_decodes s = go (decode s) refl
  where
    go : (d : Decoded) → decode s ≡ d → (after_scan d).number ≡ 0 → Decodes s (after_scan d)
    go (decoded t) e z = ⊎_elim (λ a. record { table = t; decodes = e; announces = a }) (λ r. absurd (omega (arith, r.0, z))) (weighed s t e)
    go (refused n p) e z = absurd (omega (arith, refused_number s e, z))

-- ---- accepted exactly under the document's conditions

announced_number : (s : List ℕ) (t : Table) → decode s ≡ decoded t → loops_below_of (through (square_for (edges t)) (streams t)) (streams t) ≡ true → store_words t ≤ most_words → (announced s).number ≡ 0
unfolding announced weigh_table
announced_number s t e b h = rw (e, b, le-leb _ _ h)

-- the kept numbers of a table's look-aheads, summed, are the store words
words_one : (s : List ℕ) (t : Table) (e : decode s ≡ decoded t) (b : loops_below_of (through (square_for (edges t)) (streams t)) (streams t) ≡ true) (look kept : ℕ → ℕ)
    → ((v : ℕ) → v < streams t → LookAhead (EdgesOf t) v (look v)) → ((v : ℕ) → v < streams t → Kept (EdgesOf t) look v (kept v)) → total kept (streams t) ≡ store_words t
unfolding store_words
words_one s t e b look kept p q =
    let n = numbers_right s t e b in
    let l = accepted_loops (edges t) (streams t) (ends (x s t e)) b in
    total_same kept (kept_values_of t) (streams t) (λ v h. (right_one (ends (x s t e)) (record { below = l; ahead = p; keeps = q }) (record { below = l; ahead = n.look_ahead_lem; keeps = n.kept_values }) v h).1)

pub conditions_accepted : (s : List ℕ) → Accepted s → (announced s).number ≡ 0
conditions_accepted s a =
    let e = generated_decodes s a.table a.grammar in
    let b = loops_accepted (edges a.table) (streams a.table) (ends (x s a.table e)) a.loops in
    announced_number s a.table e b (omega (arith, a.store, words_one s a.table e b a.look a.kept a.look_ahead_lem a.kept_values))

pub accepted_conditions : (s : List ℕ) → AllBytes s → (announced s).number ≡ 0 → Accepted s
accepted_conditions s bytes z =
    let d = accepted_decodes s z in
    let a = d.announces in
    record {
      table = d.table;
      grammar = decoded_generated s bytes d.decodes;
      loops = a.loops;
      look = λ v. get_or (announced s).look v 0;
      kept = λ v. get_or (announced s).kept v 0;
      look_ahead_lem = a.numbers.look_ahead_lem;
      kept_values = a.numbers.kept_values;
      store = omega (arith, a.store, a.numbers.store_words_lem);
    }

-- a loop of 0 or more, however long, has a place: the lowest stream with one of at most S edges
pub loop_has_place : (s : List ℕ) (t : Table) → Generated s t → {n v : ℕ} {k : ℤ} → Walk (EdgesOf t) (suc n) v v k → pos 0 ≤ℤ k
    → PlaceOfLoop (EdgesOf t) (streams t) (place_of (square_for (edges t)) (streams t))
unfolding LoopsBelow
loop_has_place s t g {n} {v} {k} w h = go (loops_below_of (through (square_for (edges t)) (streams t)) (streams t)) refl
  where
    e : decode s ≡ decoded t
    e = generated_decodes s t g

    no : LoopsBelow (EdgesOf t) → ⊥
    no l = clash_ℤ (l n v k w) h

    go : (b : Bool) → loops_below_of (through (square_for (edges t)) (streams t)) (streams t) ≡ b → PlaceOfLoop (EdgesOf t) (streams t) (place_of (square_for (edges t)) (streams t))
    go true q = absurd (no (accepted_loops (edges t) (streams t) (ends (x s t e)) q))
    go false q = refused_place (edges t) (streams t) (ends (x s t e)) q

-- ---- two answers that the document allows are equal

two_ways : {X : Type 0} {t : Table} {n p : ℕ} → decoded t ≡ refused n p → X
two_ways q = let z : ◌≡◌ {A = ℕ} 0 1 = cc in absurd (omega arith)

-- the numbers of one table are determined
module _ (s : List ℕ) (t : Table) (e : decode s ≡ decoded t) (l : LoopsBelow (EdgesOf t)) {look kept look' kept' : ℕ → ℕ} {words room closing words' room' closing' : ℕ}
    (n : Numbers t look kept words room closing) (m : Numbers t look' kept' words' room' closing') where
  pub same_numbers : (v : ℕ) → v < streams t → (look v ≡ look' v) × (kept v ≡ kept' v)
  same_numbers = right_one (ends (x s t e)) (record { below = l; ahead = n.look_ahead_lem; keeps = n.kept_values }) (record { below = l; ahead = m.look_ahead_lem; keeps = m.kept_values })

  same_words : words ≡ words'
  same_words = n.store_words_lem ∙ total_same kept kept' (streams t) (λ v h. (same_numbers v h).1) ∙ sym m.store_words_lem

  same_room : room ≡ room'
  same_room = n.room_bytes ∙ sym m.room_bytes

  same_closing : closing ≡ closing'
  same_closing = n.closing_turns ∙ most_same look look' (streams t) (λ v h. (same_numbers v h).0) ∙ sym m.closing_turns

refusal_one : {s : List ℕ} {n p n' p' : ℕ} → Refusal s n p → Refusal s n' p' → (n ≡ n') × (p ≡ p')
refusal_one (by_grammar e) (by_grammar f) = (cc, cc)
refusal_one {s} (by_grammar e) (by_loop g q) = two_ways (sym (generated_decodes s _ g) ∙ e)
refusal_one {s} (by_grammar e) (by_store look kept w r c g b m h) = two_ways (sym (generated_decodes s _ g) ∙ e)
refusal_one {s} (by_loop g q) (by_grammar f) = two_ways (sym (generated_decodes s _ g) ∙ f)
refusal_one (by_loop {p = p} g q) (by_loop {p = p'} g' q') =
    (refl, place_one q (subst (λ (z : Table). PlaceOfLoop (EdgesOf z) (streams z) p') (one_table g' g) q'))
refusal_one (by_loop {p = p} g q) (by_store look kept w r c g' b m h) =
    absurd (below_no_place b (subst (λ (z : Table). PlaceOfLoop (EdgesOf z) (streams z) p) (one_table g g') q))
refusal_one {s} (by_store look kept w r c g b m h) (by_grammar f) = two_ways (sym (generated_decodes s _ g) ∙ f)
refusal_one (by_store look kept w r c g b m h) (by_loop {p = p} g' q) =
    absurd (below_no_place b (subst (λ (z : Table). PlaceOfLoop (EdgesOf z) (streams z) p) (one_table g' g) q))
refusal_one (by_store look kept w r c g b m h) (by_store look' kept' w' r' c' g' b' m' h') = (refl, refl)

same_list : (l m : List ℕ) → length l ≡ most_streams → length m ≡ most_streams → ((v : ℕ) → get_or l v 0 ≡ get_or m v 0) → l ≡ m
same_list l m p q h = ext_get_or 0 l m (p ∙ sym q) (λ i k. h i)

accepted_refused : {s : List ℕ} {t : Table} {r r' : Checked} → Generated s t → Announces t r → Refuses s r' → ⊥
accepted_refused {s} {t} {r} {r'} g a b = go b.refusal
  where
    go : {n p : ℕ} → Refusal s n p → ⊥
    go (by_grammar e) = two_ways (sym (generated_decodes s t g) ∙ e)
    go (by_loop {p = p} f q) = below_no_place a.loops (subst (λ (z : Table). PlaceOfLoop (EdgesOf z) (streams z) p) (one_table f g) q)
    go (by_store look kept w room c f b m h) =
        omega (arith, a.store, same_words s t (generated_decodes s t g) a.loops a.numbers (subst (λ (z : Table). Numbers z look kept w room c) (one_table f g) m))

-- two accepting answers of one table
announces_one : (s : List ℕ) (t : Table) → decode s ≡ decoded t → (r r' : Checked) → Announces t r → Announces t r' → r ≡ r'
announces_one s t e r r' a b =
    λ d. record {
      number = (a.number_is ∙ sym b.number_is) d;
      place = (a.place_is ∙ sym b.place_is) d;
      look = looks d;
      kept = kepts d;
      words = same_words s t e a.loops a.numbers b.numbers d;
      room = same_room s t e a.loops a.numbers b.numbers d;
      closing = same_closing s t e a.loops a.numbers b.numbers d;
    }
  where
    looks : r.look ≡ r'.look
    looks = same_list r.look r'.look a.sizes.0 b.sizes.0
        (λ v. ⊎_elim (λ h. (same_numbers s t e a.loops a.numbers b.numbers v h).0) (λ h. (a.past v h).0 ∙ sym (b.past v h).0) (lt_or_ge v (streams t)))

    kepts : r.kept ≡ r'.kept
    kepts = same_list r.kept r'.kept a.sizes.1 b.sizes.1
        (λ v. ⊎_elim (λ h. (same_numbers s t e a.loops a.numbers b.numbers v h).1) (λ h. (a.past v h).1 ∙ sym (b.past v h).1) (lt_or_ge v (streams t)))

pub answers_one : (s : List ℕ) (r r' : Checked) → Answers s r → Answers s r' → r ≡ r'
answers_one s r r' (accepts t g a) (accepts u h b) = announces_one s t (generated_decodes s t g) r r' a (subst (λ (z : Table). Announces z r') (one_table h g) b)
answers_one s r r' (accepts t g a) (refuses b) = absurd (accepted_refused g a b)
answers_one s r r' (refuses a) (accepts t g b) = absurd (accepted_refused g b a)
answers_one s r r' (refuses a) (refuses b) =
    let q = refusal_one a.refusal b.refusal in
    let looks = same_list r.look r'.look a.sizes.0 b.sizes.0 (λ v. (a.zeros v).0 ∙ sym (b.zeros v).0) in
    let kepts = same_list r.kept r'.kept a.sizes.1 b.sizes.1 (λ v. (a.zeros v).1 ∙ sym (b.zeros v).1) in
    λ d. record {
      number = q.0 d;
      place = q.1 d;
      look = looks d;
      kept = kepts d;
      words = (a.nothing.0 ∙ sym b.nothing.0) d;
      room = (a.nothing.1.0 ∙ sym b.nothing.1.0) d;
      closing = (a.nothing.1.1 ∙ sym b.nothing.1.1) d;
    }
