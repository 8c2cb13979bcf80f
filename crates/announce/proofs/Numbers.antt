-- The announced numbers from the look-aheads and the smallest weights, and what the scan, the square and they say together.
-- Assumes nothing.
use Prim.Native.Nat.{ℕ, ◌-◌, ◌≤◌, ◌<◌}
use native.Mathlib.Omega.{arith}
use mathlib.Core.Path.{◌≡◌, sym, ap, ap₂, ◌∙◌, subst}
use mathlib.Core.Bool.{true, cond}
use mathlib.Core.Logic.{⊎_elim}
use mathlib.Core.List.{List}
use borrow.Author.Tests.{lt-leb, le-leb, le-ltb}
use lib.IntN.{ℤ}
use lib.Dec.{leb, ltb}
use lib.ListN.{length, get_or}
use Rattle.limits.specs.Limits.{most_streams, most_back, most_ahead, most_note, most_words}
use Rattle.limits.specs.Refusals.{wrong_loop, over_words}
use Rattle.basis.specs.Sums.{total, most}
use Rattle.records.specs.Kinds.{room_for}
use Rattle.basis.specs.Parts.{up, down}
use Rattle.basis.specs.Edges.{Has, Among}
use Rattle.basis.proofs.Sums.{total_same}
use Rattle.basis.proofs.Tests.{lt_or_ge}
use Rattle.table.specs.Table.{Table, streams, edges}
use Rattle.table.specs.Sound.{Sound}
use Rattle.table.specs.declared.Scan.{Scan}
use Rattle.table.proofs.Sound.{sound}
use Rattle.table.proofs.Entries.{padded_at}
use Rattle.walks.specs.Walks.{Within}
use Rattle.walks.specs.Longest.{square_for, through, look_of, loops_below_of, kept_from, rise_of}
use Rattle.basis.specs.Firsts.{firsts}
use Rattle.basis.specs.Rows.{entry}
use Rattle.std.specs.Prelude.{Ok, Err}
use Rattle.square.specs.Square.{cell, AllSmall, Small, rise_best, weighed}
use Rattle.kept.specs.Kept.{kept_over, kept_row}
use Rattle.basis.proofs.Firsts.{get_d_firsts, firsts_past, firsts_same}
use Rattle.square.proofs.Rise.{rise_square, rise_small, small_rise}
use Rattle.kept.proofs.Slack.{fall_small, kept_over_edges}
use Rattle.square.proofs.Weighed.{weighed_same, weighed_accepted, weighed_refused, weighed_look_small}
use Rattle.announce.specs.declared.Checked.{Checked}
use Rattle.announce.specs.Announced.{look_ahead_of, kept_values_of, store_words, room_bytes_of, closing_turns_of, refusal, acceptance, weigh_table, announced}
use Rattle.announce.specs.Rows.{Weighs, Scanned, Fitting, numbers_for}
use Rattle.announce.proofs.Weighing.{arrays_of, inputs_are, roles_are, scan_bounds}

module _ (c : Scan) (look : List ℕ) (fall : List (List ℕ)) {kept : List ℕ} {words : ℕ} (ek : kept ≡ kept_row look fall c.streams) (ew : words ≡ total (λ v. get_or kept v 0) c.streams) where
  -- the store words, as the definition has them
  words_are : words ≡ total (λ v. get_or (kept_row look fall c.streams) v 0) c.streams
  words_are = ew ∙ ap (λ (l : List ℕ). total (λ v. get_or l v 0) c.streams) ek

  pub too_many : {r : Checked} → most_words < words → r ≡ refusal over_words 0 → r ≡ numbers_for c look fall
  unfolding numbers_for
  too_many h e = e ∙ sym (rw (← words_are, lt-leb _ _ h))

  pub few_enough : {room closing : ℕ} → words ≤ most_words → room ≡ room_for (c.streams - c.inputs) (total (λ v. get_or c.roles v 0) c.streams) → closing ≡ most (λ v. get_or look v 0) c.streams
      → ◌≡◌ {A = Checked} (record { number = 0; place = 0; look = look; kept = kept; words = words; room = room; closing = closing }) (numbers_for c look fall)
  unfolding numbers_for
  few_enough h p q = (λ d. record { number = 0; place = 0; look = look; kept = ek d; words = words_are d; room = p d; closing = q d }) ∙ sym (rw (← words_are, le-leb _ _ h))

module _ {s : List ℕ} {c : Scan} (x : Scanned s c) where
  abbrev t : Table
  t = x.table

  abbrev S : ℕ
  S = streams t

  pub whole : Sound s t
  whole = sound s x.decodes

  pub ends : Within (Among (edges t)) S
  ends y v k h = let w = whole.edge_within y v k h in (w.0.1, w.1.0)

  held : c.streams ≡ S
  held = (arrays_of x).streams_are

  -- past the last stream the look-ahead is 0
  pub look_past : (v : ℕ) → S ≤ v → look_ahead_of t v ≡ 0
  unfolding look_ahead_of look_of
  look_past v h = rw (le-ltb v S h)

  pub look_at : (v : ℕ) → get_or (firsts (look_ahead_of t) most_streams) v 0 ≡ look_ahead_of t v
  look_at v = ⊎_elim (λ h. get_d_firsts (look_ahead_of t) most_streams v 0 h) (λ h. firsts_past (look_ahead_of t) most_streams v h ∙ sym (look_past v (omega (arith, whole.few)))) (lt_or_ge v most_streams)

  low : (y v : ℕ) (k : ℤ) → Has y v k (edges t) → down k ≤ most_back
  low y v k h = (whole.edge_within y v k h).1.1.back

  high : (y v : ℕ) (k : ℤ) → Has y v k (edges t) → up k ≤ most_ahead
  high y v k h = (whole.edge_within y v k h).1.1.ahead

  module _ {rise fall : List (List ℕ)} (w : Weighs t rise fall) (a : List (List ℤ)) (cells : (y v : ℕ) → y < most_streams → v < most_streams → cell a y v ≡ rise_best (entry rise y v)) where
    rise_at : (y v : ℕ) → y < most_streams → v < most_streams → cell a y v ≡ rise_best (rise_of (edges t) y v)
    rise_at y v h k = cells y v h k ∙ ap rise_best (w.rises y v h k)

    pub all_small : AllSmall 7 a
    all_small y v h k = subst (Small 7) (sym (rise_at y v h k)) (small_rise (rise_of (edges t) y v) (rise_small (edges t) y v (high y v)))

    -- what is weighed is the table's square
    weighed_is : weighed (cell a) c.streams ≡ weighed (square_for (edges t)) S
    weighed_is =
        ap (weighed (cell a)) held
        ∙ weighed_same S (cell a) (square_for (edges t)) (λ y u h k. rise_at y u (omega (arith, whole.few)) (omega (arith, whole.few)) ∙ rise_square (edges t) y u (low y u))

    announced_is : announced s ≡ weigh_table t
    unfolding announced
    announced_is = rw x.decodes

    pub seven : {place : ℕ} {r : Checked} → Err place ≡ weighed (cell a) c.streams → r ≡ refusal wrong_loop place → r ≡ announced s
    unfolding weigh_table
    seven is e = let f = weighed_refused (square_for (edges t)) S (is ∙ weighed_is) in e ∙ ap (refusal wrong_loop) f.1 ∙ sym (announced_is ∙ rw f.0)

    -- with loops below 0: the kept numbers are those announced
    module _ {look : List ℕ} (is : Ok look ≡ weighed (cell a) c.streams) where
      below : loops_below_of (through (square_for (edges t)) S) S ≡ true
      below = (weighed_accepted (square_for (edges t)) S (is ∙ weighed_is)).0

      look_is : look ≡ firsts (look_ahead_of t) most_streams
      unfolding look_ahead_of
      look_is = (weighed_accepted (square_for (edges t)) S (is ∙ weighed_is)).1

      look_fun : (λ (y : ℕ). get_or look y 0) ≡ look_ahead_of t
      look_fun = λ d y. (ap (λ (l : List ℕ). get_or l y 0) look_is ∙ look_at y) d

      kept_at : (u : ℕ) → u < most_streams → kept_over look fall u ≡ kept_from (edges t) (look_ahead_of t) u
      kept_at u k = kept_over_edges (edges t) S ends whole.few high look fall u (λ y l. w.falls y u l k) ∙ ap (λ (f : ℕ → ℕ). kept_from (edges t) f u) look_fun

      kept_is : kept_row look fall c.streams ≡ firsts (kept_values_of t) most_streams
      unfolding kept_row kept_values_of
      kept_is =
          ap (kept_row look fall) held
          ∙ firsts_same (λ u. cond (ltb u S) (kept_over look fall u) 0) (λ u. cond (ltb u S) (kept_from (edges t) (look_ahead_of t) u) 0) most_streams (λ u k. ap (λ (n : ℕ). cond (ltb u S) n 0) (kept_at u k))

      words_is : total (λ u. get_or (kept_row look fall c.streams) u 0) c.streams ≡ store_words t
      unfolding store_words
      words_is =
          ap (total (λ u. get_or (kept_row look fall c.streams) u 0)) held
          ∙ total_same (λ u. get_or (kept_row look fall c.streams) u 0) (kept_values_of t) S (λ u l. ap (λ (k : List ℕ). get_or k u 0) kept_is ∙ get_d_firsts (kept_values_of t) most_streams u 0 (omega (arith, whole.few)))

      room_is : room_for (c.streams - c.inputs) (total (λ u. get_or c.roles u 0) c.streams) ≡ room_bytes_of t
      unfolding room_bytes_of
      room_is =
          let n : c.streams - c.inputs ≡ length t.equations = omega (arith, held, inputs_are x, whole.outputs) in
          let r : total (λ u. get_or c.roles u 0) c.streams ≡ total (λ u. get_or t.roles u 0) S
          = ap (total (λ u. get_or c.roles u 0)) held ∙ total_same (λ u. get_or c.roles u 0) (λ u. get_or t.roles u 0) S (λ u l. ap (λ (k : List ℕ). get_or k u 0) (roles_are x) ∙ padded_at t.roles u) in
          ap₂ room_for n r

      closing_is : most (λ u. get_or look u 0) c.streams ≡ closing_turns_of t
      unfolding closing_turns_of
      closing_is = ap (most (λ u. get_or look u 0)) held ∙ ap (λ (f : ℕ → ℕ). most f S) look_fun

      numbers_are : numbers_for c look fall ≡ cond (leb (store_words t) most_words) (acceptance t) (refusal over_words 0)
      unfolding numbers_for
      numbers_are =
          λ d. cond (leb (words_is d) most_words)
          (record { number = 0; place = 0; look = look_is d; kept = kept_is d; words = words_is d; room = room_is d; closing = closing_is d })
          (refusal over_words 0)

      pub weighed_numbers : {r : Checked} → r ≡ numbers_for c look fall → r ≡ announced s
      unfolding weigh_table
      weighed_numbers e = e ∙ numbers_are ∙ sym (announced_is ∙ rw below)

      pub fitting : Fitting c look fall
      fitting = record {
        few = (scan_bounds x).1;
        outputs = (scan_bounds x).0;
        roles = λ u l. subst (λ (n : ℕ). n ≤ 1) (sym (ap (λ (k : List ℕ). get_or k u 0) (roles_are x) ∙ padded_at t.roles u)) (whole.role_is u);
        look_small = weighed_look_small c.streams (cell a) (scan_bounds x).1 all_small is;
        fall_small = λ y u l k. subst (λ (n : ℕ). n ≤ most_note) (sym (w.falls y u l k)) (fall_small (edges t) low y u);
      }
