-- The weights of a table, equation by equation: what the scan notes of an expression is what the table's edges say.
-- Assumes nothing.
use Prim.Native.Nat.{ℕ, zero, suc, ◌+◌, ◌≤◌, ◌<◌}
use native.Mathlib.Omega.{arith}
use mathlib.Core.Path.{◌≡◌, refl, sym, ap, ◌∙◌}
use mathlib.Core.Logic.{◌⊎◌, inl, inr, ⊎_elim}
use mathlib.Core.List.{List, []}
use lib.IntN.{ℤ}
use lib.ListN.{length, get_or, set, take, replicate}
use lib.Seq.{get_or-set_same, get_or-set_other}
use Rattle.basis.specs.Notes.{rising, falling}
use Rattle.limits.specs.Limits.{most_streams, most_levels}
use Rattle.basis.specs.Rows.{entry, column}
use Rattle.basis.proofs.Rows.{column_at, column_long}
use Rattle.basis.proofs.Tests.{lt_or_ge}
use Rattle.node.specs.Kinds.{Tabulated}
use Rattle.node.proofs.Tabulated.{same_at}
use Rattle.expression.specs.Syntax.{Expr}
use Rattle.expression.specs.Grammar.{good, parse}
use Rattle.expression.specs.References.{references, Refers, noted, Extremes}
use Rattle.expression.specs.Seen.{seen_rise, seen_fall, Seen, Unnoted, fresh}
use Rattle.expression.proofs.Seeing.{fresh_seen}
use Rattle.expression.specs.Scanning.{CanScan, Scanning}
use Rattle.expression.proofs.Extremes.{extremes}
use Rattle.expression.proofs.Sound.{good_right}
use Rattle.table.specs.Table.{Table, streams, equation_of, edges}
use Rattle.table.specs.Answers.{padded, scan_of}
use Rattle.table.specs.Sound.{Sound}
use Rattle.table.proofs.Decoding.{same_table}
use Rattle.table.proofs.Sound.{sound}
use Rattle.table.proofs.Arrays.{padded_length}
use Rattle.table.specs.declared.Scan.{Scan}
use Rattle.table.proofs.Entries.{padded_at, padded_take, start_of}
use Rattle.table.proofs.Edges.{reference_edge, edge_output, edge_reference}
use Rattle.walks.specs.Longest.{note_of, rise_of, fall_of}
use Rattle.walks.proofs.Notes.{note_one, no_note}
use Rattle.announce.specs.Rows.{Weighs, Scanned, Arrays, WeighsTo}

-- rows of zeros, and rows of which one is stored
blank_at : (n m x v : ℕ) → entry (replicate n (replicate m 0)) x v ≡ 0
blank_at zero m x v = refl
blank_at (suc n) m zero v = same_at 0 m v
blank_at (suc n) m (suc x) v = blank_at n m x v

module _ (rows : List (List ℕ)) (y : ℕ) (row : List ℕ) (v : ℕ) where
  stored : y < length rows → entry (set rows y row) y v ≡ get_or row v 0
  stored h = ap (λ (r : List ℕ). get_or r v 0) (get_or-set_same rows y row [] h)

  kept_at : (x : ℕ) → (x ≡ y → ⊥) → entry (set rows y row) x v ≡ entry rows x v
  kept_at x h = ap (λ (r : List ℕ). get_or r v 0) (get_or-set_other rows y x row [] h)

module _ {s : List ℕ} {t : Table} {types starts : List ℕ} {held : ℕ} (a : Arrays s t types starts held) where
  fine : Sound s t
  fine = sound s a.decodes

  no_edge : (m : ℤ → ℕ) (x v : ℕ) → (x < t.inputs) ⊎ (streams t ≤ x) → note_of m (edges t) x v ≡ 0
  no_edge m x v side = no_note m x v (λ k h. let o = edge_output t fine.outputs x v k h in ⊎_elim (λ l. omega (arith, o.0)) (λ l. omega (arith, o.1)) side)

  types_taken : take held types ≡ t.types
  types_taken = rw (a.streams_are, a.types_are) (padded_take t.types)

  -- rows that are filled with the table's types
  pub all_seen : {seen : List (List ℕ)} → seen ≡ fresh (take held types) → Seen (take held types) seen × Unnoted seen
  all_seen e = fresh_seen types held (omega (arith, a.streams_are, fine.few)) e (λ v _. rw types_taken (omega (arith, fine.type_is v)))

  -- before the first equation
  pub weights_none : WeighsTo t t.inputs (replicate most_streams (replicate most_streams 0)) (replicate most_streams (replicate most_streams 0))
  weights_none = record {
    rises = λ x v h l. blank_at most_streams most_streams x v ∙ sym (no_edge _ x v (inl h));
    falls = λ x v h l. blank_at most_streams most_streams x v ∙ sym (no_edge _ x v (inl h));
    no_rise = λ x v h l k. blank_at most_streams most_streams x v;
    no_fall = λ x v h l k. blank_at most_streams most_streams x v;
  }

  -- behind the last
  pub weights_all : {y : ℕ} {rise fall : List (List ℕ)} → y ≡ streams t → WeighsTo t y rise fall → Weighs t rise fall
  weights_all {y} {rise} {fall} e w = record {
    rises = λ x v h l. ⊎_elim (λ p. w.rises x v p l) (λ p. w.no_rise x v p h l ∙ sym (no_edge _ x v (inr (omega arith)))) (lt_or_ge x y);
    falls = λ x v h l. ⊎_elim (λ p. w.falls x v p l) (λ p. w.no_fall x v p h l ∙ sym (no_edge _ x v (inr (omega arith)))) (lt_or_ge x y);
  }

  module _ {y : ℕ} (o : t.inputs ≤ y) (l : y < held) where
    inside : y < streams t
    inside = omega (arith, a.streams_are)

    abbrev e : Expr
    e = (equation_of t y).expr

    type_at : get_or types y 0 ≡ get_or t.types y 0
    type_at = rw a.types_are (padded_at t.types y)

    parsed : {wanted start : ℕ} → wanted ≡ get_or types y 0 → start ≡ get_or starts y 0 → parse most_levels (take held types) s wanted start ≡ good e (fine.stands y o inside).end
    parsed p q =
        let h : get_or starts y 0 ≡ (equation_of t y).start = rw a.starts_are (start_of t y o) in
        rw (types_taken, p, type_at, q, h) (fine.stands y o inside).parsed

    refers : Refers y (length t.types) (references y e)
    refers = (good_right t.types s most_levels (get_or t.types y 0) (equation_of t y).start (fine.stands y o inside).parsed).refers y

    -- the notes of the equation's references are those of the table's edges
    module _ (v rise fall : ℕ) (x : Extremes (references y e) y v rise fall) where
      rise_is : rise ≡ rise_of (edges t) y v
      unfolding rising
      rise_is = sym (note_one rising y v
          (λ k h. omega (arith, (x.between k (edge_reference t fine.outputs y v k h)).0))
          (⊎_elim (λ p. let q = x.largest p in inr (q.0, reference_edge t fine.outputs y v q.0 o inside q.1, omega (arith, q.2))) (λ p. inl (omega arith)) (lt_or_ge 0 rise)))

      fall_is : fall ≡ fall_of (edges t) y v
      unfolding falling
      fall_is = sym (note_one falling y v
          (λ k h. omega (arith, (x.between k (edge_reference t fine.outputs y v k h)).1))
          (⊎_elim (λ p. let q = x.smallest p in inr (q.0, reference_edge t fine.outputs y v q.0 o inside q.1, omega (arith, q.2))) (λ p. inl (omega arith)) (lt_or_ge 0 fall)))

    -- the place where the expression starts lies in the table, and its type is a type
    pub can_scan : {kinds seen : List (List ℕ)} {wanted start : ℕ} → Tabulated kinds → Seen (take held types) seen → wanted ≡ get_or types y 0 → start ≡ get_or starts y 0 → CanScan kinds seen s wanted start
    can_scan k z p q = record {
      tabulated = k;
      few = fine.bytes.1;
      wants = omega (arith, p, type_at, fine.type_is y);
      place = omega (arith, (good_right _ s most_levels _ _ (parsed p q)).behind, (good_right _ s most_levels _ _ (parsed p q)).within);
      types = take held types;
      rows = z;
    }

    -- rows in which nothing was noted
    module _ {seen : List (List ℕ)} (z : Seen (take held types) seen) (u : Unnoted seen) where
      first_noted : (v : ℕ) → v < most_streams → Extremes (references y e) y v (get_or (noted rising e (column seen_rise seen)) v 0) (get_or (noted falling e (column seen_fall seen)) v 0)
      first_noted v h =
          extremes e refers (column seen_rise seen) (column seen_fall seen) v (omega (arith, column_long seen_rise seen, z.shape.long)) (omega (arith, column_long seen_fall seen, z.shape.long))
          (column_at seen_rise seen v ∙ (u v h).0) (column_at seen_fall seen v ∙ (u v h).1)

      -- one equation more
      pub weights_more :
          {wanted start : ℕ} {rise fall : List (List ℕ)} {rises falls : List ℕ} {seen' : List (List ℕ)} {r : ℕ} → length rise ≡ most_streams → length fall ≡ most_streams → WeighsTo t y rise fall → wanted ≡ get_or types y 0 → start ≡ get_or starts y 0 →
          Scanning (parse most_levels (take held types) s wanted start) s (take held types) seen seen' r →
          rises ≡ column seen_rise seen' → falls ≡ column seen_fall seen' → WeighsTo t (y + 1) (set rise y rises) (set fall y falls)
      weights_more {wanted} {start} {rise} {fall} {rises} {falls} lr lf w p q n f g = record {
        rises = λ x v h k. ⊎_elim (λ b. kept_at rise y rises v x (λ i. omega arith) ∙ w.rises x v b k) (λ i. let d : x ≡ y = omega arith in rw d (own_rise v k)) (lt_or_ge x y);
        falls = λ x v h k. ⊎_elim (λ b. kept_at fall y falls v x (λ i. omega arith) ∙ w.falls x v b k) (λ i. let d : x ≡ y = omega arith in rw d (own_fall v k)) (lt_or_ge x y);
        no_rise = λ x v h b k. kept_at rise y rises v x (λ i. omega arith) ∙ w.no_rise x v (omega arith) b k;
        no_fall = λ x v h b k. kept_at fall y falls v x (λ i. omega arith) ∙ w.no_fall x v (omega arith) b k;
      }
        where
          own_rise : (v : ℕ) → v < most_streams → entry (set rise y rises) y v ≡ rise_of (edges t) y v
          own_rise v k = stored rise y rises v (omega (arith, lr, inside, fine.few)) ∙ ap (λ (l : List ℕ). get_or l v 0) (f ∙ n.rises e _ (parsed p q)) ∙ rise_is v _ _ (first_noted v k)

          own_fall : (v : ℕ) → v < most_streams → entry (set fall y falls) y v ≡ fall_of (edges t) y v
          own_fall v k = stored fall y falls v (omega (arith, lf, inside, fine.few)) ∙ ap (λ (l : List ℕ). get_or l v 0) (g ∙ n.falls e _ (parsed p q)) ∙ fall_is v _ _ (first_noted v k)

module _ {s : List ℕ} {c : Scan} (x : Scanned s c) where
  whole : Sound s x.table
  whole = sound s x.decodes

  pub arrays_of : Arrays s x.table c.types c.starts c.streams
  unfolding scan_of
  arrays_of = record {
    decodes = x.decodes;
    types_are = ap (λ (z : Scan). z.types) x.scan_is;
    starts_are = ap (λ (z : Scan). z.starts) x.scan_is;
    streams_are = ap (λ (z : Scan). z.streams) x.scan_is;
  }

  pub roles_are : c.roles ≡ padded x.table.roles
  unfolding scan_of
  roles_are = ap (λ (z : Scan). z.roles) x.scan_is

  pub inputs_are : c.inputs ≡ x.table.inputs
  unfolding scan_of
  inputs_are = ap (λ (z : Scan). z.inputs) x.scan_is

  pub scan_bounds : (c.inputs ≤ c.streams) × (c.streams ≤ most_streams)
  scan_bounds = (omega (arith, inputs_are, arrays_of.streams_are, whole.some_output), omega (arith, arrays_of.streams_are, whole.few))

  pub types_length : length c.types ≡ most_streams
  types_length = ap length arrays_of.types_are ∙ padded_length x.table.types whole.few

  pub scanning_start : (t : Table) → Arrays s t c.types c.starts c.streams → (t.inputs ≤ c.inputs) × WeighsTo t c.inputs (replicate most_streams (replicate most_streams 0)) (replicate most_streams (replicate most_streams 0))
  scanning_start t a =
      let e : x.table ≡ t = same_table (sym x.decodes ∙ a.decodes) in
      let i : c.inputs ≡ t.inputs = inputs_are ∙ ap (λ (z : Table). z.inputs) e in
      (omega arith, rw i (weights_none a))
