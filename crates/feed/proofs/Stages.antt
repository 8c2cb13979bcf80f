-- Laws of the program's stages: how each goes on with further bytes of the input. Assumes nothing.
use Prim.Native.Nat.{ℕ, zero, suc, ◌+◌, ◌*◌, ◌<◌}
use native.Mathlib.Omega.{arith}
use native.Mathlib.Nat.{zero-mul, add-mul}
use mathlib.Core.Path.{◌≡◌, refl, sym, ap, ap₂, subst, ◌∙◌}
use mathlib.Core.List.{List, [], ◌++◌, append_assoc, append-nil}
use lib.ListN.{length, take, drop, length-append, take-append-drop}
use lib.Seq.{length-take-le}
use Rattle.limits.specs.Limits.{most_words}
use Rattle.basis.specs.Written.{Wrote}
use Rattle.announce.specs.Announced.{announced}
use Rattle.prepare.specs.PlanFor.{table_for}
use Rattle.monitor.specs.declared.Run.{Run}
use Rattle.monitor.specs.Calls.{Answer}
use Rattle.monitor.specs.Calls.{open_call, Opens}
use Rattle.answers.specs.Rows.{Progress, begun, after_row, after_rows, Reached, Taken}
use Rattle.answers.proofs.Pieces.{front_rows, rows_in_pieces}
use Rattle.feed.specs.Head.{Stopped, Table as Tabled}
use Rattle.feed.specs.Head.{input_head}
use Rattle.feed.specs.Printed.{row_size}
use Rattle.feed.specs.Stands.{AtHead, AtTable, Behind, come, AtRows, Held}
use Rattle.feed.proofs.Heads.{stopped_short, table_head}

-- what a writer put at the front
pub wrote_front : {before text after : List ℕ} {end : ℕ} → Wrote before 0 text after end → take end after ≡ text
wrote_front w = w.front

-- ---- the head

module _ {b part said : List ℕ} {have : ℕ} (x : AtHead b part have said) {part1 piece : List ℕ} (h : Held part have piece 1 part1) where
  -- the bytes read are those held
  pub head_bytes : take (have + 1) part1 ≡ b ++ take 1 piece
  head_bytes = h.held ∙ ap (λ (l : List ℕ). l ++ take 1 piece) x.held

  head_long : length (b ++ take 1 piece) ≡ have + 1
  head_long = length-append b (take 1 piece) ∙ ap₂ (λ (m n : ℕ). m + n) x.counted (length-take-le 1 piece h.within)

  pub head_more : input_head (take (have + 1) part1) ≡ Stopped → AtHead (b ++ take 1 piece) part1 (have + 1) (said ++ [])
  head_more e =
      let s = subst (λ (l : List ℕ). input_head l ≡ Stopped) head_bytes e in
      record {
        short = let z = stopped_short (b ++ take 1 piece) s in omega (arith, z, head_long);
        undecided = s;
        held = head_bytes;
        counted = head_long;
        silent = append-nil said ∙ x.silent;
      }

  pub head_table : (table : List ℕ) {n : ℕ} → input_head (take (have + 1) part1) ≡ Tabled n → AtTable (b ++ take 1 piece) table n 0 (said ++ [])
  head_table table {n} e =
      let s = subst (λ (l : List ℕ). input_head l ≡ Tabled n) head_bytes e in
      record {
        head = b ++ take 1 piece;
        head_long = let z = table_head (b ++ take 1 piece) s in omega (arith, z.whole, head_long, x.short);
        head_is = s;
        short = omega (arith, (table_head (b ++ take 1 piece) s).some);
        bytes_are = sym (append-nil (b ++ take 1 piece));
        counted = refl;
        silent = append-nil said ∙ x.silent;
      }

-- ---- the table

module _ {b table said : List ℕ} {n have : ℕ} (x : AtTable b table n have said) {table1 piece : List ℕ} {m : ℕ} (h : Held table have piece m table1) where
  table_counted : length (take (have + m) table1) ≡ have + m
  table_counted = ap length h.held ∙ length-append (take have table) (take m piece) ∙ ap₂ (λ (i j : ℕ). i + j) x.counted (length-take-le m piece h.within)

  pub table_bytes : b ++ take m piece ≡ x.head ++ take (have + m) table1
  table_bytes = ap (λ (l : List ℕ). l ++ take m piece) x.bytes_are ∙ append_assoc x.head (take have table) (take m piece) ∙ ap (λ (l : List ℕ). x.head ++ l) (sym h.held)

  module _ (whole : have + m ≡ n) where
    pub table_whole : b ++ take m piece ≡ x.head ++ take n table1
    table_whole = table_bytes ∙ ap (λ (i : ℕ). x.head ++ take i table1) whole

    pub whole_long : length (take n table1) ≡ n
    whole_long = ap (λ (i : ℕ). length (take i table1)) (sym whole) ∙ table_counted ∙ whole

    -- the table is opened, and the rows begin
    pub table_opened : (part store : List ℕ) {a : Answer} {store1 : List ℕ} → length store ≡ most_words → (announced (take n table1)).number ≡ 0 → 0 < row_size (table_for (take n table1))
        → Opens (open_call (take n table1) store) a store1 → AtRows (b ++ take m piece) a.run table1 store1 part n 0 (said ++ [])
    unfolding after_rows
    table_opened part store {a} {store1} l acc some o =
        record {
          behind =
              record {
                head = x.head;
                head_long = x.head_long;
                head_is = x.head_is;
                table_long = whole_long;
                accepted = acc;
                store = store;
                store_long = l;
                rows = [];
                count = 0;
                rows_long = sym (zero-mul (row_size (table_for (take n table1))));
                part_short = some;
                bytes_are = table_whole ∙ ap (λ (l : List ℕ). x.head ++ l) (sym (append-nil (take n table1)));
                come_is = rw (o.answer_is, o.store_is, append-nil said ∙ x.silent) refl;
              };
          counted = refl;
        }

-- ---- rows

-- the text of rows stands behind what was printed before
rows_text : (s p : List ℕ) (inputs k : ℕ) (run : Run) (store said : List ℕ)
    → after_rows s p inputs k (come run store said) ≡ come (after_rows s p inputs k (begun run store)).run (after_rows s p inputs k (begun run store)).store (said ++ (after_rows s p inputs k (begun run store)).text)
unfolding after_rows
rows_text s p inputs zero run store said = ap (come run store) (sym (append-nil said))
rows_text s p inputs (suc k) run store said =
    ap (after_row s _) (rows_text s p inputs k run store said)
    ∙ ap (come _ _) (append_assoc said (after_rows s p inputs k (begun run store)).text _)

module _ {b table : List ℕ} {n : ℕ} where
  -- whole rows more, where no part of a row is there
  pub rows_on : {run : Run} {store said : List ℕ} (x : Behind b table n [] (come run store said)) (p : List ℕ) (k : ℕ) {run1 : Run} {store1 before after : List ℕ} {at : ℕ}
      → length p ≡ k * row_size (table_for (take n table))
      → Reached (after_rows (take n table) p (table_for (take n table)).inputs k (begun run store)) run1 store1 before 0 after at
      → Behind (b ++ p) table n [] (come run1 store1 (said ++ take at after))
  rows_on {run} {store} {said} x p k {run1} {store1} {before} {after} {at} l r =
      let s = take n table in
      let i = (table_for (take n table)).inputs in
      let e : come run1 store1 (said ++ take at after) ≡ after_rows s p i k (come run store said) =
      rw (r.run_is, r.store_is, wrote_front r.wrote) (sym (rows_text s p i k run store said)) in
      record {
        head = x.head;
        head_long = x.head_long;
        head_is = x.head_is;
        table_long = x.table_long;
        accepted = x.accepted;
        store = x.store;
        store_long = x.store_long;
        rows = x.rows ++ p;
        count = x.count + k;
        rows_long = length-append x.rows p ∙ ap₂ (λ (i j : ℕ). i + j) x.rows_long l ∙ sym (add-mul x.count k (row_size (table_for s)));
        part_short = x.part_short;
        bytes_are =
            ap (λ (l : List ℕ). l ++ p) x.bytes_are ∙ append_assoc x.head (s ++ (x.rows ++ [])) p
            ∙ ap (λ (l : List ℕ). x.head ++ l)
            (append_assoc s (x.rows ++ []) p ∙ ap (λ (l : List ℕ). s ++ l) (ap (λ (l : List ℕ). l ++ p) (append-nil x.rows) ∙ sym (append-nil (x.rows ++ p))));
        come_is = e ∙ ap (after_rows s p i k) x.come_is ∙ sym (rows_in_pieces x.rows p s i _ x.count k x.rows_long);
      }

  -- without the bytes of a part row
  pub shed : {part : List ℕ} {y : Progress} (x : Behind b table n part y) → Behind (x.head ++ (take n table ++ x.rows)) table n [] y
  shed x =
      record {
        head = x.head;
        head_long = x.head_long;
        head_is = x.head_is;
        table_long = x.table_long;
        accepted = x.accepted;
        store = x.store;
        store_long = x.store_long;
        rows = x.rows;
        count = x.count;
        rows_long = x.rows_long;
        part_short = omega (arith, x.part_short);
        bytes_are = ap (λ (l : List ℕ). x.head ++ (take n table ++ l)) (sym (append-nil x.rows));
        come_is = x.come_is;
      }

module _ {b : List ℕ} {run : Run} {table store part : List ℕ} {n have : ℕ} {said : List ℕ} (x : AtRows b run table store part n have said) {part1 piece : List ℕ} {m : ℕ}
    (h : Held part have piece m part1) where
  part_counted : length (take (have + m) part1) ≡ have + m
  part_counted = ap length h.held ∙ length-append (take have part) (take m piece) ∙ ap₂ (λ (i j : ℕ). i + j) x.counted (length-take-le m piece h.within)

  part_bytes : b ++ take m piece ≡ x.behind.head ++ (take n table ++ (x.behind.rows ++ take (have + m) part1))
  part_bytes =
      let d = x.behind.head in
      let s = take n table in
      let r = x.behind.rows in
      ap (λ (l : List ℕ). l ++ take m piece) x.behind.bytes_are
      ∙ append_assoc d (s ++ (r ++ take have part)) (take m piece)
      ∙ ap (λ (l : List ℕ). d ++ l)
      (append_assoc s (r ++ take have part) (take m piece) ∙ ap (λ (l : List ℕ). s ++ l) (append_assoc r (take have part) (take m piece) ∙ ap (λ (l : List ℕ). r ++ l) (sym h.held)))

  -- the row is whole, and answered
  pub part_whole : have + m ≡ row_size (table_for (take n table)) → {run1 : Run} {store1 before after : List ℕ} {at : ℕ}
      → Reached (after_rows (take n table) (take (have + m) part1) (table_for (take n table)).inputs 1 (begun run store)) run1 store1 before 0 after at
      → AtRows (b ++ take m piece) run1 table store1 part1 n 0 (said ++ take at after)
  part_whole e {run1} {store1} {before} {after} {at} r =
      let d = x.behind.head in
      let s = take n table in
      let q = x.behind.rows in
      let g = take (have + m) part1 in
      let y = rows_on (shed x.behind) g 1 (part_counted ∙ e ∙ omega arith) r in
      let z : (d ++ (s ++ q)) ++ g ≡ b ++ take m piece =
      append_assoc d (s ++ q) g ∙ ap (λ (l : List ℕ). d ++ l) (append_assoc s q g) ∙ sym part_bytes in
      record { behind = subst (λ (l : List ℕ). Behind l table n [] (come run1 store1 (said ++ take at after))) z y; counted = refl }

-- whole rows from the front of a piece
pub rows_whole : {b : List ℕ} {run : Run} {table store part : List ℕ} {n : ℕ} {said : List ℕ} → AtRows b run table store part n 0 said →
    {piece : List ℕ} (k used : ℕ) {run1 : Run} {store1 before after : List ℕ} {at : ℕ}
    → Taken piece (table_for (take n table)).inputs k used
    → Reached (after_rows (take n table) piece (table_for (take n table)).inputs k (begun run store)) run1 store1 before 0 after at
    → AtRows (b ++ take used piece) run1 table store1 part n 0 (said ++ take at after)
rows_whole {run = run} {table} {store} {part} {n} x {piece} k used {run1} {store1} {before} {after} {at} t r =
    let s = take n table in
    let i = (table_for (take n table)).inputs in
    let p = take used piece in
    let l : length p ≡ k * (4 * i) = length-take-le used piece t.whole ∙ t.used_is in
    let e : after_rows s piece i k (begun run store) ≡ after_rows s p i k (begun run store) =
    ap (λ (z : List ℕ). after_rows s z i k (begun run store)) (sym (take-append-drop used piece)) ∙ front_rows p (drop used piece) s i (begun run store) k (omega (arith, l)) in
    record { behind = rows_on x.behind p k l (subst (λ (z : Progress). Reached z run1 store1 before 0 after at) e r); counted = refl }
