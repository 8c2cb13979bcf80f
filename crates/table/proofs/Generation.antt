-- A table is decoded exactly where document 01's grammar generates it. What is generated are bytes, and of one table only.
-- Assumes nothing.
use Prim.Native.Nat.{ℕ, ◌+◌, ◌-◌, ◌≤◌}
use native.Mathlib.Omega.{arith}
use mathlib.Core.Path.{◌≡◌, refl, sym, ◌∙◌, ap, subst}
use mathlib.Core.Bool.{cond}
use mathlib.Core.List.{List, ◌∷◌, ◌++◌}
use lib.Dec.{eqb, leb}
use lib.ListN.{length, get_or, length-append}
use borrow.Author.Tests.{eq-eqb, le-leb, eqb-true, leb-true}
use Rattle.limits.specs.Limits.{least_table, most_table}
use Rattle.limits.specs.Refusals.{bytes_after}
use Rattle.basis.proofs.Tests.{pick_case}
use Rattle.wire.specs.Bytes.{AllBytes}
use Rattle.wire.proofs.Words.{byte_more, bytes_append}
use Rattle.wire.proofs.Stand.{Stand, more, stand_at, put, byte_at, join, split, stand_self, stand_whole}
use Rattle.table.specs.Records.{head_fault_of, Declared, declares, wrong, declared, heads}
use Rattle.table.specs.Table.{Equation, Table, Decoded, decoded, refused, Equations, equated, unfit, equations_at_of, with_heads_of, with_equations_of, table_of, decode}
use Rattle.table.specs.Generation.{streams_bytes_of, equations_bytes_of, bytes_of, WellFormedEquations, WellFormedTable, Generated}
use Rattle.table.proofs.Faults.{head_fits, record_there, no_head_fault}
use Rattle.table.proofs.Streams.{fine_case}
use Rattle.table.proofs.Decoding.{same_table}
use Rattle.table.proofs.Declares.{Declares, declared_right, streams_declared, streams_small}
use Rattle.table.proofs.Declares as streams
use Rattle.table.proofs.Equates.{Equates, equations_right, equations_read, equations_small}
use Rattle.table.proofs.Equates as equations
use Rattle.node.proofs.Faults.{neither}

module _ (s : List ℕ) where
  -- the record 01 is there
  head_there : head_fault_of s ≡ 0 → (get_or s 0 0 ≡ 1) × (4 ≤ length s)
  unfolding head_fault_of
  head_there f = record_there s 0 1 3 (neither _ _ f).0

  record Headed (ts rs : List ℕ) (m : ℕ) : Type 0 where
    pub size : (least_table ≤ length s) × (length s ≤ most_table)
    pub fine : head_fault_of s ≡ 0
    pub streams : Declares (get_or s 2 0) s (get_or s 2 0 + get_or s 3 0) 0 4 ts rs m

  abbrev HeadsRight : Declared → Type 0
  HeadsRight (declares ts rs m) = Headed ts rs m
  HeadsRight (wrong why place) = Unit {0}

  with_head : (least_table ≤ length s) × (length s ≤ most_table) → head_fault_of s ≡ 0 → (d : Declared) → streams.Right (get_or s 2 0) s (get_or s 2 0 + get_or s 3 0) 0 4 d → HeadsRight d
  with_head l f (declares ts rs m) r = record { size = l; fine = f; streams = r }
  with_head l f (wrong why place) r = tt

  heads_right : HeadsRight (heads s)
  unfolding heads
  heads_right =
      fine_case HeadsRight (leb least_table (length s)) _ _
      (λ a. fine_case HeadsRight (leb (length s) most_table) _ _
      (λ b. fine_case HeadsRight (eqb (head_fault_of s) 0) _ _ (λ p. with_head (leb-true _ _ a, leb-true _ _ b) (eqb-true _ _ p) (declared (get_or s 2 0 + get_or s 3 0) (get_or s 2 0) 0 s 4) (declared_right (get_or s 2 0) s (get_or s 2 0 + get_or s 3 0) 0 4)) (λ _. tt))
      (λ _. tt))
      (λ _. tt)

  abbrev Made : Decoded → Type 0
  Made (decoded t) = Generated s t
  Made (refused why place) = Unit {0}

  module _ (ts rs : List ℕ) (m : ℕ) (h : Headed ts rs m) where
    abbrev table : List Equation → Table
    table qs = record { edition = get_or s 1 0; inputs = get_or s 2 0; types = ts; roles = rs; equations = qs }

    made : (qs : List Equation) (e : ℕ) → Equates ts s (length ts - get_or s 2 0) (get_or s 2 0) m qs e → e ≡ length s → Generated s (table qs)
    unfolding bytes_of
    made qs e x q =
        let f = head_fits s h.fine in
        let w = head_there h.fine in
        let d = h.streams in
        let o : length qs ≡ get_or s 3 0 = omega (arith, x.count, d.count) in
        let a = length-append (streams_bytes_of (get_or s 2 0) 0 ts rs) (equations_bytes_of (get_or s 2 0) qs) in
        let z : length (bytes_of (table qs)) ≡ length s = omega (arith, a, x.end, d.end, q) in
        let st = join s 4 (streams_bytes_of (get_or s 2 0) 0 ts rs) (equations_bytes_of (get_or s 2 0) qs) d.stand (stand_at s d.end x.stand) in
        record {
          rules = record {
            first_edition = f.first_edition;
            some_input = f.some_input;
            some_output = omega (arith, o, f.some_output);
            all = omega (arith, o, d.count);
            few = omega (arith, d.count, f.few);
            formed_streams = d.formed;
            formed_equations = subst (λ (i : ℕ). WellFormedEquations ts (get_or s 2 0) i qs) d.end x.formed;
            size = omega (arith, z, h.size);
          };
          bytes =
              stand_whole s (bytes_of (table qs))
              (put s 0 1 (omega arith) (omega (arith, w.1)) w.0 (put s 1 2 (omega arith) (omega (arith, w.1)) refl (put s 2 3 (omega arith) (omega (arith, w.1)) refl (put s 3 4 (omega arith) (omega (arith, w.1)) (sym o) st)))) z;
        }

    with_equations : (x : Equations) → equations.Right ts s (length ts - get_or s 2 0) (get_or s 2 0) m x → Made (with_equations_of x λ qs e. cond (eqb e (length s)) (decoded (table qs)) (refused bytes_after e))
    with_equations (equated qs e) r = pick_case Made (eqb e (length s)) _ _ (λ p. made qs e r (eqb-true _ _ p)) (λ _. tt)
    with_equations (unfit why place) r = tt

  module _ (bytes : AllBytes s) where
    with_heads : (d : Declared) → HeadsRight d → Made (with_heads_of d λ ts rs n. table_of s ts rs n)
    unfolding table_of
    with_heads (declares ts rs m) h = with_equations ts rs m h (equations_at_of (length ts - get_or s 2 0) (get_or s 2 0) ts s m) (equations_right ts s bytes (length ts - get_or s 2 0) (get_or s 2 0) m)
    with_heads (wrong why place) h = tt

    decode_made : Made (decode s)
    unfolding decode
    decode_made = with_heads (heads s) heads_right

    -- a table that is decoded from bytes is generated
    pub decoded_generated : {t : Table} → decode s ≡ decoded t → Generated s t
    decoded_generated q = subst Made q decode_made

  -- ---- back

  heads_done : {n i : ℕ} {d : Declared} → least_table ≤ length s → length s ≤ most_table → head_fault_of s ≡ 0 → get_or s 2 0 + get_or s 3 0 ≡ n → get_or s 2 0 ≡ i → declared n i 0 s 4 ≡ d → heads s ≡ d
  unfolding heads
  heads_done l h f c e q = rw (le-leb least_table (length s) l, le-leb (length s) most_table h, f, c, e, q)

  table_done : (ts rs : List ℕ) (m i k n : ℕ) (qs : List Equation) → get_or s 2 0 ≡ i → get_or s 1 0 ≡ k → length ts - i ≡ n → equations_at_of n i ts s m ≡ equated qs (length s)
      → table_of s ts rs m ≡ decoded (record { edition = k; inputs = i; types = ts; roles = rs; equations = qs })
  unfolding table_of
  table_done ts rs m i k n qs e f c q = rw (e, f, c, q, eq-eqb (length s) (length s) refl)

  decode_done : {ts rs : List ℕ} {m : ℕ} {d : Decoded} → heads s ≡ declares ts rs m → table_of s ts rs m ≡ d → decode s ≡ d
  unfolding decode
  decode_done e q = rw (e, q)

  record First (a b c d : ℕ) (rest : List ℕ) : Type 0 where
    pub kind : get_or s 0 0 ≡ a
    pub edition_at : get_or s 1 0 ≡ b
    pub inputs_at : get_or s 2 0 ≡ c
    pub outputs_at : get_or s 3 0 ≡ d
    pub room : 4 ≤ length s
    pub stand : Stand s 4 rest

  first_of : (a b c d : ℕ) (rest : List ℕ) → Stand s 0 (a ∷ b ∷ c ∷ d ∷ rest) → First a b c d rest
  first_of a b c d rest (more l e (more l1 e1 (more l2 e2 (more l3 e3 r)))) =
      record { kind = e; edition_at = byte_at s (omega arith) e1; inputs_at = byte_at s (omega arith) e2; outputs_at = byte_at s (omega arith) e3; room = omega arith; stand = stand_at s (omega arith) r }

  -- a table that is generated is decoded from its bytes
  pub generated_decodes : (t : Table) → Generated s t → decode s ≡ decoded t
  unfolding bytes_of
  generated_decodes t y =
      let x = y.rules in
      let q = y.bytes in
      let xs = streams_bytes_of t.inputs 0 t.types t.roles in
      let ys = equations_bytes_of t.inputs t.equations in
      let f = first_of 1 t.edition t.inputs (length t.equations) (xs ++ ys) (subst (Stand s 0) (sym q) (stand_self s)) in
      let w = split s 4 xs ys f.stand in
      let a = length-append xs ys in
      let z = ap length q in
      let b : get_or s 2 0 + get_or s 3 0 ≡ length t.types = omega (arith, f.inputs_at, f.outputs_at, x.all) in
      let h = no_head_fault s f.kind f.room (f.edition_at ∙ x.first_edition) (omega (arith, f.inputs_at, x.some_input)) (omega (arith, f.outputs_at, x.some_output)) (omega (arith, b, x.few)) in
      decode_done
      (heads_done (omega (arith, f.room)) (omega (arith, z, x.size)) h b f.inputs_at (streams_declared t.inputs s 0 4 (4 + length xs) t.types t.roles x.formed_streams w.0 refl))
      (table_done t.types t.roles (4 + length xs) t.inputs t.edition (length t.equations) t.equations f.inputs_at f.edition_at (omega (arith, x.all))
      (equations_read t.types s t.inputs (4 + length xs) (length s) t.equations x.formed_equations w.1 (omega (arith, a, z))))

-- Bytes decode to a table exactly where the grammar generates them from it. That a decoded table is generated needs that they are bytes.
pub decodes_exactly : (s : List ℕ) (t : Table) → (AllBytes s → decode s ≡ decoded t → Generated s t) × (Generated s t → decode s ≡ decoded t)
decodes_exactly s t = (λ bytes q. decoded_generated s bytes q, generated_decodes s t)

-- what is generated are bytes
pub bytes_small : (t : Table) → WellFormedTable t → AllBytes (bytes_of t)
unfolding bytes_of
bytes_small t x =
    byte_more (omega arith) (byte_more (omega (arith, x.first_edition)) (byte_more (omega (arith, x.all, x.few)) (byte_more (omega (arith, x.all, x.few))
    (bytes_append (streams_small t.inputs 0 t.types t.roles x.formed_streams) (equations_small t.types x.few t.inputs _ t.equations (omega (arith, x.all)) x.formed_equations)))))

-- no bytes are those of two tables
pub one_table : {s : List ℕ} {t u : Table} → Generated s t → Generated s u → t ≡ u
one_table {s} {t} {u} g h = same_table (sym (generated_decodes s t g) ∙ generated_decodes s u h)

-- tables that keep to the rules and have the same bytes are the same
pub unambiguous : (t u : Table) → WellFormedTable t → WellFormedTable u → bytes_of t ≡ bytes_of u → t ≡ u
unambiguous t u x y e = one_table (record { rules = x; bytes = e }) (record { rules = y; bytes = refl })
