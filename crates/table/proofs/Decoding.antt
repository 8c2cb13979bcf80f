-- The whole table, as it is decoded behind its heading: a refused heading, equations, bytes after them.
-- Assumes nothing.
use Rattle.std.proofs.Common.{Ok, Err}
use mathlib.Core.Path.{◌≡◌, refl, sym, ap, ◌∙◌}
use mathlib.Core.List.{List, ◌++◌}
use Prim.Native.Nat.{ℕ, ◌-◌, ◌≤◌, ◌<◌}
use native.Mathlib.Omega.{arith}
use borrow.Author.Tests.{eq-eqb, ne_eqb}
use lib.ListN.{length, get_or, take, replicate}
use lib.Seq.{take-append_seam}
use Rattle.limits.specs.Faults.{number_for}
use Rattle.limits.specs.Limits.{most_streams}
use Rattle.limits.specs.declared.Fault.TheVariants.{BytesAfter}
use Rattle.limits.specs.declared.Refusal.{Refusal}
use Rattle.limits.specs.Refusals.{bytes_after}
use Rattle.table.proofs.Arrays.{padded_length}
use Rattle.table.proofs.Streams.{HeadsFit, Headed, heads_fit, EndsWithin, heads_within}
use Rattle.table.specs.declared.Heading.{Heading}
use Rattle.table.specs.declared.Solved.{Solved}
use Rattle.table.specs.declared.Scan.{Scan}
use Rattle.table.specs.Records.{Declared, declares, wrong, heads}
use Rattle.table.specs.Table.{Equation, Equations, equated, unfit, equations_at_of, Table, Decoded, decoded, refused, table_of, decode}
use Rattle.table.specs.Answers.{padded, HeadingFor, Laid, Headings, starts_of, Solves, scan_of, Scans}

-- a heading without a fault, with the arrays that were lent for types and roles, and what it says of the table s
pub record Opens (s : List ℕ) (h : Heading) (lent_types lent_roles : List ℕ) : Type 0 where
  pub types : List ℕ
  pub roles : List ℕ
  pub place : ℕ
  pub heads_are : heads s ≡ declares types roles place
  pub heading_is : h ≡ record { place = place; inputs = get_or s 2 0; streams = length types }
  pub types_are : lent_types ≡ padded types
  pub roles_are : lent_roles ≡ padded roles
  pub fits : HeadsFit s types roles
  pub within : place ≤ length s

module _ (s : List ℕ) where
  opens_by : {h : Heading} {lt lr : List ℕ} (d : Declared) → heads s ≡ d → HeadingFor (get_or s 2 0) d (Ok h) → Laid d lt lr → Headed s d → EndsWithin (length s) d → Opens s h lt lr
  opens_by (declares ts rs n) e q l f w =
      record { types = ts; roles = rs; place = n; heads_are = e; heading_is = q; types_are = l.0; roles_are = l.1; fits = f; within = w }
  opens_by (wrong why place) e q l f w = absurd q

  pub opens : {h : Heading} {lt lr : List ℕ} → Headings (get_or s 2 0) (heads s) (Ok h) lt lr → Opens s h lt lr
  opens p = opens_by (heads s) refl p.answer p.laid (heads_fit s) (heads_within s)

  unheaded_by : (r : Refusal) (d : Declared) → heads s ≡ d → HeadingFor (get_or s 2 0) d (Err r) → decode s ≡ refused (number_for r.fault) r.place
  unfolding decode
  unheaded_by r (declares ts rs n) e q = absurd q
  unheaded_by r (wrong why place) e q = rw (e, q.0, q.1)

  -- a refused heading refuses the table
  pub decode_unheaded : {r : Refusal} {lt lr : List ℕ} → Headings (get_or s 2 0) (heads s) (Err r) lt lr → decode s ≡ refused (number_for r.fault) r.place
  decode_unheaded {r} p = unheaded_by r (heads s) refl p.answer

  -- the scan is refused where the table is
  pub scan_refused : (r : Refusal) → decode s ≡ refused (number_for r.fault) r.place → Scans (decode s) (Err r)
  scan_refused r e = rw e (refl, refl)

module _ {s : List ℕ} {h : Heading} {lt lr : List ℕ} (o : Opens s h lt lr) where
  pub opened_inputs : h.inputs ≡ get_or s 2 0
  opened_inputs = ap (λ (h : Heading). h.inputs) o.heading_is

  pub opened_streams : h.streams ≡ length o.types
  opened_streams = ap (λ (h : Heading). h.streams) o.heading_is

  pub opened_types : take h.streams lt ≡ o.types
  opened_types = ap (λ (n : ℕ). take n lt) opened_streams ∙ ap (take (length o.types)) o.types_are ∙ take-append_seam o.types (replicate (most_streams - length o.types) 0)

  pub opened_place : h.place ≡ o.place
  opened_place = ap (λ (h : Heading). h.place) o.heading_is

  -- "I and O at least 1; S at most 32"
  pub opened_few : (1 ≤ h.inputs) × ((h.inputs < h.streams) × (h.streams ≤ most_streams))
  opened_few = omega (arith, opened_inputs, opened_streams, o.fits.streams.types_are, o.fits.head.some_input, o.fits.head.some_output, o.fits.head.few)

  -- the lent array has 32 entries
  pub opened_array : length lt ≡ most_streams
  opened_array = ap length o.types_are ∙ padded_length o.types (omega (arith, opened_streams, opened_few))

  -- "types are 0 flag, 1 word, 2 level"
  pub opened_typed : (v : ℕ) → get_or (take h.streams lt) v 0 < 3
  opened_typed v = rw opened_types (omega (arith, (o.fits.streams.each_fits v).type_is))

  -- the first equation's place lies in the table, or at its end
  pub opened_within : h.place ≤ length s
  opened_within = omega (arith, opened_place, o.within)

  -- the equations behind the heading
  abbrev pub behind_heading : Equations
  behind_heading = equations_at_of (h.streams - h.inputs) h.inputs (take h.streams lt) s h.place

  behind_is : behind_heading ≡ equations_at_of (length o.types - get_or s 2 0) (get_or s 2 0) o.types s o.place
  behind_is = rw (opened_types, opened_streams, opened_inputs, opened_place)

  pub decode_unfit : {why place : ℕ} → behind_heading ≡ unfit why place → decode s ≡ refused why place
  unfolding decode table_of
  decode_unfit e = rw (o.heads_are, sym behind_is ∙ e)

  pub decode_more : {qs : List Equation} {e : ℕ} → behind_heading ≡ equated qs e → (e ≡ length s → ⊥) → decode s ≡ refused bytes_after e
  unfolding decode table_of
  decode_more q z = rw (o.heads_are, sym behind_is ∙ q, ne_eqb _ _ z)

  pub decode_equated : {qs : List Equation} {e : ℕ} → behind_heading ≡ equated qs e → e ≡ length s
      → decode s ≡ decoded (record { edition = get_or s 1 0; inputs = get_or s 2 0; types = o.types; roles = o.roles; equations = qs })
  unfolding decode table_of
  decode_equated q z = rw (o.heads_are, sym behind_is ∙ q, eq-eqb _ _ z)

-- equations without a fault
pub record Equated (x : Equations) (l : List ℕ) (q : Solved) : Type 0 where
  pub equations : List Equation
  pub are : x ≡ equated equations q.place
  pub starts_are : q.starts ≡ padded (l ++ starts_of equations)

equated_by : (l : List ℕ) (q : Solved) (x : Equations) → Solves l x (Ok q) → Equated x l q
equated_by l q (equated qs m) p =
    record { equations = qs; are = ap (equated qs) (sym (ap (λ (q : Solved). q.place) p)); starts_are = ap (λ (q : Solved). q.starts) p }
equated_by l q (unfit why place) p = absurd p

solved_unfit : (l : List ℕ) (r : Refusal) (x : Equations) → Solves l x (Err r) → x ≡ unfit (number_for r.fault) r.place
solved_unfit l r (equated qs n) p = absurd p
solved_unfit l r (unfit why place) p = λ i. unfit (p.0 i) (p.1 i)

module _ {s : List ℕ} {h : Heading} {lt lr : List ℕ} (o : Opens s h lt lr) where
  pub scan_unfit : (r : Refusal) → Solves (replicate h.inputs 0) (behind_heading o) (Err r) → Scans (decode s) (Err r)
  scan_unfit r p = scan_refused s r (decode_unfit o (solved_unfit (replicate h.inputs 0) r (behind_heading o) p))

  module _ (q : Solved) (p : Solves (replicate h.inputs 0) (behind_heading o) (Ok q)) where
    behind : Equated (behind_heading o) (replicate h.inputs 0) q
    behind = equated_by (replicate h.inputs 0) q (behind_heading o) p

    pub scan_more : (q.place ≡ length s → ⊥) → Scans (decode s) (Err (record { fault = BytesAfter; place = q.place }))
    scan_more g = scan_refused s _ (decode_more o behind.are g)

    pub scan_accepted : q.place ≡ length s → Scans (decode s) (Ok (record { inputs = h.inputs; streams = h.streams; types = lt; roles = lr; starts = q.starts }))
    unfolding scan_of
    scan_accepted g =
        rw (decode_equated o behind.are g)
        (λ d. record {
          inputs = opened_inputs o d;
          streams = opened_streams o d;
          types = o.types_are d;
          roles = o.roles_are d;
          starts = (behind.starts_are ∙ ap (λ (i : ℕ). padded (replicate i 0 ++ starts_of behind.equations)) (opened_inputs o)) d;
        })

-- what a scan of the table s tells of its decoding
pub record Accepts (s : List ℕ) (r : Scan) : Type 0 where
  pub table : Table
  pub decodes : decode s ≡ decoded table
  pub scan_is : r ≡ scan_of table

module _ (s : List ℕ) where
  accepts_by : (r : Scan) (d : Decoded) → decode s ≡ d → Scans d (Ok r) → Accepts s r
  accepts_by r (decoded t) e q = record { table = t; decodes = e; scan_is = q }
  accepts_by r (refused why place) e q = absurd q

  pub scan_accepts : (r : Scan) → Scans (decode s) (Ok r) → Accepts s r
  scan_accepts r p = accepts_by r (decode s) refl p

  refuses_by : (r : Refusal) (d : Decoded) → Scans d (Err r) → d ≡ refused (number_for r.fault) r.place
  refuses_by r (decoded t) q = absurd q
  refuses_by r (refused why place) q = λ i. refused (q.0 i) (q.1 i)

  pub scan_refuses : (r : Refusal) → Scans (decode s) (Err r) → decode s ≡ refused (number_for r.fault) r.place
  scan_refuses r p = refuses_by r (decode s) p

-- bytes decode to one table
pub same_table : {t u : Table} → decoded t ≡ decoded u → t ≡ u
same_table e = cc
