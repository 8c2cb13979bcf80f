-- The texts of a table's lines are those that are printed of a table; so where a text leaves the lines it is stuck among the printed tables.
-- Assumes nothing.
use Prim.Native.Nat.{ℕ, zero, suc, ◌+◌, ◌≤◌, ◌<◌}
use native.Mathlib.Omega.{arith}
use mathlib.Core.Path.{◌≡◌, refl, sym, ap, ◌∙◌, subst}
use mathlib.Core.Logic.{◌⊎◌, inl, inr, ◌↔◌}
use mathlib.Core.List.{List, [], ◌∷◌, ◌++◌, append_assoc}
use lib.ListN.{length, get_or, drop}
use Rattle.lines.specs.Lines.{decimal}
use Rattle.shapes.specs.Forms.{Fault, Outcome, whole, fault}
use Rattle.shapes.specs.Stuck.{ended, ending, texts_of, Stuck}
use Rattle.shapes.specs.Words.{Pick, first, later, picked}
use Rattle.source.specs.Nodes.{node}
use Rattle.shapes.specs.Places.{Got, Lost}
use Rattle.source.specs.Tables.{in_line, out_line, eq_line, eqs, outs, ins, table_text}
use Rattle.source.specs.Words.{table_word, in_word, out_word, eq_word, line_end_of, type_names, role_names}
use Rattle.source.specs.Trees.{Fits}
use Rattle.source.specs.Source.{Sort, flags, words, levels, Role, plain, trigger, Output, Equation, sort_name, role_name, in_text, out_text, eq_text, each}
use Rattle.source.specs.Source.{print_source, Equations, none, more, source}
use Rattle.shapes.proofs.Forms.{fault_same}
use Rattle.shapes.proofs.Stuck.{fault_not, fault_stuck, end_once, stuck_once}
use Rattle.source.proofs.Trees.{Into, node_into, node_from}
use Rattle.source.proofs.Tables.{table_last}
use Rattle.shapes.proofs.Places.{marked_from}

pub sort_into : (stop : ℕ) (i : Pick (type_names stop)) → (s : Sort) × (picked i ≡ sort_name stop s)
sort_into stop first = (flags, refl)
sort_into stop (later first) = (words, refl)
sort_into stop (later (later first)) = (levels, refl)
sort_into stop (later (later (later i))) = elim i [ ]

pub sort_from : (stop : ℕ) (s : Sort) → (i : Pick (type_names stop)) × (sort_name stop s ≡ picked i)
sort_from stop flags = (first, refl)
sort_from stop words = (later first, refl)
sort_from stop levels = (later (later first), refl)

role_into : (i : Pick role_names) → (r : Role) × (picked i ≡ role_name r)
role_into first = (plain, refl)
role_into (later first) = (trigger, refl)
role_into (later (later i)) = elim i [ ]

role_from : (r : Role) → (i : Pick role_names) × (role_name r ≡ picked i)
role_from plain = (first, refl)
role_from trigger = (later first, refl)

-- lines
pub in_into : (x : in_line.Of) → (s : Sort) × (in_line.print x ≡ in_text s)
in_into x = let s = sort_into 10 x.1 in (s.0, ap (λ (z : List ℕ). in_word ++ z) s.1)

pub in_from : (s : Sort) → (x : in_line.Of) × (in_text s ≡ in_line.print x)
in_from s = let i = sort_from 10 s in ((tt, i.0), ap (λ (z : List ℕ). in_word ++ z) i.1)

pub out_into : (x : out_line.Of) → (o : Output) × (out_line.print x ≡ out_text o)
out_into x =
    let s = sort_into 32 x.1.0 in
    let r = role_into x.1.1 in
    (record { sort = s.0; role = r.0 }, ap (λ (z : List ℕ). out_word ++ (z ++ picked x.1.1)) s.1 ∙ ap (λ (z : List ℕ). out_word ++ (sort_name 32 s.0 ++ z)) r.1)

pub out_from : (o : Output) → (x : out_line.Of) × (out_text o ≡ out_line.print x)
out_from o =
    let i = sort_from 32 o.sort in
    let j = role_from o.role in
    ((tt, (i.0, j.0)), ap (λ (z : List ℕ). out_word ++ (z ++ role_name o.role)) i.1 ∙ ap (λ (z : List ℕ). out_word ++ (picked i.0 ++ z)) j.1)

pub eq_into : (x : eq_line.Of) → (e : Equation) × (e.stream ≤ 255) × Fits 15 e.node × (eq_line.print x ≡ eq_text e)
eq_into x =
    let t = node_into 15 x.1.1.0 in
    (record { stream = x.1.0.0; node = t.0.0 }, x.1.0.1.1, t.0.1, ap (λ (z : List ℕ). eq_word ++ (decimal x.1.0.0 ++ (32 ∷ []) ++ (z ++ (line_end_of ∷ [])))) t.1)

pub eq_from : (e : Equation) → e.stream ≤ 255 → Fits 15 e.node → (x : eq_line.Of) × (eq_text e ≡ eq_line.print x)
eq_from e h f =
    let n = node_from 15 (e.node, f) in
    ((tt, ((e.stream, (omega arith, h)), (n.0, tt))), ap (λ (z : List ℕ). eq_word ++ (decimal e.stream ++ (32 ∷ []) ++ (z ++ (line_end_of ∷ [])))) n.1)

-- a line before the rest
line_first : (u u' r r' : List ℕ) → u ≡ u' → r ≡ r' → u ++ r ≡ u' ++ r'
line_first u u' r r' e d = ap (λ (z : List ℕ). z ++ r) e ∙ ap (λ (z : List ℕ). u' ++ z) d

record EqsAre (k : ℕ) (w : List ℕ) : Type 0 where
  es : List Equation
  many : length es ≡ k
  fit : Equations es
  is : w ≡ ended (each eq_text es)

eqs_into : (k : ℕ) (x : (eqs k).Of) → EqsAre k ((eqs k).print x)
unfolding eqs
eqs_into zero x = record { es = []; many = refl; fit = none; is = refl }
eqs_into (suc k) x =
    let e = eq_into x.0 in
    let h = eqs_into k x.1 in
    record {
      es = e.0 ∷ h.es;
      many = omega (arith, h.many);
      fit = more e.1 e.2 h.fit;
      is = line_first (eq_line.print x.0) (eq_text e.0) ((eqs k).print x.1) (ended (each eq_text h.es)) e.3 h.is
          ∙ sym (append_assoc (eq_text e.0) (each eq_text h.es) (256 ∷ []));
    }

eqs_from : (es : List Equation) → Equations es → (x : (eqs (length es)).Of) × (ended (each eq_text es) ≡ (eqs (length es)).print x)
unfolding eqs
eqs_from es none = (tt, refl)
eqs_from es (more {e} {es = fs} h f g) =
    let x = eq_from e h f in
    let y = eqs_from fs g in
    ((x.0, y.0), append_assoc (eq_text e) (each eq_text fs) (256 ∷ []) ∙ line_first (eq_text e) (eq_line.print x.0) (ended (each eq_text fs)) ((eqs (length fs)).print y.0) x.1 y.1)

record OutsAre (n k : ℕ) (w : List ℕ) : Type 0 where
  os : List Output
  es : List Equation
  few : length os ≤ n
  many : length es ≡ k + length os
  fit : Equations es
  is : w ≡ each out_text os ++ ended (each eq_text es)

-- no `out` line more
no_out : (n k : ℕ) (w : List ℕ) → EqsAre k w → OutsAre n k w
no_out n k w h = record { os = []; es = h.es; few = omega arith; many = omega (arith, h.many); fit = h.fit; is = h.is }

outs_into : (n k : ℕ) (x : (outs n k).Of) → OutsAre n k ((outs n k).print x)
unfolding outs
outs_into zero k x = no_out zero k ((eqs k).print x) (eqs_into k x)
outs_into (suc n) k (inl x) = no_out (suc n) k ((eqs k).print x) (eqs_into k x)
outs_into (suc n) k (inr x) =
    let o = out_into x.0 in
    let h = outs_into n (suc k) x.1 in
    record {
      os = o.0 ∷ h.os;
      es = h.es;
      few = omega (arith, h.few);
      many = omega (arith, h.many);
      fit = h.fit;
      is = line_first (out_line.print x.0) (out_text o.0) ((outs n (suc k)).print x.1) (each out_text h.os ++ ended (each eq_text h.es)) o.1 h.is
          ∙ sym (append_assoc (out_text o.0) (each out_text h.os) (ended (each eq_text h.es)));
    }

outs_from : (n k : ℕ) (os : List Output) (es : List Equation) → length os ≤ n → length es ≡ k + length os → Equations es
    → (x : (outs n k).Of) × (each out_text os ++ ended (each eq_text es) ≡ (outs n k).print x)
unfolding outs
outs_from zero k [] es l m f =
    let e : length es ≡ k = omega arith in
    subst (λ (j : ℕ). (x : (eqs j).Of) × (ended (each eq_text es) ≡ (eqs j).print x)) e (eqs_from es f)
outs_from zero k (o ∷ os) es l m f = absurd (omega arith)
outs_from (suc n) k [] es l m f =
    let e : length es ≡ k = omega arith in
    let x = subst (λ (j : ℕ). (x : (eqs j).Of) × (ended (each eq_text es) ≡ (eqs j).print x)) e (eqs_from es f) in
    (inl x.0, x.1)
outs_from (suc n) k (o ∷ os) es l m f =
    let x = out_from o in
    let y = outs_from n (suc k) os es (omega arith) (omega arith) f in (
      inr (x.0, y.0),
      append_assoc (out_text o) (each out_text os) (ended (each eq_text es))
          ∙ line_first (out_text o) (out_line.print x.0) (each out_text os ++ ended (each eq_text es)) ((outs n (suc k)).print y.0) x.1 y.1,
    )

record InsAre (n : ℕ) (w : List ℕ) : Type 0 where
  ss : List Sort
  rest : List ℕ
  few : length ss ≤ n
  outs : OutsAre 255 0 rest
  is : w ≡ each in_text ss ++ rest

ins_into : (n : ℕ) (x : (ins n).Of) → InsAre n ((ins n).print x)
unfolding ins
ins_into zero x = record { ss = []; rest = (outs 255 0).print x; few = omega arith; outs = outs_into 255 0 x; is = refl }
ins_into (suc n) (inl x) = record { ss = []; rest = (outs 255 0).print x; few = omega arith; outs = outs_into 255 0 x; is = refl }
ins_into (suc n) (inr x) =
    let s = in_into x.0 in
    let h = ins_into n x.1 in
    record {
      ss = s.0 ∷ h.ss;
      rest = h.rest;
      few = omega (arith, h.few);
      outs = h.outs;
      is = line_first (in_line.print x.0) (in_text s.0) ((ins n).print x.1) (each in_text h.ss ++ h.rest) s.1 h.is
          ∙ sym (append_assoc (in_text s.0) (each in_text h.ss) h.rest);
    }

ins_from : (n : ℕ) (ss : List Sort) (os : List Output) (es : List Equation) → length ss ≤ n → length os ≤ 255 → length es ≡ length os → Equations es
    → (x : (ins n).Of) × (each in_text ss ++ (each out_text os ++ ended (each eq_text es)) ≡ (ins n).print x)
unfolding ins
ins_from zero [] os es l o m f = outs_from 255 0 os es o (omega arith) f
ins_from zero (s ∷ ss) os es l o m f = absurd (omega arith)
ins_from (suc n) [] os es l o m f = let x = outs_from 255 0 os es o (omega arith) f in (inl x.0, x.1)
ins_from (suc n) (s ∷ ss) os es l o m f =
    let x = in_from s in
    let y = ins_from n ss os es (omega arith) o m f in (
      inr (x.0, y.0),
      append_assoc (in_text s) (each in_text ss) (each out_text os ++ ended (each eq_text es))
          ∙ line_first (in_text s) (in_line.print x.0) (each in_text ss ++ (each out_text os ++ ended (each eq_text es))) ((ins n).print y.0) x.1 y.1,
    )

-- the end mark moves out
pub end_out : (h : List ℕ) (i o e : List ℕ) → h ++ (i ++ (o ++ ended e)) ≡ ended (h ++ (i ++ (o ++ e)))
end_out h i o e =
    ap (λ (z : List ℕ). h ++ (i ++ z)) (sym (append_assoc o e (256 ∷ []))) ∙ ap (λ (z : List ℕ). h ++ z) (sym (append_assoc i (o ++ e) (256 ∷ [])))
    ∙ sym (append_assoc h (i ++ (o ++ e)) (256 ∷ []))

pub table_into : Into table_text (ending source)
unfolding print_source
table_into x =
    let h = ins_into 255 x.1 in
    let edition = x.0.1.0 in
    let head = table_word ++ (decimal edition ++ (line_end_of ∷ [])) in (
      (
        record { edition = edition; inputs = h.ss; outputs = h.outs.os; equations = h.outs.es },
        record { byte = x.0.1.1.1; few_in = h.few; few_out = h.outs.few; as_many = omega (arith, h.outs.many); fit = h.outs.fit },
      ),
      ap (λ (z : List ℕ). head ++ z) (h.is ∙ ap (λ (z : List ℕ). each in_text h.ss ++ z) h.outs.is)
          ∙ end_out head (each in_text h.ss) (each out_text h.outs.os) (each eq_text h.outs.es),
    )

pub table_from : Into (ending source) table_text
unfolding print_source
table_from s =
    let r = s.1 in
    let y = ins_from 255 s.0.inputs s.0.outputs s.0.equations r.few_in r.few_out r.as_many r.fit in
    let head = table_word ++ (decimal s.0.edition ++ (line_end_of ∷ [])) in (
      ((tt, (s.0.edition, (omega arith, r.byte))), y.0),
      sym (end_out head (each in_text s.0.inputs) (each out_text s.0.outputs) (each eq_text s.0.equations)) ∙ ap (λ (z : List ℕ). head ++ z) y.1,
    )

lost_source : (text : List ℕ) (p : ℕ) → Lost table_text text 0 p → Fault (ending source) (ended text) p
lost_source text p h =
    let e : h.far ≡ p = omega (arith, h.place) in
    subst (λ (k : ℕ). Fault (ending source) (ended text) k) e
    (fault_same table_text (ending source) (λ x. (table_into x).0) (λ y. (table_from y).0) (λ x. (table_into x).1) (λ y. (table_from y).1) h.leaves)

-- refusal 17: a reader that loses the lines at p refuses a text of no table, at the one place where it is stuck
pub lost_refused : (text : List ℕ) (p : ℕ) → Lost table_text text 0 p → (texts_of source text → ⊥) × Stuck (texts_of source) text p
lost_refused text p h = (fault_not source text p (lost_source text p h), fault_stuck source text p (lost_source text p h))

-- no other place: exactly where
pub lost_only : (text : List ℕ) (p q : ℕ) → Lost table_text text 0 p → Stuck (texts_of source) text q → p ≡ q
lost_only text p q h k = stuck_once (lost_refused text p h).1 k

-- and a reader that gets the lines has the table that the text is printed of
pub got_source : (text : List ℕ) (x : table_text.Of) (end : ℕ) → ((k : ℕ) → k < length text → get_or text k 0 < 256) → Got table_text text 0 x end → text ≡ print_source (table_into x).0.0
got_source text x end b h =
    end_once text (print_source (table_into x).0.0) (drop end (ended text)) b
    (h.reads ∙ ap (λ (z : List ℕ). z ++ drop end (ended text)) (table_into x).1)

-- such a reader exists: every text of bytes is of a table or stuck somewhere
pub read_text : (text : List ℕ) → ((k : ℕ) → k < length text → get_or text k 0 < 256) → texts_of source text ⊎ ((p : ℕ) × Lost table_text text 0 p)
read_text text b = by (table_last.reads (ended text) (marked_from text 0 (omega arith)))
  where
    by : Outcome table_text (ended text) → texts_of source text ⊎ ((p : ℕ) × Lost table_text text 0 p)
    by (whole x r e) = inl ((table_into x).0, end_once text (print_source (table_into x).0.0) r b (e ∙ ap (λ (z : List ℕ). z ++ r) (table_into x).1))
    by (fault p h) = inr (p, record { far = p; place = omega arith; leaves = h })

-- refusal 17, exactly: the lines are lost at p where the text is of no table and stuck at p, and nowhere else
pub refused_exactly : (text : List ℕ) (p : ℕ) → ((k : ℕ) → k < length text → get_or text k 0 < 256)
    → Lost table_text text 0 p ↔ ((texts_of source text → ⊥) × Stuck (texts_of source) text p)
refused_exactly text p b = (lost_refused text p, λ h. by h (read_text text b))
  where
    by : (texts_of source text → ⊥) × Stuck (texts_of source) text p → texts_of source text ⊎ ((q : ℕ) × Lost table_text text 0 q) → Lost table_text text 0 p
    by h (inl x) = absurd (h.0 x)
    by h (inr l) = subst (λ (k : ℕ). Lost table_text text 0 k) (lost_only text l.0 p l.1 h.1) l.1
