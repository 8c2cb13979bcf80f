-- One table for each text: what is printed of a table determines it. Assumes nothing.
use Prim.Native.Nat.{ℕ, ◌+◌, ◌≤◌, ◌<◌}
use native.Mathlib.Omega.{arith}
use mathlib.Core.Path.{◌≡◌, refl, sym, ap, ◌∙◌, subst}
use mathlib.Core.Logic.{◌⊎◌, inl, inr}
use mathlib.Core.List.{List, [], ◌∷◌, ◌++◌, append_assoc}
use lib.ListN.{length, get_or, drop}
use Rattle.lines.specs.Lines.{decimal}
use Rattle.shapes.specs.Forms.{Parts}
use Rattle.shapes.specs.Stuck.{ended}
use Rattle.shapes.specs.Numbers.{number}
use Rattle.source.specs.Tables.{table_text}
use Rattle.source.specs.Words.{table_word, eq_word, line_end_of}
use Rattle.source.specs.Trees.{Tree, Fits, print_tree}
use Rattle.source.specs.Source.{Sort, flags, words, levels, Role, plain, trigger, Output, Equation, Source, in_text, out_text, eq_text, each}
use Rattle.source.specs.Source.{print_source, Equations, none, more, Ready}
use Rattle.shapes.proofs.Forms.{parts_more, parts_before, parts_behind}
use Rattle.shapes.proofs.Words.{parts_by_test}
use Rattle.shapes.proofs.Answers.{parts_differ}
use Rattle.shapes.proofs.Numbers.{number_plain}
use Rattle.source.proofs.Trees.{trees_apart}
use Rattle.shapes.specs.Places.{Got, Lost}
use Rattle.source.proofs.Source.{end_out, table_into, got_source, lost_refused}

cancel : (u r t : List ℕ) → u ++ r ≡ u ++ t → r ≡ t
cancel [] r t e = e
cancel (b ∷ u) r t e = cancel u r t (ap (drop 1) e)

-- lines that begin with b, before something that does not
module _ {A : Type 0} (line : A → List ℕ) (P : A → Type 0) (b : ℕ) (starts : (x : A) → get_or (line x) 0 0 ≡ b) (filled : (x : A) → 1 ≤ length (line x))
    (apart : (x y : A) → P x → P y → (x ≡ y) ⊎ ((k : ℕ) × Parts (line x) (line y) k)) where
  data All : List A → Type 0 where
    all_none : All []
    all_more : {x : A} {xs : List A} → P x → All xs → All (x ∷ xs)

  head_of_lem : (x : A) (r : List ℕ) → get_or (line x ++ r) 0 0 ≡ b
  head_of_lem x r = go (line x) (filled x) (starts x)
    where
      go : (l : List ℕ) → 1 ≤ length l → get_or l 0 0 ≡ b → get_or (l ++ r) 0 0 ≡ b
      go [] h e = absurd (omega arith)
      go (c ∷ l) h e = e

  lines_once : (xs ys : List A) → All xs → All ys → (r t : List ℕ) → (get_or r 0 0 ≡ b → ⊥) → (get_or t 0 0 ≡ b → ⊥)
      → each line xs ++ r ≡ each line ys ++ t → (xs ≡ ys) × (r ≡ t)
  lines_once [] [] p q r t m n e = (refl, e)
  lines_once [] (y ∷ ys) p q r t m n e = absurd (m (ap (λ (l : List ℕ). get_or l 0 0) e ∙ ap (λ (l : List ℕ). get_or l 0 0) (append_assoc (line y) (each line ys) t) ∙ head_of_lem y (each line ys ++ t)))
  lines_once (x ∷ xs) [] p q r t m n e = absurd (n (ap (λ (l : List ℕ). get_or l 0 0) (sym e) ∙ ap (λ (l : List ℕ). get_or l 0 0) (append_assoc (line x) (each line xs) r) ∙ head_of_lem x (each line xs ++ r)))
  lines_once (x ∷ xs) (y ∷ ys) (all_more h p) (all_more i q) r t m n e = by (apart x y h i) (lines_once xs ys p q r t m n)
    where
      d : line x ++ (each line xs ++ r) ≡ line y ++ (each line ys ++ t)
      d = sym (append_assoc (line x) (each line xs) r) ∙ e ∙ append_assoc (line y) (each line ys) t

      by : (x ≡ y) ⊎ ((k : ℕ) × Parts (line x) (line y) k) → (each line xs ++ r ≡ each line ys ++ t → (xs ≡ ys) × (r ≡ t)) → (◌≡◌ {A = List A} (x ∷ xs) (y ∷ ys)) × (r ≡ t)
      by (inl f) g =
          let o = g (cancel (line x) (each line xs ++ r) (each line ys ++ t) (d ∙ ap (λ (z : A). line z ++ (each line ys ++ t)) (sym f))) in
          (ap (λ (z : A). z ∷ xs) f ∙ ap (λ (l : List A). y ∷ l) o.0, o.1)
      by (inr w) g = absurd (parts_differ (line x) (line y) (each line xs ++ r) (each line ys ++ t) w.0 w.1 d)

in_apart : (s t : Sort) → (s ≡ t) ⊎ ((k : ℕ) × Parts (in_text s) (in_text t) k)
in_apart flags flags = inl refl
in_apart flags words = inr (parts_by_test (in_text flags) (in_text words) refl)
in_apart flags levels = inr (parts_by_test (in_text flags) (in_text levels) refl)
in_apart words flags = inr (parts_by_test (in_text words) (in_text flags) refl)
in_apart words words = inl refl
in_apart words levels = inr (parts_by_test (in_text words) (in_text levels) refl)
in_apart levels flags = inr (parts_by_test (in_text levels) (in_text flags) refl)
in_apart levels words = inr (parts_by_test (in_text levels) (in_text words) refl)
in_apart levels levels = inl refl

abbrev out_of : Sort → Role → Output
out_of s r = record { sort = s; role = r }

out_apart : (o p : Output) → (o ≡ p) ⊎ ((k : ℕ) × Parts (out_text o) (out_text p) k)
out_apart o p = by o.sort o.role p.sort p.role
  where
    by : (s : Sort) (r : Role) (t : Sort) (q : Role)
        → (◌≡◌ {A = Output} (record { sort = s; role = r }) (record { sort = t; role = q })) ⊎ ((k : ℕ) × Parts (out_text (record { sort = s; role = r })) (out_text (record { sort = t; role = q })) k)
    by flags plain flags plain = inl refl
    by flags plain flags trigger = inr (parts_by_test (out_text (out_of flags plain)) (out_text (out_of flags trigger)) refl)
    by flags plain words plain = inr (parts_by_test (out_text (out_of flags plain)) (out_text (out_of words plain)) refl)
    by flags plain words trigger = inr (parts_by_test (out_text (out_of flags plain)) (out_text (out_of words trigger)) refl)
    by flags plain levels plain = inr (parts_by_test (out_text (out_of flags plain)) (out_text (out_of levels plain)) refl)
    by flags plain levels trigger = inr (parts_by_test (out_text (out_of flags plain)) (out_text (out_of levels trigger)) refl)
    by flags trigger flags plain = inr (parts_by_test (out_text (out_of flags trigger)) (out_text (out_of flags plain)) refl)
    by flags trigger flags trigger = inl refl
    by flags trigger words plain = inr (parts_by_test (out_text (out_of flags trigger)) (out_text (out_of words plain)) refl)
    by flags trigger words trigger = inr (parts_by_test (out_text (out_of flags trigger)) (out_text (out_of words trigger)) refl)
    by flags trigger levels plain = inr (parts_by_test (out_text (out_of flags trigger)) (out_text (out_of levels plain)) refl)
    by flags trigger levels trigger = inr (parts_by_test (out_text (out_of flags trigger)) (out_text (out_of levels trigger)) refl)
    by words plain flags plain = inr (parts_by_test (out_text (out_of words plain)) (out_text (out_of flags plain)) refl)
    by words plain flags trigger = inr (parts_by_test (out_text (out_of words plain)) (out_text (out_of flags trigger)) refl)
    by words plain words plain = inl refl
    by words plain words trigger = inr (parts_by_test (out_text (out_of words plain)) (out_text (out_of words trigger)) refl)
    by words plain levels plain = inr (parts_by_test (out_text (out_of words plain)) (out_text (out_of levels plain)) refl)
    by words plain levels trigger = inr (parts_by_test (out_text (out_of words plain)) (out_text (out_of levels trigger)) refl)
    by words trigger flags plain = inr (parts_by_test (out_text (out_of words trigger)) (out_text (out_of flags plain)) refl)
    by words trigger flags trigger = inr (parts_by_test (out_text (out_of words trigger)) (out_text (out_of flags trigger)) refl)
    by words trigger words plain = inr (parts_by_test (out_text (out_of words trigger)) (out_text (out_of words plain)) refl)
    by words trigger words trigger = inl refl
    by words trigger levels plain = inr (parts_by_test (out_text (out_of words trigger)) (out_text (out_of levels plain)) refl)
    by words trigger levels trigger = inr (parts_by_test (out_text (out_of words trigger)) (out_text (out_of levels trigger)) refl)
    by levels plain flags plain = inr (parts_by_test (out_text (out_of levels plain)) (out_text (out_of flags plain)) refl)
    by levels plain flags trigger = inr (parts_by_test (out_text (out_of levels plain)) (out_text (out_of flags trigger)) refl)
    by levels plain words plain = inr (parts_by_test (out_text (out_of levels plain)) (out_text (out_of words plain)) refl)
    by levels plain words trigger = inr (parts_by_test (out_text (out_of levels plain)) (out_text (out_of words trigger)) refl)
    by levels plain levels plain = inl refl
    by levels plain levels trigger = inr (parts_by_test (out_text (out_of levels plain)) (out_text (out_of levels trigger)) refl)
    by levels trigger flags plain = inr (parts_by_test (out_text (out_of levels trigger)) (out_text (out_of flags plain)) refl)
    by levels trigger flags trigger = inr (parts_by_test (out_text (out_of levels trigger)) (out_text (out_of flags trigger)) refl)
    by levels trigger words plain = inr (parts_by_test (out_text (out_of levels trigger)) (out_text (out_of words plain)) refl)
    by levels trigger words trigger = inr (parts_by_test (out_text (out_of levels trigger)) (out_text (out_of words trigger)) refl)
    by levels trigger levels plain = inr (parts_by_test (out_text (out_of levels trigger)) (out_text (out_of levels plain)) refl)
    by levels trigger levels trigger = inl refl

eq_apart : (e f : Equation) → (e.stream ≤ 255) × Fits 15 e.node → (f.stream ≤ 255) × Fits 15 f.node → (e ≡ f) ⊎ ((k : ℕ) × Parts (eq_text e) (eq_text f) k)
eq_apart e f h i = by ((number_plain 0 255 32 (omega arith)).apart (e.stream, (omega arith, h.0)) (f.stream, (omega arith, i.0))) (trees_apart 15 e.node f.node h.1 i.1)
  where
    by : (◌≡◌ {A = (number 0 255 32).Of} (e.stream, (omega arith, h.0)) (f.stream, (omega arith, i.0))) ⊎ ((k : ℕ) × Parts (decimal e.stream ++ (32 ∷ [])) (decimal f.stream ++ (32 ∷ [])) k)
        → (e.node ≡ f.node) ⊎ ((k : ℕ) × Parts (print_tree e.node) (print_tree f.node) k) → (e ≡ f) ⊎ ((k : ℕ) × Parts (eq_text e) (eq_text f) k)
    by (inr w) o = inr (length eq_word + w.0, parts_behind eq_word (parts_more (print_tree e.node ++ (line_end_of ∷ [])) (parts_before (print_tree f.node ++ (line_end_of ∷ [])) w.1)))
    by (inl d) (inl g) =
        inl (ap (λ (z : (number 0 255 32).Of). record { stream = z.0; node = e.node }) d ∙ ap (λ (z : Tree). record { stream = f.stream; node = z }) g)
    by (inl d) (inr w) =
        inr (
          length eq_word + (length (decimal f.stream ++ (32 ∷ [])) + w.0),
          subst (λ (z : ℕ). Parts (eq_word ++ (decimal z ++ (32 ∷ []) ++ (print_tree e.node ++ (line_end_of ∷ [])))) (eq_text f) (length eq_word + (length (decimal f.stream ++ (32 ∷ [])) + w.0)))
              (ap (λ (z : (number 0 255 32).Of). z.0) (sym d))
              (parts_behind eq_word (parts_behind (decimal f.stream ++ (32 ∷ [])) (parts_more (line_end_of ∷ []) (parts_before (line_end_of ∷ []) w.1)))),
        )

every : {A : Type 0} (line : A → List ℕ) (b : ℕ) (starts : (x : A) → get_or (line x) 0 0 ≡ b) (filled : (x : A) → 1 ≤ length (line x))
    (apart : (x y : A) → Unit {0} → Unit {0} → (x ≡ y) ⊎ ((k : ℕ) × Parts (line x) (line y) k)) (xs : List A) → All line (λ _. Unit {0}) b starts filled apart xs
every line b starts filled apart [] = all_none
every line b starts filled apart (x ∷ xs) = all_more tt (every line b starts filled apart xs)

-- what may follow the lines of one sort
ends_head : (es : List Equation) (b : ℕ) → (101 ≡ b → ⊥) → (256 ≡ b → ⊥) → get_or (ended (each eq_text es)) 0 0 ≡ b → ⊥
ends_head [] b m n e = n e
ends_head (x ∷ es) b m n e = m e

outs_head : (os : List Output) (es : List Equation) (b : ℕ) → (111 ≡ b → ⊥) → (101 ≡ b → ⊥) → (256 ≡ b → ⊥) → get_or (each out_text os ++ ended (each eq_text es)) 0 0 ≡ b → ⊥
outs_head [] es b k m n e = ends_head es b m n e
outs_head (o ∷ os) es b k m n e = k e

in_starts : (s : Sort) → get_or (in_text s) 0 0 ≡ 105
in_starts s = refl

out_starts : (o : Output) → get_or (out_text o) 0 0 ≡ 111
out_starts o = refl

eq_starts : (e : Equation) → get_or (eq_text e) 0 0 ≡ 101
eq_starts e = refl

EqFit : Equation → Type 0
EqFit e = (e.stream ≤ 255) × Fits 15 e.node

eq_apart_fit : (e f : Equation) → EqFit e → EqFit f → (e ≡ f) ⊎ ((k : ℕ) × Parts (eq_text e) (eq_text f) k)
unfolding EqFit
eq_apart_fit e f h i = eq_apart e f h i

eqs_all : (es : List Equation) → Equations es → All eq_text EqFit 101 eq_starts (λ e. omega arith) eq_apart_fit es
unfolding EqFit
eqs_all es none = all_none
eqs_all es (more h f g) = all_more (h, f) (eqs_all _ g)

-- the lines determine what they are printed of
rest_once : (is js : List Sort) (os ps : List Output) (es fs : List Equation) → Equations es → Equations fs
    → each in_text is ++ (each out_text os ++ ended (each eq_text es)) ≡ each in_text js ++ (each out_text ps ++ ended (each eq_text fs))
    → (is ≡ js) × (os ≡ ps) × (es ≡ fs)
rest_once is js os ps es fs h i e =
    let a = lines_once in_text (λ _. Unit {0}) 105 in_starts (λ s. omega arith) (λ x y _ _. in_apart x y) is js
    (every in_text 105 in_starts (λ s. omega arith) (λ x y _ _. in_apart x y) is) (every in_text 105 in_starts (λ s. omega arith) (λ x y _ _. in_apart x y) js)
    (each out_text os ++ ended (each eq_text es)) (each out_text ps ++ ended (each eq_text fs))
    (outs_head os es 105 (λ z. omega arith) (λ z. omega arith) (λ z. omega arith)) (outs_head ps fs 105 (λ z. omega arith) (λ z. omega arith) (λ z. omega arith)) e in
    let b = lines_once out_text (λ _. Unit {0}) 111 out_starts (λ s. omega arith) (λ x y _ _. out_apart x y) os ps
    (every out_text 111 out_starts (λ s. omega arith) (λ x y _ _. out_apart x y) os) (every out_text 111 out_starts (λ s. omega arith) (λ x y _ _. out_apart x y) ps)
    (ended (each eq_text es)) (ended (each eq_text fs)) (ends_head es 111 (λ z. omega arith) (λ z. omega arith)) (ends_head fs 111 (λ z. omega arith) (λ z. omega arith)) a.1 in
    let c = lines_once eq_text EqFit 101 eq_starts (λ e. omega arith) eq_apart_fit es fs (eqs_all es h) (eqs_all fs i) (256 ∷ []) (256 ∷ []) (λ z. omega arith) (λ z. omega arith) b.1 in
    (a.0, b.0, c.0)

-- two tables with one text are equal
pub source_once : (s t : Source) → Ready s → Ready t → print_source s ≡ print_source t → s ≡ t
unfolding print_source
source_once s t h i e = by ((number_plain 0 255 10 (omega arith)).apart (s.edition, (omega arith, h.byte)) (t.edition, (omega arith, i.byte)))
  where
    tail : Source → List ℕ
    tail r = each in_text r.inputs ++ (each out_text r.outputs ++ ended (each eq_text r.equations))

    whole : (r : Source) → table_word ++ ((decimal r.edition ++ (line_end_of ∷ [])) ++ tail r) ≡ ended (table_word ++ (decimal r.edition ++ (line_end_of ∷ [])) ++ (each in_text r.inputs ++ (each out_text r.outputs ++ each eq_text r.equations)))
    whole r = end_out (table_word ++ (decimal r.edition ++ (line_end_of ∷ []))) (each in_text r.inputs) (each out_text r.outputs) (each eq_text r.equations)

    d : (decimal s.edition ++ (line_end_of ∷ [])) ++ tail s ≡ (decimal t.edition ++ (line_end_of ∷ [])) ++ tail t
    d = ap (drop 6) (whole s ∙ ap ended e ∙ sym (whole t))

    same : s.edition ≡ t.edition → s ≡ t
    same f =
        let g = cancel (decimal s.edition ++ (line_end_of ∷ [])) (tail s) (tail t) (d ∙ ap (λ (z : ℕ). (decimal z ++ (line_end_of ∷ [])) ++ tail t) (sym f)) in
        let o = rest_once s.inputs t.inputs s.outputs t.outputs s.equations t.equations h.fit i.fit g in
        ap (λ (z : ℕ). record { edition = z; inputs = s.inputs; outputs = s.outputs; equations = s.equations }) f
        ∙ ap (λ (z : List Sort). record { edition = t.edition; inputs = z; outputs = s.outputs; equations = s.equations }) o.0
        ∙ ap (λ (z : List Output). record { edition = t.edition; inputs = t.inputs; outputs = z; equations = s.equations }) o.1
        ∙ ap (λ (z : List Equation). record { edition = t.edition; inputs = t.inputs; outputs = t.outputs; equations = z }) o.2

    by : (◌≡◌ {A = (number 0 255 10).Of} (s.edition, (omega arith, h.byte)) (t.edition, (omega arith, i.byte))) ⊎ ((k : ℕ) × Parts (decimal s.edition ++ (line_end_of ∷ [])) (decimal t.edition ++ (line_end_of ∷ [])) k) → s ≡ t
    by (inl f) = same (ap (λ (z : (number 0 255 10).Of). z.0) f)
    by (inr w) = absurd (parts_differ (decimal s.edition ++ (line_end_of ∷ [])) (decimal t.edition ++ (line_end_of ∷ [])) (tail s) (tail t) w.0 w.1 d)

-- what is read of a printed table is that table, and it is never refused
pub read_back : (s : Source) → Ready s → ((k : ℕ) → k < length (print_source s) → get_or (print_source s) k 0 < 256) → (x : table_text.Of) (end : ℕ)
    → Got table_text (print_source s) 0 x end → (table_into x).0.0 ≡ s
read_back s r b x end g = source_once (table_into x).0.0 s (table_into x).0.1 r (sym (got_source (print_source s) x end b g))

pub printed_not_lost : (s : Source) → Ready s → (p : ℕ) → Lost table_text (print_source s) 0 p → ⊥
printed_not_lost s r p h = (lost_refused (print_source s) p h).0 ((s, r), refl)
