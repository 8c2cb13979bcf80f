-- The pass over a table's equations: those passed so far, their tally, and the equations that are left.
-- Assumes nothing.
use mathlib.Core.Path.{◌≡◌, refl, sym, ap, ◌∙◌, subst}
use mathlib.Core.Bool.{Bool, true, false}
use mathlib.Core.Logic.{⊎_elim}
use mathlib.Core.List.{List, [], ◌∷◌, ◌++◌, append_assoc, append-nil}
use Prim.Native.Nat.{ℕ, suc, ◌+◌, ◌-◌, ◌≤◌, ◌<◌}
use native.Mathlib.Omega.{arith}
use native.Mathlib.Numerals.{add-one}
use lib.IntN.{ℤ}
use lib.ListN.{length, take, set, replicate, length-set, length-append}
use lib.Seq.{take-suc-set}
use Rattle.limits.specs.Limits.{most_streams}
use Rattle.basis.specs.Edges.{Edge, Has, Among}
use Rattle.basis.proofs.Edges.{has_after, has_before, has_either}
use Rattle.walks.specs.Walks.{Within, Right}
use Rattle.expression.specs.Syntax.{Expr}
use Rattle.expression.specs.Grammar.{Parsed, good, bad}
use Rattle.expression.specs.References.{references}
use Rattle.table.specs.Table.{Equation, Equations, equated, unfit, joined, with_expr, equation_at, equations_at_of, edges_from}
use Rattle.table.specs.Answers.{padded, starts_of}
use Rattle.table.proofs.Arrays.{ZeroFrom, zeros_left, padded_front}
use Rattle.certificate.specs.Certificate.{Settled}
use Rattle.certificate.specs.Tally.{Tally, Lacks}
use Rattle.certificate.proofs.Tally.{tally_same}
use Rattle.certificate.proofs.Verdict.{settle_lacks}
use Rattle.vouch.specs.Steps.{Judgement}

-- equations before others
abbrev pub after : List Equation → Equations → Equations
after qs (equated rs n) = equated (qs ++ rs) n
after qs (unfit why place) = unfit why place

after_none : (q : Equations) → after [] q ≡ q
after_none (equated qs n) = refl
after_none (unfit why place) = refl

after_joined : (qs : List Equation) (q : Equation) (r : Equations) → after qs (joined q r) ≡ after (qs ++ q ∷ []) r
after_joined qs q (equated rs n) = ap (λ (l : List Equation). equated l n) (sym (append_assoc qs (q ∷ []) rs))
after_joined qs q (unfit why place) = refl

unfit_not : {X : Type 0} {a b n : ℕ} {qs : List Equation} → unfit a b ≡ equated qs n → X
unfit_not e = let z : ◌≡◌ {A = ℕ} 0 1 = cc in absurd (omega arith)

-- what is left where the whole is parsed
after_parsed : (done : List Equation) (q : Equations) {qs : List Equation} {n : ℕ} → after done q ≡ equated qs n → (rest : List Equation) × (q ≡ equated rest n) × (qs ≡ done ++ rest)
after_parsed done (equated rest n) e = (rest, cc, cc)
after_parsed done (unfit why place) e = unfit_not e

joined_parsed : (q : Equation) (r : Equations) {qs : List Equation} {n : ℕ} → joined q r ≡ equated qs n → (rest : List Equation) × (qs ≡ q ∷ rest)
joined_parsed q (equated rest n) e = (rest, cc)
joined_parsed q (unfit why place) e = unfit_not e

with_parsed : (p : Parsed) (f : Expr → ℕ → Equations) {qs : List Equation} {n : ℕ} → with_expr p f ≡ equated qs n → (e : Expr) × (m : ℕ) × (p ≡ good e m) × (f e m ≡ equated qs n)
with_parsed (good e m) f h = (e, m, refl, h)
with_parsed (bad why place) f h = unfit_not h

-- the edges of equations
edges_join : (y : ℕ) (qs rs : List Equation) → edges_from y (qs ++ rs) ≡ edges_from y qs ++ edges_from (y + length qs) rs
unfolding edges_from
edges_join y [] rs = ap (λ (n : ℕ). edges_from n rs) (omega arith)
edges_join y (q ∷ qs) rs = ap (λ (l : List Edge). references y q.expr ++ l) (edges_join (y + 1) qs rs ∙ ap (λ (n : ℕ). edges_from (y + 1) qs ++ edges_from n rs) (let e : (y + 1) + length qs ≡ y + suc (length qs) = omega arith in e)) ∙ sym (append_assoc (references y q.expr) (edges_from (y + 1) qs) (edges_from (y + suc (length qs)) rs))

edges_snoc : (y z : ℕ) (qs : List Equation) (q : Equation) → z ≡ y + length qs → edges_from y (qs ++ q ∷ []) ≡ edges_from y qs ++ references z q.expr
unfolding edges_from
edges_snoc y z qs q h = edges_join y qs (q ∷ []) ∙ ap (λ (l : List Edge). edges_from y qs ++ l) (append-nil (references (y + length qs) q.expr) ∙ ap (λ (n : ℕ). references n q.expr) (sym h))

-- an edge of one equation is an edge of all
has_among : (y z : ℕ) (qs : List Equation) (q : Equation) (rs : List Equation) → z ≡ y + length qs → {a v : ℕ} {k : ℤ} → Has a v k (references z q.expr) → Has a v k (edges_from y (qs ++ q ∷ rs))
unfolding edges_from
has_among y z qs q rs h {a} {v} {k} e = subst (Has a v k) (sym (edges_join y qs (q ∷ rs))) (has_after (edges_from y qs) (has_before (edges_from (y + length qs + 1) rs) (subst (λ (n : ℕ). Has a v k (references n q.expr)) h e)))

starts_join : (qs : List Equation) (q : Equation) → starts_of (qs ++ q ∷ []) ≡ starts_of qs ++ (q.start ∷ [])
unfolding starts_of
starts_join [] q = refl
starts_join (p ∷ qs) q = ap (λ (l : List ℕ). p.start ∷ l) (starts_join qs q)

-- the tally of the edges in the order of the equations
tally_turned : (rs es : List Edge) {look : ℕ → ℕ} {t m : List ℕ} → Tally (Among (rs ++ es)) look t m → Tally (Among (es ++ rs)) look t m
tally_turned rs es = tally_same (Among (rs ++ es)) (Among (es ++ rs)) (λ y v k h. turn rs es h) (λ y v k h. turn es rs h)
  where
    turn : {y v : ℕ} {k : ℤ} (xs ys : List Edge) → Has y v k (xs ++ ys) → Has y v k (ys ++ xs)
    turn xs ys h = ⊎_elim (λ x. has_after ys x) (λ y. has_before xs y) (has_either xs h)

-- where the pass stands, before the equation of the stream y at the place `next`; the whole are the equations of the streams i..s at `at`
pub record Passed (i s : ℕ) (ts bytes : List ℕ) (at : ℕ) (look : ℕ → ℕ) (y next : ℕ) (starts tight most : List ℕ) : Type 0 where
  pub done : List Equation
  pub reached : y ≡ i + length done
  pub whole : equations_at_of (s - i) i ts bytes at ≡ after done (equations_at_of (s - y) y ts bytes next)
  pub tally : Tally (Among (edges_from i done)) look tight most
  pub long : length starts ≡ most_streams
  pub zeros : ZeroFrom y starts
  pub started : take y starts ≡ replicate i 0 ++ starts_of done

module _ (i s : ℕ) (ts bytes : List ℕ) (at : ℕ) (look : ℕ → ℕ) where
  pub pass_start : {starts tight most : List ℕ} → Tally (Among []) look tight most → length starts ≡ most_streams → ZeroFrom i starts → take i starts ≡ replicate i 0 → Passed i s ts bytes at look i at starts tight most
  unfolding edges_from starts_of
  pass_start x l z e = record {
    done = [];
    reached = omega arith;
    whole = sym (after_none (equations_at_of (s - i) i ts bytes at));
    tally = x;
    long = l;
    zeros = z;
    started = e ∙ sym (append-nil (replicate i 0));
  }

  module _ {y next : ℕ} {starts tight most : List ℕ} (p : Passed i s ts bytes at look y next starts tight most) where
    -- the equation of y, then the others
    one_more : y < s → equations_at_of (s - y) y ts bytes next ≡ with_expr (equation_at ts bytes y next) (λ e m. joined (record { start = next + 2; expr = e }) (equations_at_of (s - (y + 1)) (y + 1) ts bytes m))
    unfolding equations_at_of
    one_more h = let e : s - y ≡ suc (s - (y + 1)) = omega arith in rw e

    pub pass_on : {e : Expr} {n : ℕ} {tight' most' : List ℕ} → y < s → y < most_streams → equation_at ts bytes y next ≡ good e n →
        ((es : List Edge) → Tally (Among es) look tight most → Tally (Among (references y e ++ es)) look tight' most') →
        Passed i s ts bytes at look (y + 1) n (set starts y (next + 2)) tight' most'
    unfolding edges_from
    pass_on {e} {n} h y32 q carry = record {
      done = p.done ++ own ∷ [];
      reached = omega (arith, p.reached, length-append p.done (own ∷ []));
      whole = p.whole ∙ ap (after p.done) (one_more h ∙ ap (λ (x : Parsed). with_expr x (λ e m. joined (record { start = next + 2; expr = e }) (equations_at_of (s - (y + 1)) (y + 1) ts bytes m))) q) ∙ after_joined p.done own (equations_at_of (s - (y + 1)) (y + 1) ts bytes n);
      tally = rw (edges_snoc i y p.done own p.reached) (tally_turned (references y e) (edges_from i p.done) (carry (edges_from i p.done) p.tally));
      long = length-set starts y (next + 2) ∙ p.long;
      zeros = zeros_left (next + 2) p.zeros;
      started = rw (add-one) (take-suc-set starts y (next + 2) (omega (arith, p.long)) ∙ rw p.started (append_assoc (replicate i 0) (starts_of p.done) ((next + 2) ∷ []) ∙ ap (λ (l : List ℕ). replicate i 0 ++ l) (sym (starts_join p.done own))));
    }
      where
        own : Equation
        own = record { start = next + 2; expr = e }

    -- an equation that is not there or lacks slack
    pass_lacks : y < s → ((e : Expr) (n : ℕ) → equation_at ts bytes y next ≡ good e n → Lacks look (references y e)) →
        (qs : List Equation) (n : ℕ) → equations_at_of (s - i) i ts bytes at ≡ equated qs n → Lacks look (edges_from i qs)
    pass_lacks h lacks qs n e =
        let a = after_parsed p.done (equations_at_of (s - y) y ts bytes next) (sym p.whole ∙ e) in
        let b = with_parsed (equation_at ts bytes y next) (λ e m. joined (record { start = next + 2; expr = e }) (equations_at_of (s - (y + 1)) (y + 1) ts bytes m)) (sym (one_more h) ∙ a.1) in
        let own : Equation = record { start = next + 2; expr = b.0 } in
        let c = joined_parsed own (equations_at_of (s - (y + 1)) (y + 1) ts bytes b.1) b.3 in
        let l = lacks b.0 b.1 b.2 in
        rw (a.2, c.1) (record { y = l.y; v = l.v; k = l.k; has = has_among i y p.done own c.0 p.reached {a = l.y} {v = l.v} {k = l.k} l.has; lacks = l.lacks })

    pub pass_refused : y < s → ((e : Expr) (n : ℕ) → equation_at ts bytes y next ≡ good e n → Lacks look (references y e)) → (end : ℕ) (kept : ℕ → ℕ) →
        (qs : List Equation) → equations_at_of (s - i) i ts bytes at ≡ equated qs end → Within (Among (edges_from i qs)) s → Right (Among (edges_from i qs)) s look kept → ⊥
    pass_refused h lacks end kept qs e ends r = settle_lacks (edges_from i qs) s ends look kept (pass_lacks h lacks qs end e) r

    -- all equations are passed
    module _ (h : s ≤ y) where
      pass_end : equations_at_of (s - i) i ts bytes at ≡ equated p.done next
      unfolding equations_at_of
      pass_end = let e : s - y ≡ 0 = omega arith in p.whole ∙ ap (λ (n : ℕ). after p.done (equations_at_of n y ts bytes next)) e ∙ ap (λ (l : List Equation). equated l next) (append-nil p.done)

      -- and bytes are left over, or there are too few
      pub pass_other : {end : ℕ} → (next ≡ end → ⊥) → (qs : List Equation) → equations_at_of (s - i) i ts bytes at ≡ equated qs end → ⊥
      pass_other {end} n qs e = n (let f = pass_end in cc)

      pub pass_settled : {end : ℕ} (kept : ℕ → ℕ) → y ≤ most_streams → next ≡ end → (b : Bool) (order : List ℕ) →
          ((es : List Edge) → Within (Among es) s → Tally (Among es) look tight most → Settled b (Among es) s look kept order) →
          Judgement b (equations_at_of (s - i) i ts bytes at) end i s look kept starts order
      pass_settled kept g n true order f = record {
        equations = p.done;
        is = pass_end ∙ ap (equated p.done) n;
        starts_are = padded_front starts y p.long g p.zeros ∙ ap padded p.started;
        ordered = λ ends. f (edges_from i p.done) ends p.tally;
      }
      pass_settled {end} kept g n false order f = λ qs e ends r.
          let q : p.done ≡ qs = (let d = pass_end in cc) in
          f (edges_from i qs) ends (subst (λ (l : List Equation). Tally (Among (edges_from i l)) look tight most) q p.tally) r
