-- What the program writes is the text of its input, however that is cut into reads. Assumes nothing.
use Prim.Native.Nat.{ℕ}
use mathlib.Core.Path.{◌≡◌, refl, sym, ap, subst, ◌∙◌}
use mathlib.Core.Bool.{Bool, true, false}
use mathlib.Core.List.{List, [], ◌∷◌, ◌++◌, append_assoc, append-nil}
use Rattle.std.specs.Prelude.{Option}
use lib.ListN.{take, drop, take-append-drop}
use Rattle.basis.proofs.Tests.{true_false}
use Rattle.feed.specs.declared.Stage.{Stage}
use Rattle.feed.specs.declared.Stage.TheVariants.{Head, Table, Rows, Shut}
use Rattle.feed.specs.declared.State.{State}
use Rattle.feed.specs.declared.Turning.{Turning}
use Rattle.feed.specs.Printed.{printed}
use Rattle.feed.specs.Stands.{StandsAt, reading, Stands, Ends}
use Rattle.feed.proofs.Stepping.{left_none}
use Rattle.feed.specs.Program.{joined, Reads, begun, read, step, Writes, ended, finished, PROGRAM}

joined_more : (ps : List (List ℕ)) (p : List ℕ) → joined (ps ++ (p ∷ [])) ≡ joined ps ++ p
unfolding joined
joined_more [] p = append-nil p
joined_more (q ∷ ps) p = ap (λ (l : List ℕ). q ++ l) (joined_more ps p) ∙ sym (append_assoc q (joined ps) p)

-- the program stands where the bytes taken so far lead
record Taken (reads : List (List ℕ)) (rest : List ℕ) (x : State) (table store part said : List ℕ) : Type 0 where
  pub bytes : List ℕ
  pub all : bytes ++ rest ≡ joined reads
  pub stands : Stands bytes x table store part said

taken : {reads : List (List ℕ)} {rest : List ℕ} {x : State} {table store part said : List ℕ} → Reads reads rest x table store part said → Taken reads rest x table store part said
unfolding joined
taken (begun {table = table} {store} {part} b l) = record { bytes = []; all = refl; stands = b table store part l }
taken (read {reads = reads} r piece) =
    let t = taken r in
    record { bytes = t.bytes; all = ap (λ (l : List ℕ). l ++ piece) (sym (append-nil t.bytes) ∙ t.all) ∙ sym (joined_more reads piece); stands = t.stands }
taken (step {rest = rest} r {r = a} s) =
    let t = taken r in
    record {
      bytes = t.bytes ++ take a.used rest;
      all = append_assoc t.bytes (take a.used rest) (drop a.used rest) ∙ ap (λ (l : List ℕ). t.bytes ++ l) (take-append-drop a.used rest) ∙ t.all;
      stands = s.onward t.bytes _ t.stands;
    }

-- in which stage nothing is read
pub at_end_lem : {b : List ℕ} {x : State} {table store part said : List ℕ} → Stands b x table store part said → reading x.stage ≡ false → (more : List ℕ) → printed (b ++ more) ≡ said
unfolding reading
at_end_lem {b} {x} {table} {store} {part} {said} s = go x.stage s.at
  where
    go : (stage : Stage) → StandsAt stage b table store part said → reading stage ≡ false → (more : List ℕ) → printed (b ++ more) ≡ said
    go (Head have) s e = true_false refl e
    go (Table n have) s e = true_false refl e
    go (Rows n have run) s e = true_false refl e
    go Shut s e = s

written : {reads : List (List ℕ)} {x : Option Turning} {table store said : List ℕ} → Writes reads x table store said → Ends (joined reads) x table store said
written (ended {reads = reads} {rest} {x} {table} {store} {part} {said} r whole {r = a} {text1} e) = by (reading x.stage) refl
  where
    t : Taken reads rest x table store part said
    t = taken r

    by : (b : Bool) → reading x.stage ≡ b → Ends (joined reads) a.left table store (said ++ take a.at text1)
    by true g =
        subst (λ (l : List ℕ). Ends l a.left table store (said ++ take a.at text1))
        (sym (append-nil t.bytes) ∙ ap (λ (l : List ℕ). t.bytes ++ l) (sym (whole g)) ∙ t.all) ((e.prints store part).onward t.bytes said t.stands)
    by false g =
        let s = e.shut g in
        record {
          over = λ _ _. ap printed (sym t.all) ∙ at_end_lem t.stands g rest ∙ sym (append-nil said) ∙ ap (λ (n : ℕ). said ++ take n text1) (sym s.1);
          closing = λ z. left_none (sym s.0 ∙ z);
        }
written (finished w f) = f.prints.onward _ _ ((written w).closing refl)

pub program : PROGRAM
program = record {
  whole = λ w b. sym ((written w).over refl b);
  shut = λ {rest = rest} r e more. let t = taken r in
      sym (at_end_lem t.stands e (rest ++ more)) ∙ ap printed (sym (append_assoc t.bytes rest more) ∙ ap (λ (l : List ℕ). l ++ more) t.all);
}
