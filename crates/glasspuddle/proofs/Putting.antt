-- Laws of a text that is put piece by piece. Assumes nothing.
use Rattle.std.proofs.Common.{ℕ, ◌≡◌, ◌+◌, ◌-◌, ◌≤◌, Bool, true, false, not, Option, List, ◌++◌, length, take, drop, refl, sym, ap, ◌∙◌, subst, arith, length-drop, length-append}
use Rattle.std.proofs.lemmas.List.{take_all}
use Rattle.std.proofs.Math.Seq.{take-add, take-append-add}
use Rattle.std.specs.Io.KnownBytes.{Appends}
use Rattle.std.proofs.KnownBytes.{Appends-trans}
use Rattle.glasspuddle.specs.Written.{Written}

pub not_not : (b : Bool) → not b ≡ false → b ≡ true
not_not true e = refl
not_not false e = sym e

-- the bytes behind the first ones, as a program lends them
abbrev pub behind : List ℕ → ℕ → List ℕ
behind text done = take (length text - done) (drop done text)

pub behind_is : (text : List ℕ) (done : ℕ) → behind text done ≡ drop done text
behind_is text done = take_all (length text - done) (drop done text) (omega (arith, length-drop done text))

pub behind_long : (text : List ℕ) (done : ℕ) → length (behind text done) ≡ length text - done
behind_long text done = ap length (behind_is text done) ∙ length-drop done text

-- the first bytes, and the first of those behind them
pub behind_more : (text : List ℕ) (done n : ℕ) → take done text ++ take n (behind text done) ≡ take (done + n) text
behind_more text done n =
    ap (λ (l : List ℕ). take done text ++ take n l) (behind_is text done) ∙ sym (take-add done n text)

pub put_more :
    (old mid new : Option (List ℕ)) (text : List ℕ) (done n : ℕ) → done ≤ length text → Appends old mid (take done text) →
    n ≤ length (behind text done) → Appends mid new (take n (behind text done)) → (done + n ≤ length text) × Appends old new (take (done + n) text)
put_more old mid new text done n within put fits more = (
  omega (arith, behind_long text done),
  subst (Appends old new) (behind_more text done n) (Appends-trans old mid new (take done text) (take n (behind text done)) put more),
)

-- a whole text, and what was written of the next one
pub written_more :
    (fine : Bool) (old mid new : Option (List ℕ)) (text more : List ℕ) → Appends old mid text → Written fine mid new more → Written fine old new (text ++ more)
written_more fine old mid new text more put w =
    let long = length-append text more in
    record {
      count = length text + w.count;
      within = omega (arith, long, w.within);
      appended = subst (Appends old new) (sym (take-append-add text more w.count)) (Appends-trans old mid new text (take w.count more) put w.appended);
      whole = λ e. omega (arith, long, w.whole e);
    }

-- something of it is written, whether all of it or not
pub written_some : (fine : Bool) (old new : Option (List ℕ)) (text : List ℕ) → Written fine old new text → Written false old new text
written_some fine old new text w = record { count = w.count; within = w.within; appended = w.appended; whole = λ e. cc }

pub written_all : (fine : Bool) (old new : Option (List ℕ)) (text : List ℕ) → Written fine old new text → fine ≡ true → Appends old new text
written_all fine old new text w e =
    subst (Appends old new) (take_all w.count text (omega (arith, w.whole e))) w.appended

-- all of a text is written
pub written_whole : (fine : Bool) (old new : Option (List ℕ)) (text : List ℕ) → Appends old new text → Written fine old new text
written_whole fine old new text put =
    record {
      count = length text;
      within = omega arith;
      appended = subst (Appends old new) (sym (take_all (length text) text (omega arith))) put;
      whole = λ _. refl;
    }
