-- Laws of what is printed behind the end of the input, and of the whole run. Assumes nothing.
use Rattle.std.proofs.Common.{ℕ, ◌≡◌, ◌+◌, ◌≤◌, ◌<◌, ◌^◌, Bool, true, false, Option, None, Some, List, [], ◌++◌, length, take, get_or, refl, sym, ap, ◌∙◌, subst, append_assoc, append-nil, length-append, arith}
use native.Mathlib.Decide.{dec_lt}
use Rattle.std.proofs.lemmas.List.{get_or_append_left}
use Rattle.std.proofs.Math.ListN.{get_or-eq_default}
use Rattle.std.specs.Io.KnownBytes.{Appends}
use Rattle.std.proofs.KnownBytes.{Appends-trans}
use Rattle.wire.specs.Bytes.{AllBytes}
use Rattle.feed.specs.declared.Stage.{Stage}
use Rattle.feed.specs.declared.Stage.TheVariants.{Head, Table, Rows, Shut}
use Rattle.feed.specs.declared.State.{State}
use Rattle.feed.specs.declared.Turning.{Turning}
use Rattle.feed.specs.declared.Ended.{Ended}
use Rattle.feed.specs.Printed.{printed}
use Rattle.feed.specs.Stands.{StandsAt, reading, Stands, Standing, Ends, Closing, EndsIn, Finishes}
use Rattle.glasspuddle.specs.Written.{Written}
use Rattle.glasspuddle.specs.Program.{Heard, Rested, Answered}
use Rattle.glasspuddle.proofs.Putting.{written_more, written_all}

-- behind the end of the input some text was printed, and is written
pub record Resting (fine : Bool) (x : State) (table store : List ℕ) (y : Option Turning) (store1 : List ℕ) (out out1 : Option (List ℕ)) : Type 0 where
  pub text : List ℕ
  pub onward : (b part said : List ℕ) → Stands b x table store part said → Ends b y table store1 (said ++ text)
  pub written : Written fine out out1 text

pub resting_first :
    (fine : Bool) (x : State) (table store : List ℕ) (r : Ended) (text : List ℕ) (out out1 : Option (List ℕ)) →
    EndsIn x table r text → Written fine out out1 (take r.at text) → Resting fine x table store r.left store out out1
resting_first fine x table store r text out out1 e w =
    record { text = take r.at text; onward = λ b part said s. (e.prints store part).onward b said s; written = w }

module _ {fine : Bool} {x : State} {table store : List ℕ} {y : Option Turning} {store1 : List ℕ} {out out1 : Option (List ℕ)} (h : Resting fine x table store y store1 out out1) where
  pub resting_closes : (part : List ℕ) → Standing x table store part → Closing y table store1
  resting_closes part s = record { bytes = s.bytes; said = s.said ++ h.text; ends = h.onward s.bytes part s.said s.stands }

  pub resting_more :
      {c : Turning} → y ≡ Some c → (fine1 : Bool) (r : Ended) (store2 text : List ℕ) (out2 : Option (List ℕ)) → fine ≡ true → Finishes c table store1 r store2 text →
      Written fine1 out1 out2 (take r.at text) → Resting fine1 x table store r.left store2 out out2
  resting_more is fine1 r store2 text out2 e f w =
      record {
        text = h.text ++ take r.at text;
        onward = λ b part said s.
            subst (λ (l : List ℕ). Ends b r.left table store2 l) (append_assoc said h.text (take r.at text))
            (f.prints.onward b (said ++ h.text) ((h.onward b part said s).closing is));
        written = written_more fine1 out out1 out2 h.text (take r.at text) (written_all fine out out1 h.text h.written e) w;
      }

-- all that comes is printed, or it could not be written
pub rested :
    {fine : Bool} {x : State} {table store : List ℕ} {y : Option Turning} {store1 : List ℕ} {out out1 : Option (List ℕ)} →
    Resting fine x table store y store1 out out1 → (fine ≡ true → y ≡ None) → Rested fine x table store out out1
rested h e = record { text = h.text; written = h.written; whole = λ f b part said s bytes. (h.onward b part said s).over (e f) bytes }

-- ---- the whole run

-- where the program reads no further, all that it prints is printed
shut_says : (stage : Stage) (b table store part said : List ℕ) → reading stage ≡ false → StandsAt stage b table store part said → (more : List ℕ) → printed (b ++ more) ≡ said
unfolding reading
shut_says (Head have) b table store part said e s more = cc
shut_says (Table n have) b table store part said e s more = cc
shut_says (Rows n have run) b table store part said e s more = cc
shut_says Shut b table store part said e s more = s more

front_bytes : (a b : List ℕ) → AllBytes (a ++ b) → AllBytes a
front_bytes a b h = record { each = λ i. front (dec_lt i (length a)) }
  where
    front : {i : ℕ} → Dec (i < length a) → get_or a i 0 < 256
    front {i} (yes l) = rw (get_or_append_left a b 0 i l) at (h.each i)
    front {i} (no l) = rw (get_or-eq_default a 0 {n = i} (omega arith)) (omega arith)

module _
    {fine : Bool} {y : State} {table store part : List ℕ} {input left : List ℕ} {out out1 out2 : Option (List ℕ)}
    (h : Heard true y table store part (Some input) (Some left) out out1) (r : Rested fine y table store out1 out2) (e : fine ≡ true)
    (bytes : AllBytes input) (long : length input + 65536 < 2 ^ 64) where
  input_is : input ≡ h.bytes ++ (h.rest ++ left)
  input_is = h.read ∙ append_assoc h.bytes h.rest left

  said_is : printed h.bytes ≡ h.said ++ r.text
  said_is = r.whole e h.bytes part h.said h.stands (front_bytes h.bytes (h.rest ++ left) (subst AllBytes input_is bytes))

  read_on : reading y.stage ≡ true → printed input ≡ printed h.bytes
  read_on f =
      let (none, end) = h.ended refl f in
      let within : length h.bytes ≤ length input = omega (arith, ap length input_is, length-append h.bytes (h.rest ++ left)) in
      let nothing : left ≡ [] = end (omega (arith, h.stands.read_is)) in
      ap printed (input_is ∙ ap (λ (l : List ℕ). h.bytes ++ (l ++ left)) none ∙ ap (λ (l : List ℕ). h.bytes ++ l) nothing ∙ append-nil h.bytes)

  shut : reading y.stage ≡ false → printed input ≡ printed h.bytes
  shut f =
      let says = shut_says y.stage h.bytes table store part h.said f h.stands.at in
      ap printed input_is ∙ says (h.rest ++ left) ∙ sym (says []) ∙ ap printed (append-nil h.bytes)

  all_said : printed input ≡ h.said ++ r.text
  all_said = either (reading y.stage) refl
    where
      either : (b : Bool) → reading y.stage ≡ b → printed input ≡ h.said ++ r.text
      either true f = read_on f ∙ said_is
      either false f = shut f ∙ said_is

  all_written : Appends out out2 (printed input)
  all_written =
      subst (Appends out out2) (sym all_said)
      (Appends-trans out out1 out2 h.said r.text (written_all true _ _ h.said h.written refl) (written_all fine _ _ r.text r.written e))

pub answered :
    {fine : Bool} {y : State} {table store part : List ℕ} (into into1 : Option (List ℕ)) {out out1 out2 : Option (List ℕ)} →
    Heard true y table store part into into1 out out1 → Rested fine y table store out1 out2 → Answered fine into out out2
answered None into1 h r = λ e. tt
answered (Some input) None h r = λ e. absurd h.read
answered (Some input) (Some left) h r = λ e bytes long. all_written h r e bytes long
