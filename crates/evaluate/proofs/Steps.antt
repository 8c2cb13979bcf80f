-- One stream's step of a turn: its value from the row or from its equation, and the store after it.
-- Assumes nothing.
use mathlib.Core.Path.{◌≡◌, refl, ap, ◌∙◌}
use mathlib.Core.Bool.{Bool, true, false, cond}
use mathlib.Core.List.{List}
use Prim.Native.Nat.{ℕ, ◌+◌, ◌-◌, ◌<◌, ◌≤◌, ◌^◌}
use native.Mathlib.Omega.{arith}
use borrow.Author.Tests.{lt-ltb, le-ltb, le-leb, lt-leb}
use lib.ListN.{length, get_or, set, length-set}
use Rattle.basis.specs.Firsts.{of}
use Rattle.basis.proofs.Tests.{true_false}
use Rattle.limits.specs.Limits.{most_levels}
use Rattle.value.specs.declared.Value.{Value}
use Rattle.value.specs.declared.Value.TheVariants.{Flag}
use Rattle.value.specs.Values.{image_of}
use Rattle.lola.specs.Expressions.{Ref}
use Rattle.lola.specs.Graph.{Edge, Occurs}
use Rattle.run.specs.Turn.{due}
use Rattle.meaning.specs.Expressions.{meaning}
use Rattle.meaning.specs.Tables.{spec_in}
use Rattle.store.specs.declared.Frame.{Frame}
use Rattle.store.specs.Store.{read_as, written_of, place_in, Framed, Findable, Within, CanLay}
use Rattle.store.proofs.Places.{findable, is_written}
use Rattle.evaluate.specs.Evaluation.{Held, Readable, value_in, Evaluates}
use Rattle.evaluate.specs.Turns.{Turnable}
use Rattle.evaluate.specs.declared.Evaluated.{Evaluated}

module _ {s types look kept starts order : List ℕ} {inputs streams m : ℕ} (x : Turnable s types look kept starts order inputs streams m) where
  pub can_lay : {n : ℕ} → 0 < n → n < 2 ^ 32 → CanLay kept streams n
  can_lay a b = record { few = x.few; some = λ v l. x.announced.keeps.some v l; row = a; rows = b }

  -- "turn j, for the j-th accepted row": an input is due on its own turn, where there is a row
  pub row_long : (given n t y : ℕ) {a : ℕ} → (t < n → inputs ≤ given) → a ≡ of look y → t < n + a → y < inputs → y < given
  row_long given n t y g e h l = let z = x.announced.schedule.inputs_now y l in let k : t < n = omega (arith, z, e) in omega (arith, g k)

  -- y's value is due on turn t
  module _ (n t y : ℕ) (l : y < streams) {a : ℕ} (ea : a ≡ of look y) (early : a ≤ t) (late : t < n + a) where
    pub due_within : Within look kept n t y (t - a)
    due_within = record { inside = omega arith; come = omega (arith, ea); stays = omega (arith, ea, x.announced.keeps.some y l) }

    module _ {frame : Frame} (f : Framed types look kept streams n t frame) where
      pub due_findable : Findable frame m y (t - a)
      due_findable = findable f l due_within x.few x.fits

      -- the store holds what y's equation refers to: the edges have slack, and kept values suffice
      pub edge_held : inputs ≤ y → (r : Ref Value) → Occurs r (meaning types (x.eqs y)) → Held look kept streams n t (t - a) r
      edge_held o r i =
          let d : Edge (spec_in inputs streams types x.eqs) y r = record { output = o; stream = l; occurs = i } in
          record {
            stream = x.announced.schedule.named y r d;
            within = λ q e h. record {
              inside = h;
              come = omega (arith, e, ea, x.announced.schedule.slack y r d);
              stays = omega (arith, e, ea, x.announced.keeps.enough y r d);
            };
          }

      abbrev pub equation_readable : {i : ℕ} → inputs ≤ y → frame.position ≡ t - a → frame.lent ≡ m → i ≡ get_or starts y 0 → Readable most_levels frame m s i
      equation_readable o p lent e = record {
        turn = record {
          types = types;
          look = look;
          kept = kept;
          streams = streams;
          n = n;
          t = t;
          j = t - a;
          few = x.few;
          fits = x.fits;
          framed = f;
          position = p;
          lent = lent;
          inside = omega arith;
        };
        wanted = x.wanted y;
        expr = x.eqs y;
        behind = x.behind y;
        parsed = rw e (x.parsed y o l);
        held = edge_held o;
      }

-- a frame that was found another way
pub framed_as : {types look kept : List ℕ} {streams n t : ℕ} {frame frame' : Frame} → frame' ≡ frame → Framed types look kept streams n t frame → Framed types look kept streams n t frame'
framed_as e f = rw e f

-- the store after y's step of turn t: its value written, if it is due
pub record Stepped (s types look kept starts order : List ℕ) (inputs streams : ℕ) (ws st : List ℕ) (n t y : ℕ) (after : List ℕ) : Type 0 where
  pub value : Value
  pub input : due (of look) n t y ≡ true → y < inputs → value ≡ read_as types y (get_or ws y 0)
  pub output : due (of look) n t y ≡ true → inputs ≤ y → (x : Turnable s types look kept starts order inputs streams (length st)) → value ≡ value_in types kept st n (t - of look y) (x.eqs y)
  pub after_is : after ≡ cond (due (of look) n t y) (written_of types kept st y (t - of look y) value) st

pub step_long : {s types look kept starts order : List ℕ} {inputs streams : ℕ} {ws st : List ℕ} {n t y : ℕ} {after : List ℕ} → Stepped s types look kept starts order inputs streams ws st n t y after → length after ≡ length st
unfolding written_of
step_long {look = look} {st = st} {n = n} {t} {y} x = ap length x.after_is ∙ go (due (of look) n t y) _ _
  where
    go : (b : Bool) (i w : ℕ) → length (cond b (set st i w) st) ≡ length st
    go true i w = length-set st i w
    go false i w = refl

module _ (s types look kept starts order : List ℕ) (inputs streams : ℕ) (ws st : List ℕ) (n t y : ℕ) {a : ℕ} (ea : a ≡ of look y) where
  abbrev Steps : List ℕ → Type 0
  Steps after = Stepped s types look kept starts order inputs streams ws st n t y after

  -- y is due, and its value is written where the frame says
  module _ (m : ℕ) (l : y < streams) (x : Turnable s types look kept starts order inputs streams m) (early : a ≤ t) (late : t < n + a) (frame : Frame) (f : Framed types look kept streams n t frame) where
    written : {after : List ℕ} (v : Value) → after ≡ set st (place_in frame y (t - a)) (image_of v) → after ≡ cond (due (of look) n t y) (written_of types kept st y (t - of look y) v) st
    written v e =
        let h : of look y ≤ t = omega (arith, ea) in
        let g : t < n + of look y = omega (arith, ea) in
        is_written f l (due_within x n t y l ea early late) st v e ∙ rw (ea, le-leb _ _ h, lt-ltb _ _ g)

    pub input_written : {after : List ℕ} {v : Value} → y < inputs → v ≡ read_as types y (get_or ws y 0) → after ≡ set st (place_in frame y (t - a)) (image_of v) → Steps after
    input_written {v = v} h e g = record { value = v; input = λ d k. e; output = λ d o. absurd (omega (arith, h, o)); after_is = written v g }

    pub output_written : {after : List ℕ} {i : ℕ} {e : Evaluated} → inputs ≤ y → frame.position ≡ t - a → frame.lent ≡ length st → i ≡ get_or starts y 0 → Evaluates most_levels frame st s i e → after ≡ set st (place_in frame y (t - a)) (image_of e.value) → Steps after
    output_written {i = i} {e} o p lent ei h g = record {
      value = e.value;
      input = λ d k. absurd (omega (arith, k, o));
      output = λ d o z. ap (λ (r : Evaluated). r.value) (h (equation_readable z n t y l ea early late f o p lent ei)) ∙ ap (λ (j : ℕ). value_in types kept st n (t - j) (z.eqs y)) ea;
      after_is = written e.value g;
    }

  -- y is not due
  leaves : {after : List ℕ} → due (of look) n t y ≡ false → after ≡ st → Steps after
  leaves d e = record { value = Flag false; input = λ h. true_false h d; output = λ h. true_false h d; after_is = e ∙ rw d }

  pub late_leaves : {after : List ℕ} → n + a ≤ t → after ≡ st → Steps after
  late_leaves g =
      let h' : of look y ≤ t = omega (arith, ea) in
      let g' : n + of look y ≤ t = omega (arith, ea) in
      leaves (rw (le-leb _ _ h', le-ltb _ _ g'))

  pub early_leaves : {after : List ℕ} → t < a → after ≡ st → Steps after
  early_leaves h = let h' : t < of look y = omega (arith, ea) in leaves (rw (lt-leb _ _ h'))
