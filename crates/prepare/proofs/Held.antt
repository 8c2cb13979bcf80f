-- The plan of the bytes as the arrays of a call hold it: what a turn needs, and that both are one plan.
-- Assumes nothing.
use Prim.Native.Nat.{ℕ, ◌-◌, ◌≤◌, ◌<◌}
use mathlib.Core.Path.{◌≡◌, sym, ap, subst, ◌∙◌}
use mathlib.Core.Bool.{false}
use mathlib.Core.List.{List}
use native.Mathlib.Omega.{arith}
use lib.ListN.{get_or, take}
use Rattle.basis.specs.Firsts.{of}
use Rattle.basis.proofs.Sums.{most_all}
use Rattle.limits.specs.Limits.{most_streams, most_levels, most_rows}
use Rattle.value.specs.declared.Value.{Value}
use Rattle.value.specs.declared.Value.TheVariants.{Flag}
use Rattle.value.specs.Values.{reading_of}
use Rattle.expression.specs.Grammar.{Parsed, good, bad, parse}
use Rattle.table.specs.Table.{Table, streams, equation_of}
use Rattle.table.specs.Sound.{Sound}
use Rattle.table.proofs.Entries.{padded_at, padded_take, start_of}
use Rattle.table.proofs.Sound.{sound}
use Rattle.run.specs.Run as run
use Rattle.run.specs.Run.{Announced}
use Rattle.meaning.specs.Expressions.{ops, OfType}
use Rattle.meaning.specs.Plans.{plan_of, table_plan_of, FitsIn}
use Rattle.meaning.proofs.Typing.{meaning_same}
use Rattle.meaning.proofs.Accepted.{table_announced}
use Rattle.store.specs.Store.{layout_of}
use Rattle.store.proofs.Layouts.{layout_same}
use Rattle.evaluate.specs.Turns.{Turnable}
use Rattle.output.specs.Encoding.{room_from_of}
use Rattle.announce.specs.Announced.{announced}
use Rattle.prepare.specs.PlanFor.{table_in, row_fits_of, plan_for}
use Rattle.prepare.specs.Preparing.{Brief, Prepares}
use Rattle.prepare.proofs.Announcing.{store_words_lem}
use Rattle.prepare.proofs.Rooms.{room_of_outputs}

-- the place behind a parsed expression
abbrev pub place_behind : Parsed → ℕ
place_behind (good e n) = n
place_behind (bad why place) = 0

module _ {s look kept : List ℕ} {p : Brief} (x : Prepares s look kept p) where
  abbrev pub t : Table
  t = x.table

  fine : Sound s t
  fine = sound s x.decodes

  pub types_held : (v : ℕ) → get_or t.types v 0 ≡ get_or p.types v 0
  types_held v = sym (padded_at t.types v) ∙ ap (λ (l : List ℕ). get_or l v 0) (sym x.types_are)

  pub roles_held : (v : ℕ) → get_or t.roles v 0 ≡ get_or p.roles v 0
  roles_held v = sym (padded_at t.roles v) ∙ ap (λ (l : List ℕ). get_or l v 0) (sym x.roles_are)

  pub some_held : p.inputs ≤ p.streams
  some_held = omega (arith, fine.some_output, x.inputs_are, x.streams_are)

  pub few_held : p.streams ≤ most_streams
  few_held = omega (arith, fine.few, x.streams_are)

  -- the plan by the record's numbers
  abbrev table_plan : run.Plan Value ℕ ℕ
  table_plan = table_plan_of t (of look) (of kept) (announced s).closing (announced s).room (row_fits_of t)

  abbrev pub held_plan : run.Plan Value ℕ ℕ
  held_plan = plan_of p.inputs p.streams p.types (λ y. (equation_of t y).expr) (of look) (of kept) (announced s).closing (announced s).room (row_fits_of t)

  held_table : table_plan ≡ held_plan
  held_table = λ i. record {
    spec = record {
      inputs = sym x.inputs_are i;
      streams = sym x.streams_are i;
      equation = λ y. meaning_same t.types p.types types_held (equation_of t y).expr i;
      ops = ops;
    };
    look = of look;
    kept = of kept;
    closing = (announced s).closing;
    room = (announced s).room;
    limit = most_rows;
    get = λ v w. reading_of (types_held v i) w;
    zero_word = 0;
    layout = layout_same t.types p.types (of kept) types_held i;
    blank = Flag false;
    well_formed = row_fits_of t;
  }

  for_table : plan_for s ≡ table_plan
  unfolding plan_for
  for_table = λ i. table_plan_of (table_in (x.decodes i)) (of (x.look_is i)) (of (x.kept_is i)) (announced s).closing (announced s).room (row_fits_of (table_in (x.decodes i)))

  -- the plan of the bytes is the one that the arrays hold
  pub plan_held : plan_for s ≡ held_plan
  plan_held = for_table ∙ held_table

  pub held_announced : Announced held_plan x.ordered.schedule.rank (FitsIn p.types)
  held_announced =
      let longest : (v : ℕ) → v < streams t → of look v ≤ (announced s).closing = λ v l. omega (arith, most_all (of look) p.streams v (omega (arith, l, x.streams_are)), x.closing_is, x.closing_most) in
      let a = table_announced s t fine (of look) (of kept) x.ordered.right x.ordered.schedule (announced s).closing (announced s).room (row_fits_of t) longest in
      let f : FitsIn t.types ≡ FitsIn p.types = λ i v y. OfType (types_held v i) y in
      subst (λ (q : run.Plan Value ℕ ℕ). Announced q x.ordered.schedule.rank (FitsIn p.types)) held_table
      (subst (λ (fits : ℕ → Value → Type 0). Announced table_plan x.ordered.schedule.rank fits) f a)

  pub words_held : (layout_of p.types (of kept)).words ≡ p.words
  words_held = ap (λ (k : List ℕ). (layout_of p.types (of k)).words) (sym x.kept_is) ∙ store_words_lem s p.types x.accepted ∙ sym x.words_are

  pub some_kept : (v : ℕ) → v < p.streams → 0 < of kept v
  some_kept v l = (x.ordered.right.keeps v (omega (arith, x.streams_are))).some

  pub parsed_held : (y : ℕ) → p.inputs ≤ y → y < p.streams
      → parse most_levels (take p.streams p.types) s (get_or t.types y 0) (get_or p.starts y 0) ≡ good (equation_of t y).expr (place_behind (parse most_levels (take p.streams p.types) s (get_or t.types y 0) (get_or p.starts y 0)))
  parsed_held y o l =
      let i : t.inputs ≤ y = omega (arith, x.inputs_are) in
      let w = fine.stands y i (omega (arith, x.streams_are)) in
      let ts : take p.streams p.types ≡ t.types = ap (λ (n : ℕ). take n p.types) x.streams_are ∙ ap (take (streams t)) x.types_are ∙ padded_take t.types in
      let at : get_or p.starts y 0 ≡ (equation_of t y).start = ap (λ (l : List ℕ). get_or l y 0) x.starts_are ∙ start_of t y i in
      let e : parse most_levels (take p.streams p.types) s (get_or t.types y 0) (get_or p.starts y 0) ≡ good (equation_of t y).expr w.end =
      ap (λ (l : List ℕ). parse most_levels l s (get_or t.types y 0) (get_or p.starts y 0)) ts ∙ ap (parse most_levels t.types s (get_or t.types y 0)) at ∙ w.parsed in
      e ∙ ap (good (equation_of t y).expr) (sym (ap place_behind e))

  -- a turn over a store of n words can go by the plan
  abbrev pub ready : (n : ℕ) → p.words ≤ n → Turnable s p.types look kept p.starts p.order p.inputs p.streams n
  ready n h = record {
    eqs = λ y. (equation_of t y).expr;
    closing = (announced s).closing;
    room = (announced s).room;
    well_formed = row_fits_of t;
    rank = x.ordered.schedule.rank;
    few = few_held;
    announced = held_announced;
    ordered = record {
      named = λ i l. omega (arith, x.ordered.inside i (omega (arith, l, x.streams_are)), x.streams_are);
      ranked = λ i l. x.ordered.back i (omega (arith, l, x.streams_are));
      back = λ v l. x.ordered.placed v (omega (arith, l, x.streams_are));
    };
    fits = omega (arith, words_held);
    wanted = λ y. get_or t.types y 0;
    behind = λ y. place_behind (parse most_levels (take p.streams p.types) s (get_or t.types y 0) (get_or p.starts y 0));
    parsed = parsed_held;
  }

  -- and its output has the announced room
  pub room_held : room_from_of p.roles (p.streams - p.inputs) p.inputs ≡ p.room
  room_held =
      room_of_outputs p.roles (λ v. omega (arith, fine.role_is v, roles_held v)) p.inputs p.streams some_held
      (λ v l. sym (roles_held v) ∙ fine.input_is_plain v (omega (arith, l, x.inputs_are)))
      ∙ sym x.room_sum
