-- The table that the check decodes, as it is written: each field is in the range of its bytes, the bytes are those that were decoded, and the
-- text is what is printed of it. Assumes nothing.
use Prim.Native.Nat.{ℕ, zero, suc, ◌+◌, ◌-◌, ◌≤◌, ◌<◌}
use native.Mathlib.Omega.{arith}
use mathlib.Core.Path.{◌≡◌, refl, sym, ap, ◌∙◌}
use mathlib.Core.List.{List, [], ◌∷◌, ◌++◌, append_assoc}
use lib.IntN.{ℤ, pos, negsuc}
use lib.ListN.{length, take, drop, length-drop}
use lib.Seq.{length-take-le}
use borrow.Author.Tests.{lt-ltb, le-ltb}
use Rattle.wire.specs.Bytes.{AllBytes}
use Rattle.expression.specs.Syntax.{Expr, unary, binary, ternary}
use Rattle.expression.specs.References as references
use Rattle.expression.specs.Generation.{expression_bytes, OperatorKind, WellFormed}
use Rattle.expression.specs.Generation as g
use Rattle.table.specs.Table.{Table, decoded, decode}
use Rattle.table.specs.Table as table
use Rattle.table.specs.Generation.{stream_bytes, streams_bytes_of, equations_bytes_of, bytes_of, WellFormedStreams, WellFormedEquations, WellFormedTable, Generated}
use Rattle.table.specs.Generation as t
use Rattle.table.proofs.Generation.{decodes_exactly}
use Rattle.source.specs.Trees.{Ranged, plus, minus, Fits, flag_fits, word_fits, level_fits, now_fits, past_fits, not_fits, two_fits, choose_fits}
use Rattle.source.specs.Source.{each, print_source, Equations, none, more, Ready}
use Rattle.source.specs.Bytes.{kind_of, expr_of, tree_bytes, sort_byte_of, role_byte_of, in_bytes_of, out_bytes, eq_bytes, source_bytes_of}
use Rattle.source.specs.Written.{two_of, tree_of, sort_of, role_of, sorts_of, outputs_of, equations_of, source_of, text_by, text_of}

-- an offset in range, said by its parts and by its cases
ranged : (k : ℤ) → references.Ranged k → Ranged k
ranged (pos n) r = plus r.ahead
ranged (negsuc n) r = minus r.back

some_level : {ts : List ℕ} {l w : ℕ} {e : Expr} → WellFormed ts l w e → 1 ≤ l
some_level (g.flag h) = omega arith
some_level (g.word h) = omega arith
some_level (g.level h) = omega arith
some_level (g.now h e) = omega arith
some_level (g.at h e r n b f) = omega arith
some_level (g.one o h) = omega arith
some_level (g.two o h i) = omega arith
some_level (g.choice h i j) = omega arith

module _ (ts : List ℕ) (few : length ts ≤ 256) where
  fits_below : {l w : ℕ} {e : Expr} → WellFormed ts l w e → (m : ℕ) → l ≡ suc m → Fits m (tree_of e)
  unfolding tree_of
  fits_below (g.flag {x = x} h) m q = flag_fits {n = x} (omega arith)
  fits_below (g.word {x = x} h) m q = word_fits {n = x} (omega arith)
  fits_below (g.level {x = x} h) m q = level_fits {d = x} (omega arith)
  fits_below (g.now {v = v} h e) m q = now_fits {v = v} (omega arith)
  fits_below (g.at {v = v} {d = d} {k = k} h e r n b f) m q = past_fits {v = v} {d = d} (omega arith) (ranged k r) (omega arith)
  fits_below (g.one o h) zero q = absurd (omega (arith, some_level h))
  fits_below (g.one o h) (suc m) q = not_fits (fits_below h m (omega arith))
  fits_below (g.two o h i) zero q = absurd (omega (arith, some_level h))
  fits_below (g.two o h i) (suc m) q = two_fits (fits_below h m (omega arith)) (fits_below i m (omega arith))
  fits_below (g.choice h i j) zero q = absurd (omega (arith, some_level h))
  fits_below (g.choice h i j) (suc m) q = choose_fits (fits_below h m (omega arith)) (fits_below i m (omega arith)) (fits_below j m (omega arith))

  -- an expression of l + 1 levels over at most 256 streams is a tree that fits l levels below the first
  pub tree_fits : {l w : ℕ} {e : Expr} → WellFormed ts (suc l) w e → Fits l (tree_of e)
  tree_fits {l} h = fits_below h l refl

one_kind : {k n a w : ℕ} → OperatorKind k n a w → n ≡ 1 → 0x20 ≡ k
one_kind g.not e = refl
one_kind g.and e = absurd (omega arith)
one_kind g.or e = absurd (omega arith)
one_kind g.add_words e = absurd (omega arith)
one_kind g.sub_words e = absurd (omega arith)
one_kind g.ahead e = absurd (omega arith)
one_kind g.less_words e = absurd (omega arith)
one_kind g.equal_words e = absurd (omega arith)
one_kind g.equal_flags e = absurd (omega arith)
one_kind g.equal_levels e = absurd (omega arith)
one_kind g.add_levels e = absurd (omega arith)
one_kind g.sub_levels e = absurd (omega arith)
one_kind g.mul_levels e = absurd (omega arith)
one_kind g.div_levels e = absurd (omega arith)
one_kind g.less_levels e = absurd (omega arith)

two_kind : {k n a w : ℕ} → OperatorKind k n a w → n ≡ 2 → kind_of (two_of k) ≡ k
unfolding two_of
two_kind g.not e = absurd (omega arith)
two_kind g.and e = refl
two_kind g.or e = refl
two_kind g.add_words e = refl
two_kind g.sub_words e = refl
two_kind g.ahead e = refl
two_kind g.less_words e = refl
two_kind g.equal_words e = refl
two_kind g.equal_flags e = refl
two_kind g.equal_levels e = refl
two_kind g.add_levels e = refl
two_kind g.sub_levels e = refl
two_kind g.mul_levels e = refl
two_kind g.div_levels e = refl
two_kind g.less_levels e = refl

-- the tree of an expression that keeps to the rules stands for that expression
pub expr_back : {ts : List ℕ} {l w : ℕ} {e : Expr} → WellFormed ts l w e → expr_of (tree_of e) ≡ e
unfolding tree_of
expr_back (g.flag h) = refl
expr_back (g.word h) = refl
expr_back (g.level h) = refl
expr_back (g.now h e) = refl
expr_back (g.at h e r n b f) = refl
expr_back (g.one o h) = λ i. unary (one_kind o refl i) (expr_back h i)
expr_back (g.two o h k) = λ i. binary (two_kind o refl i) (expr_back h i) (expr_back k i)
expr_back (g.choice h j k) = λ i. ternary 0x23 (expr_back h i) (expr_back j i) (expr_back k i)

-- types and roles
sort_byte : (t : ℕ) → t ≤ 2 → sort_byte_of (sort_of t) ≡ t
unfolding sort_of
sort_byte zero h = refl
sort_byte (suc zero) h = refl
sort_byte (suc (suc zero)) h = refl
sort_byte (suc (suc (suc t))) h = absurd (omega arith)

role_byte : (r : ℕ) → r ≤ 1 → role_byte_of (role_of r) ≡ r
unfolding role_of
role_byte zero h = refl
role_byte (suc zero) h = refl
role_byte (suc (suc r)) h = absurd (omega arith)

sorts_many : (ts : List ℕ) → length (sorts_of ts) ≡ length ts
unfolding sorts_of
sorts_many [] = refl
sorts_many (t ∷ ts) = ap suc (sorts_many ts)

outs_many : (ts rs : List ℕ) → length ts ≡ length rs → length (outputs_of ts rs) ≡ length ts
unfolding outputs_of
outs_many [] rs e = refl
outs_many (t ∷ ts) [] e = absurd (omega arith)
outs_many (t ∷ ts) (r ∷ rs) e = ap suc (outs_many ts rs (omega arith))

eqs_many : (y : ℕ) (qs : List table.Equation) → length (equations_of y qs) ≡ length qs
unfolding equations_of
eqs_many y [] = refl
eqs_many y (q ∷ qs) = ap suc (eqs_many (y + 1) qs)

-- a role for each stream
roles_many : {i v : ℕ} {ts rs : List ℕ} → WellFormedStreams i v ts rs → length ts ≡ length rs
roles_many t.none = refl
roles_many (t.input h b c) = ap suc (roles_many c)
roles_many (t.output h b r f c) = ap suc (roles_many c)

-- the numbers of lines of a table that keeps to the rules
module _ (t : Table) (x : WellFormedTable t) where
  inputs_many : length (sorts_of (take t.inputs t.types)) ≡ t.inputs
  inputs_many = sorts_many (take t.inputs t.types) ∙ length-take-le t.inputs t.types (omega (arith, x.all))

  outputs_many : length (outputs_of (drop t.inputs t.types) (drop t.inputs t.roles)) ≡ length t.equations
  outputs_many =
      let a = length-drop t.inputs t.types in
      let b = length-drop t.inputs t.roles in
      let e = roles_many x.formed_streams in
      outs_many (drop t.inputs t.types) (drop t.inputs t.roles) (omega arith) ∙ omega (arith, x.all)

eqs_fit : (ts : List ℕ) → length ts ≤ 256 → (y place : ℕ) (qs : List table.Equation) → WellFormedEquations ts y place qs → y + length qs ≤ 256 → Equations (equations_of y qs)
unfolding equations_of
eqs_fit ts few y place qs t.none h = none
eqs_fit ts few y place qs (t.more {q = q} {qs = ps} s f g) h = more {e = record { stream = y; node = tree_of q.expr }} (omega arith) (tree_fits ts few f) (eqs_fit ts few (y + 1) _ ps g (omega arith))

-- the table as it is written has each field in the range of its bytes
pub source_ready : (t : Table) → WellFormedTable t → Ready (source_of t)
unfolding source_of
source_ready t x =
    let i = inputs_many t x in
    let o = outputs_many t x in
    let q = eqs_many t.inputs t.equations in
    record {
      byte = omega (arith, x.first_edition);
      few_in = omega (arith, x.all, x.few);
      few_out = omega (arith, x.all, x.few);
      as_many = omega arith;
      fit = eqs_fit t.types (omega (arith, x.few)) t.inputs _ t.equations x.formed_equations (omega (arith, x.all, x.few));
    }

-- its bytes, line by line
module _ (i : ℕ) where
  input_bytes : (v t r : ℕ) (ts rs : List ℕ) → v < i → streams_bytes_of i v (t ∷ ts) (r ∷ rs) ≡ 0x02 ∷ t ∷ streams_bytes_of i (v + 1) ts rs
  unfolding streams_bytes_of stream_bytes
  input_bytes v t r ts rs h = rw (lt-ltb v i h)

  output_bytes : (v t r : ℕ) (ts rs : List ℕ) → i ≤ v → streams_bytes_of i v (t ∷ ts) (r ∷ rs) ≡ 0x03 ∷ t ∷ r ∷ streams_bytes_of i (v + 1) ts rs
  unfolding streams_bytes_of stream_bytes
  output_bytes v t r ts rs h = rw (le-ltb v i h)

  no_bytes : (v : ℕ) → [] ≡ streams_bytes_of i v [] []
  unfolding streams_bytes_of
  no_bytes v = refl

  -- n inputs are left from the stream v on
  streams_bytes : (v n : ℕ) {ts rs : List ℕ} → WellFormedStreams i v ts rs → n ≡ i - v
      → each in_bytes_of (sorts_of (take n ts)) ++ each out_bytes (outputs_of (drop n ts) (drop n rs)) ≡ streams_bytes_of i v ts rs
  unfolding sorts_of outputs_of
  streams_bytes v zero t.none e = no_bytes v
  streams_bytes v (suc n) t.none e = no_bytes v
  streams_bytes v zero (t.input h b c) e = absurd (omega arith)
  streams_bytes v (suc n) (t.input {t = t} {ts = ts} {rs = rs} h b c) e =
      (λ k. 0x02 ∷ sort_byte t b k ∷ streams_bytes (v + 1) n c (omega arith) k) ∙ sym (input_bytes v t 0 ts rs h)
  streams_bytes v zero (t.output {t = t} {r = r} {ts = ts} {rs = rs} h b d f c) e =
      (λ k. 0x03 ∷ sort_byte t b k ∷ role_byte r d k ∷ streams_bytes (v + 1) zero c (omega arith) k) ∙ sym (output_bytes v t r ts rs h)
  streams_bytes v (suc n) (t.output h b d f c) e = absurd (omega arith)

equations_bytes : {ts : List ℕ} {y place : ℕ} {qs : List table.Equation} → WellFormedEquations ts y place qs → each eq_bytes (equations_of y qs) ≡ equations_bytes_of y qs
unfolding equations_of equations_bytes_of tree_bytes
equations_bytes t.none = refl
equations_bytes {y = y} (t.more s f g) = λ k. 0x04 ∷ y ∷ (expression_bytes (expr_back f k) ++ equations_bytes g k)

lines_bytes : (t : Table) → WellFormedTable t
    → each in_bytes_of (sorts_of (take t.inputs t.types)) ++ (each out_bytes (outputs_of (drop t.inputs t.types) (drop t.inputs t.roles)) ++ each eq_bytes (equations_of t.inputs t.equations))
    ≡ streams_bytes_of t.inputs 0 t.types t.roles ++ equations_bytes_of t.inputs t.equations
lines_bytes t x =
    sym (append_assoc (each in_bytes_of (sorts_of (take t.inputs t.types))) (each out_bytes (outputs_of (drop t.inputs t.types) (drop t.inputs t.roles))) (each eq_bytes (equations_of t.inputs t.equations)))
    ∙ (λ k. streams_bytes t.inputs 0 t.inputs x.formed_streams (omega arith) k ++ equations_bytes x.formed_equations k)

-- the bytes of the table as it is written are its bytes
pub source_bytes : (t : Table) → WellFormedTable t → source_bytes_of (source_of t) ≡ bytes_of t
unfolding source_of source_bytes_of bytes_of
source_bytes t x = λ k. 0x01 ∷ t.edition ∷ inputs_many t x k ∷ outputs_many t x k ∷ lines_bytes t x k

-- the table t of the bytes s, as it is written: it can be written, its bytes are s, and its text is that of s
pub record Written (s : List ℕ) (t : Table) : Type 0 where
  pub ready : Ready (source_of t)
  pub bytes : source_bytes_of (source_of t) ≡ s
  pub text : text_of s ≡ print_source (source_of t)

text_decoded : (s : List ℕ) (t : Table) → decode s ≡ decoded t → text_of s ≡ print_source (source_of t)
unfolding text_of text_by
text_decoded s t e = rw e

-- a table that the grammar gives to the bytes is so written
pub generated_written : {s : List ℕ} {t : Table} → Generated s t → Written s t
generated_written {s} {t} y = record {
  ready = source_ready t y.rules;
  bytes = source_bytes t y.rules ∙ y.bytes;
  text = text_decoded s t ((decodes_exactly s t).1 y);
}

-- and so is one that is decoded from bytes
pub decoded_written : {s : List ℕ} {t : Table} → AllBytes s → decode s ≡ decoded t → Written s t
decoded_written {s} {t} b e = generated_written ((decodes_exactly s t).0 b e)
