-- The bytes determine the table as it is written: a decoder reads them back, kind byte by kind byte. Assumes nothing.
use Prim.Native.Nat.{ℕ, zero, suc, ◌-◌, ◌≤◌}
use native.Mathlib.Omega.{arith}
use mathlib.Core.Path.{◌≡◌, refl, sym, ap, ◌∙◌}
use mathlib.Core.Bool.{cond}
use mathlib.Core.List.{List, [], ◌∷◌, ◌++◌, append_assoc}
use lib.Dec.{eqb}
use lib.IntN.{ℤ}
use lib.ListN.{length, get_or, drop}
use borrow.Author.Tests.{lt-ltb, le-ltb}
use Rattle.wire.specs.Bytes.{le4, word_at}
use Rattle.wire.proofs.Words.{word_of_its_bytes}
use Rattle.node.specs.Node.{signed_of}
use Rattle.expression.specs.Generation.{signed_byte_of, constant_bytes, node_bytes, expression_bytes}
use Rattle.source.specs.Trees.{Two, and, or, add_word, sub_word, ahead, less_word, equal_word, equal_flag, equal_level, add_level, sub_level, mul, div, less_level, Tree, flag, number_word, level, now, past, not, two, choose}
use Rattle.source.specs.Trees.{Ranged, plus, minus, Fits, flag_fits, word_fits, level_fits, now_fits, past_fits, not_fits, two_fits, choose_fits}
use Rattle.source.specs.Source.{Sort, flags, words, levels, Role, plain, trigger, Output, Equation, Source, each, Equations, none, more, Ready}
use Rattle.source.specs.Bytes.{kind_of, tree_bytes, sort_byte_of, role_byte_of, in_bytes_of, out_bytes, eq_bytes, source_bytes_of}
use Rattle.source.specs.Written.{sort_of, role_of, two_of}

-- what a kind byte begins
data Kind : Type 0 where
  a_flag : Kind
  a_word : Kind
  a_level : Kind
  a_now : Kind
  a_past : Kind
  a_not : Kind
  a_two : Two → Kind
  a_choice : Kind

kind_by : ℕ → Kind
kind_by b =
    cond (eqb b 0x10) a_flag
    (cond (eqb b 0x11) a_word
    (cond (eqb b 0x12) a_level
    (cond (eqb b 0x13) a_now
    (cond (eqb b 0x14) a_past
    (cond (eqb b 0x20) a_not
    (cond (eqb b 0x23) a_choice (a_two (two_of b))))))))

-- a tree and what is behind it
record Found : Type 0 where
  tree : Tree
  rest : List ℕ

abbrev found : Tree → List ℕ → Found
found t r = record { tree = t; rest = r }

-- of the kind k, with the bytes behind the kind byte; the operands are read by p
tree_by : Kind → (List ℕ → Found) → List ℕ → Found
tree_by a_flag p s = found (flag (get_or s 0 0)) (drop 1 s)
tree_by a_word p s = found (number_word (word_at s 0)) (drop 4 s)
tree_by a_level p s = found (level (word_at s 0)) (drop 4 s)
tree_by a_now p s = found (now (get_or s 0 0)) (drop 1 s)
tree_by a_past p s = found (past (get_or s 0 0) (signed_of (get_or s 1 0)) (word_at s 2)) (drop 6 s)
tree_by a_not p s = found (not (p s).tree) (p s).rest
tree_by (a_two k) p s = found (two k (p s).tree (p (p s).rest).tree) (p (p s).rest).rest
tree_by a_choice p s = found (choose (p s).tree (p (p s).rest).tree (p (p (p s).rest).rest).tree) (p (p (p s).rest).rest).rest

-- with fuel for so many levels
tree_at : ℕ → List ℕ → Found
tree_at zero s = found (flag 0) s
tree_at (suc l) s = tree_by (kind_by (get_or s 0 0)) (tree_at l) (drop 1 s)

-- each field is read back
signed_back : (k : ℤ) → Ranged k → signed_of (signed_byte_of k) ≡ k
unfolding signed_of signed_byte_of
signed_back k (plus {n} h) = rw (lt-ltb n 128 (omega arith))
signed_back k (minus {n} h) = let e : 255 - (255 - n) ≡ n = omega arith in rw (le-ltb (255 - n) 128 (omega arith), e)

kind_two : (k : Two) → kind_by (kind_of k) ≡ a_two k
unfolding kind_by two_of
kind_two and = refl
kind_two or = refl
kind_two add_word = refl
kind_two sub_word = refl
kind_two ahead = refl
kind_two less_word = refl
kind_two equal_word = refl
kind_two equal_flag = refl
kind_two equal_level = refl
kind_two add_level = refl
kind_two sub_level = refl
kind_two mul = refl
kind_two div = refl
kind_two less_level = refl

module _ (p : List ℕ → Found) where
  word_back : (w : ℕ) (r : List ℕ) → w ≤ 4294967295 → tree_by a_word p (le4 w ++ r) ≡ found (number_word w) r
  unfolding tree_by word_at le4
  word_back w r h = ap (λ (z : ℕ). found (number_word z) r) (word_of_its_bytes w (omega arith))

  level_back : (w : ℕ) (r : List ℕ) → w ≤ 4294967295 → tree_by a_level p (le4 w ++ r) ≡ found (level w) r
  unfolding tree_by word_at le4
  level_back w r h = ap (λ (z : ℕ). found (level z) r) (word_of_its_bytes w (omega arith))

  past_back : (v : ℕ) (k : ℤ) (w : ℕ) (r : List ℕ) → Ranged k → w ≤ 4294967295 → tree_by a_past p (v ∷ signed_byte_of k ∷ (le4 w ++ r)) ≡ found (past v k w) r
  unfolding tree_by word_at le4
  past_back v k w r g h =
      ap (λ (z : ℤ). found (past v z (word_at (v ∷ signed_byte_of k ∷ (le4 w ++ r)) 2)) r) (signed_back k g) ∙ ap (λ (z : ℕ). found (past v k z) r) (word_of_its_bytes w (omega arith))

  not_back : (a : Tree) (u r : List ℕ) → p (u ++ r) ≡ found a r → tree_by a_not p (u ++ r) ≡ found (not a) r
  unfolding tree_by
  not_back a u r e = rw e

  two_back : (k : Two) (a b : Tree) (u v r : List ℕ) → p (u ++ (v ++ r)) ≡ found a (v ++ r) → p (v ++ r) ≡ found b r → tree_by (a_two k) p (u ++ v ++ r) ≡ found (two k a b) r
  unfolding tree_by
  two_back k a b u v r e f = rw (append_assoc u v r, e, f)

  choice_back : (a b c : Tree) (u v w r : List ℕ) → p (u ++ (v ++ (w ++ r))) ≡ found a (v ++ (w ++ r)) → p (v ++ (w ++ r)) ≡ found b (w ++ r) → p (w ++ r) ≡ found c r
      → tree_by a_choice p (u ++ v ++ w ++ r) ≡ found (choose a b c) r
  unfolding tree_by
  choice_back a b c u v w r e f g = rw (append_assoc (u ++ v) w r, append_assoc u v (w ++ r), e, f, g)

-- so is a tree that fits, with fuel for one level more
tree_back : (l : ℕ) (t : Tree) (r : List ℕ) → Fits l t → tree_at (suc l) (tree_bytes t ++ r) ≡ found t r
unfolding tree_at tree_bytes expression_bytes node_bytes constant_bytes kind_by tree_by
tree_back l t r (flag_fits h) = refl
tree_back l t r (word_fits {n} h) = word_back (tree_at l) n r h
tree_back l t r (level_fits {d} h) = level_back (tree_at l) d r h
tree_back l t r (now_fits h) = refl
tree_back l t r (past_fits {v} {k} {d} h g m) = past_back (tree_at l) v k d r g m
tree_back l t r (not_fits {l = j} {a} h) = not_back (tree_at (suc j)) a (tree_bytes a) r (tree_back j a r h)
tree_back l t r (two_fits {l = j} {k} {a} {b} h i) =
    ap (λ (z : Kind). tree_by z (tree_at (suc j)) (tree_bytes a ++ tree_bytes b ++ r)) (kind_two k)
    ∙ two_back (tree_at (suc j)) k a b (tree_bytes a) (tree_bytes b) r (tree_back j a (tree_bytes b ++ r) h) (tree_back j b r i)
tree_back l t r (choose_fits {l = j} {a} {b} {c} h i k) =
    choice_back (tree_at (suc j)) a b c (tree_bytes a) (tree_bytes b) (tree_bytes c) r (tree_back j a (tree_bytes b ++ (tree_bytes c ++ r)) h) (tree_back j b (tree_bytes c ++ r) i) (tree_back j c r k)

-- trees with the same bytes, whatever follows, are the same, and the same follows
pub trees_by_bytes : (l : ℕ) (t u : Tree) (r q : List ℕ) → Fits l t → Fits l u → tree_bytes t ++ r ≡ tree_bytes u ++ q → (t ≡ u) × (r ≡ q)
trees_by_bytes l t u r q h i e =
    let f : found t r ≡ found u q = sym (tree_back l t r h) ∙ ap (tree_at (suc l)) e ∙ tree_back l u q i in
    (ap (λ (z : Found). z.tree) f, ap (λ (z : Found). z.rest) f)

sort_back : (s : Sort) → sort_of (sort_byte_of s) ≡ s
unfolding sort_of
sort_back flags = refl
sort_back words = refl
sort_back levels = refl

role_back : (r : Role) → role_of (role_byte_of r) ≡ r
unfolding role_of
role_back plain = refl
role_back trigger = refl

sorts_by_bytes : (s t : Sort) → sort_byte_of s ≡ sort_byte_of t → s ≡ t
sorts_by_bytes s t e = sym (sort_back s) ∙ ap sort_of e ∙ sort_back t

roles_by_bytes : (r q : Role) → role_byte_of r ≡ role_byte_of q → r ≡ q
roles_by_bytes r q e = sym (role_back r) ∙ ap role_of e ∙ role_back q

-- the entry i of a list
abbrev byte : ℕ → List ℕ → ℕ
byte i l = get_or l i 0

ins_by_bytes : (is js : List Sort) (r q : List ℕ) → length is ≡ length js → each in_bytes_of is ++ r ≡ each in_bytes_of js ++ q → (is ≡ js) × (r ≡ q)
ins_by_bytes [] [] r q n e = (refl, e)
ins_by_bytes [] (j ∷ js) r q n e = absurd (omega arith)
ins_by_bytes (i ∷ is) [] r q n e = absurd (omega arith)
ins_by_bytes (i ∷ is) (j ∷ js) r q n e =
    let s : i ≡ j = sorts_by_bytes i j (ap (byte 1) e) in
    let o = ins_by_bytes is js r q (omega arith) (ap (drop 2) e) in
    let g : is ≡ js = o.0 in
    (cc, o.1)

outs_by_bytes : (os ps : List Output) (r q : List ℕ) → length os ≡ length ps → each out_bytes os ++ r ≡ each out_bytes ps ++ q → (os ≡ ps) × (r ≡ q)
outs_by_bytes [] [] r q n e = (refl, e)
outs_by_bytes [] (p ∷ ps) r q n e = absurd (omega arith)
outs_by_bytes (o ∷ os) [] r q n e = absurd (omega arith)
outs_by_bytes (o ∷ os) (p ∷ ps) r q n e =
    let s : o.sort ≡ p.sort = sorts_by_bytes o.sort p.sort (ap (byte 1) e) in
    let t : o.role ≡ p.role = roles_by_bytes o.role p.role (ap (byte 2) e) in
    let f : o ≡ p = λ i. record { sort = s i; role = t i } in
    let w = outs_by_bytes os ps r q (omega arith) (ap (drop 3) e) in
    let g : os ≡ ps = w.0 in
    (cc, w.1)

eqs_by_bytes : (es fs : List Equation) → Equations es → Equations fs → length es ≡ length fs → each eq_bytes es ≡ each eq_bytes fs → es ≡ fs
eqs_by_bytes es fs none none n e = refl
eqs_by_bytes es fs none (more b f g) n e = absurd (omega arith)
eqs_by_bytes es fs (more b f g) none n e = absurd (omega arith)
eqs_by_bytes es fs (more {e = x} {es = xs} b f g) (more {e = y} {es = ys} c i j) n e =
    let w = trees_by_bytes 15 x.node y.node (each eq_bytes xs) (each eq_bytes ys) f i (ap (drop 2) e) in
    let s : x.stream ≡ y.stream = ap (byte 1) e in
    let z : x ≡ y = λ i. record { stream = s i; node = w.0 i } in
    let o : xs ≡ ys = eqs_by_bytes xs ys g j (omega arith) w.1 in
    cc

-- tables with the same bytes are the same
pub bytes_once : (s t : Source) → Ready s → Ready t → source_bytes_of s ≡ source_bytes_of t → s ≡ t
unfolding source_bytes_of
bytes_once s t h i e =
    let a : s.edition ≡ t.edition = ap (byte 1) e in
    let n : length s.inputs ≡ length t.inputs = ap (byte 2) e in
    let m : length s.outputs ≡ length t.outputs = ap (byte 3) e in
    let b = ins_by_bytes s.inputs t.inputs (each out_bytes s.outputs ++ each eq_bytes s.equations) (each out_bytes t.outputs ++ each eq_bytes t.equations) n (ap (drop 4) e) in
    let c = outs_by_bytes s.outputs t.outputs (each eq_bytes s.equations) (each eq_bytes t.equations) m b.1 in
    let d = eqs_by_bytes s.equations t.equations h.fit i.fit (omega (arith, h.as_many, i.as_many)) c.1 in
    λ k. record { edition = a k; inputs = b.0 k; outputs = c.0 k; equations = d k }
