-- The printed trees are the texts of the nodes: each node's text is printed of a tree that fits, and each such tree is printed as a node's text.
-- Assumes nothing.
use Prim.Native.Nat.{ℕ, zero, suc, ◌+◌, ◌*◌, ◌/◌, ◌%◌, ◌≤◌, ◌<◌}
use native.Mathlib.Omega.{arith}
use mathlib.Core.Path.{◌≡◌, refl, sym, ap, ◌∙◌, subst}
use mathlib.Core.Logic.{◌⊎◌, inl, inr}
use mathlib.Core.List.{List, [], ◌∷◌, ◌++◌}
use lib.IntN.{ℤ, pos, negsuc}
use Rattle.lines.specs.Lines.{decimal, hex_digit_of, hex2, hex8}
use Rattle.shapes.specs.Forms.{Form, Parts, word}
use Rattle.shapes.specs.Numbers.{offset}
use Rattle.shapes.specs.Words.{Pick, first, later, picked}
use Rattle.source.specs.Nodes.{Args, Entry, hex8 as eight, args_form, calls, leaves, all, node}
use Rattle.source.specs.Trees.{Two, and, or, add_word, sub_word, ahead, less_word, equal_word, equal_flag, equal_level, add_level, sub_level, mul, div, less_level, Tree, flag, number_word, level, now, past, not, two, choose, two_name_of, signed, print_tree}
use Rattle.source.specs.Trees.{Ranged, plus, minus, Fits, flag_fits, word_fits, level_fits, now_fits, past_fits, not_fits, two_fits, choose_fits, tree}
use Rattle.source.proofs.Nodes.{node_part}

-- each text of the first form is one of the second
abbrev pub Into : Form → Form → Type 0
Into F G = (x : F.Of) → (y : G.Of) × (F.print x ≡ G.print y)

-- a word below 2^32 in eight digits
pub hex8_digits : (w : ℕ) → w ≤ 4294967295 → (x : eight.Of) × (hex8 w ≡ eight.print x)
unfolding hex8
hex8_digits w h = (
  (
    ((w / 16777216 % 256) / 16, omega arith),
    (
      ((w / 16777216 % 256) % 16, omega arith),
      (
        ((w / 65536 % 256) / 16, omega arith),
        (
          ((w / 65536 % 256) % 16, omega arith),
          (((w / 256 % 256) / 16, omega arith), (((w / 256 % 256) % 16, omega arith), (((w % 256) / 16, omega arith), (((w % 256) % 16, omega arith), tt)))),
        ),
      ),
    ),
  ),
  refl,
)

-- and back
nibbles : (a b : ℕ) → a < 16 → b < 16 → hex2 (16 * a + b) ≡ hex_digit_of a ∷ (hex_digit_of b ∷ [])
nibbles a b k l =
    let p : (16 * a + b) / 16 ≡ a = omega arith in
    let q : (16 * a + b) % 16 ≡ b = omega arith in
    ap (λ (d : ℕ). hex_digit_of d ∷ (hex_digit_of ((16 * a + b) % 16) ∷ [])) p ∙ ap (λ (d : ℕ). hex_digit_of a ∷ (hex_digit_of d ∷ [])) q

bytes : (a b c d : ℕ) → a < 256 → b < 256 → c < 256 → d < 256 → hex8 (16777216 * a + 65536 * b + 256 * c + d) ≡ hex2 a ++ (hex2 b ++ (hex2 c ++ hex2 d))
unfolding hex8
bytes a b c d i j k l =
    let w = 16777216 * a + 65536 * b + 256 * c + d in
    let p : w / 16777216 % 256 ≡ a = omega arith in
    let q : w / 65536 % 256 ≡ b = omega arith in
    let r : w / 256 % 256 ≡ c = omega arith in
    let s : w % 256 ≡ d = omega arith in
    ap (λ (z : ℕ). hex2 z ++ (hex2 (w / 65536 % 256) ++ (hex2 (w / 256 % 256) ++ hex2 (w % 256)))) p
    ∙ ap (λ (z : ℕ). hex2 a ++ (hex2 z ++ (hex2 (w / 256 % 256) ++ hex2 (w % 256)))) q
    ∙ ap (λ (z : ℕ). hex2 a ++ (hex2 b ++ (hex2 z ++ hex2 (w % 256)))) r ∙ ap (λ (z : ℕ). hex2 a ++ (hex2 b ++ (hex2 c ++ hex2 z))) s

pub hex8_word : (x : eight.Of) → (w : ℕ) × (w ≤ 4294967295) × (eight.print x ≡ hex8 w)
hex8_word x = go x.0.0 x.1.0.0 x.1.1.0.0 x.1.1.1.0.0 x.1.1.1.1.0.0 x.1.1.1.1.1.0.0 x.1.1.1.1.1.1.0.0 x.1.1.1.1.1.1.1.0.0
    x.0.1 x.1.0.1 x.1.1.0.1 x.1.1.1.0.1 x.1.1.1.1.0.1 x.1.1.1.1.1.0.1 x.1.1.1.1.1.1.0.1 x.1.1.1.1.1.1.1.0.1
  where
    go : (a b c d e f g h : ℕ) → a < 16 → b < 16 → c < 16 → d < 16 → e < 16 → f < 16 → g < 16 → h < 16
        → (w : ℕ) × (w ≤ 4294967295) × (hex_digit_of a ∷ hex_digit_of b ∷ hex_digit_of c ∷ hex_digit_of d ∷ hex_digit_of e ∷ hex_digit_of f ∷ hex_digit_of g ∷ hex_digit_of h ∷ [] ≡ hex8 w)
    go a b c d e f g h i j k l m n o p = (
      16777216 * (16 * a + b) + 65536 * (16 * c + d) + 256 * (16 * e + f) + (16 * g + h),
      omega arith,
      sym (bytes (16 * a + b) (16 * c + d) (16 * e + f) (16 * g + h) (omega arith) (omega arith) (omega arith) (omega arith)
          ∙ ap (λ (z : List ℕ). z ++ (hex2 (16 * c + d) ++ (hex2 (16 * e + f) ++ hex2 (16 * g + h)))) (nibbles a b i j)
          ∙ ap (λ (z : List ℕ). hex_digit_of a ∷ hex_digit_of b ∷ (z ++ (hex2 (16 * e + f) ++ hex2 (16 * g + h)))) (nibbles c d k l)
          ∙ ap (λ (z : List ℕ). hex_digit_of a ∷ hex_digit_of b ∷ hex_digit_of c ∷ hex_digit_of d ∷ (z ++ hex2 (16 * g + h))) (nibbles e f m n)
          ∙ ap (λ (z : List ℕ). hex_digit_of a ∷ hex_digit_of b ∷ hex_digit_of c ∷ hex_digit_of d ∷ hex_digit_of e ∷ hex_digit_of f ∷ z) (nibbles g h o p)),
    )

-- an offset
pub offset_into : (x : (offset 44).Of) → (k : ℤ) × Ranged k × ((offset 44).print x ≡ signed k ++ (44 ∷ []))
offset_into (inl x) = (pos x.0, plus x.1.1, refl)
offset_into (inr x) = go x.1.0 x.1.1.0 x.1.1.1
  where
    go : (n : ℕ) → 1 ≤ n → n ≤ 128 → (k : ℤ) × Ranged k × (45 ∷ (decimal n ++ (44 ∷ [])) ≡ signed k ++ (44 ∷ []))
    go zero l h = absurd (omega arith)
    go (suc n) l h = (negsuc n, minus h, refl)

pub offset_from : (k : ℤ) → Ranged k → (x : (offset 44).Of) × (signed k ++ (44 ∷ []) ≡ (offset 44).print x)
offset_from k (plus {n} h) = (inl (n, (omega arith, h)), refl)
offset_from k (minus {n} h) = (inr (tt, (suc n, (omega arith, h))), refl)

-- what holds of each entry of a list holds of the one that is picked
abbrev Each : (Entry → Type 0) → List Entry → Type 0
Each P [] = Unit {0}
Each P (e ∷ es) = P e × Each P es

each : (P : Entry → Type 0) (es : List Entry) → Each P es → (i : Pick es) → P (picked i)
each P es h (first {e} {es = fs}) = h.0
each P es h (later {e} {es = fs} i) = each P fs h.1 i

-- an entry with its arguments is printed as a tree that fits
abbrev Prints : Form → ℕ → Entry → Type 0
Prints N l e = (y : (args_form e.args N).Of) → (t : (tree l).Of) × (e.name ++ (args_form e.args N).print y ≡ print_tree t.0)

module _ (l : ℕ) where
  level_into : (x : eight.Of) → (t : (tree l).Of) × (108 ∷ 101 ∷ 118 ∷ 101 ∷ 108 ∷ 40 ∷ (eight.print x ++ (41 ∷ [])) ≡ print_tree t.0)
  level_into x = let w = hex8_word x in ((level w.0, level_fits w.1), ap (λ (z : List ℕ). 108 ∷ 101 ∷ 118 ∷ 101 ∷ 108 ∷ 40 ∷ (z ++ (41 ∷ []))) w.2)

  past_into : (v : ℕ) → v ≤ 255 → (o : (offset 44).Of) (x : eight.Of)
      → (t : (tree l).Of) × (97 ∷ 116 ∷ 40 ∷ (decimal v ++ (44 ∷ []) ++ ((offset 44).print o ++ (eight.print x ++ (41 ∷ [])))) ≡ print_tree t.0)
  past_into v h o x =
      let k = offset_into o in
      let w = hex8_word x in (
        (past v k.0 w.0, past_fits h k.1 w.1),
        ap (λ (z : List ℕ). 97 ∷ 116 ∷ 40 ∷ (decimal v ++ (44 ∷ []) ++ (z ++ (eight.print x ++ (41 ∷ []))))) k.2
            ∙ ap (λ (z : List ℕ). 97 ∷ 116 ∷ 40 ∷ (decimal v ++ (44 ∷ []) ++ (signed k.0 ++ (44 ∷ []) ++ (z ++ (41 ∷ []))))) w.2,
      )

module _ (N : Form) (l : ℕ) (f : Into N (tree l)) where
  not_into : (a : N.Of) → (t : (tree (suc l)).Of) × (110 ∷ 111 ∷ 116 ∷ 40 ∷ (N.print a ++ (41 ∷ [])) ≡ print_tree t.0)
  not_into a = ((not (f a).0.0, not_fits (f a).0.1), ap (λ (z : List ℕ). 110 ∷ 111 ∷ 116 ∷ 40 ∷ (z ++ (41 ∷ []))) (f a).1)

  two_into : (k : Two) (a b : N.Of) → (t : (tree (suc l)).Of) × (two_name_of k ++ (N.print a ++ (44 ∷ (N.print b ++ (41 ∷ [])))) ≡ print_tree t.0)
  two_into k a b = (
    (two k (f a).0.0 (f b).0.0, two_fits (f a).0.1 (f b).0.1),
    ap (λ (z : List ℕ). two_name_of k ++ (z ++ (44 ∷ (N.print b ++ (41 ∷ []))))) (f a).1
        ∙ ap (λ (z : List ℕ). two_name_of k ++ (print_tree (f a).0.0 ++ (44 ∷ (z ++ (41 ∷ []))))) (f b).1,
  )

  choose_into : (a b c : N.Of) → (t : (tree (suc l)).Of) × (105 ∷ 102 ∷ 40 ∷ (N.print a ++ (44 ∷ (N.print b ++ (44 ∷ (N.print c ++ (41 ∷ [])))))) ≡ print_tree t.0)
  choose_into a b c = (
    (choose (f a).0.0 (f b).0.0 (f c).0.0, choose_fits (f a).0.1 (f b).0.1 (f c).0.1),
    ap (λ (z : List ℕ). 105 ∷ 102 ∷ 40 ∷ (z ++ (44 ∷ (N.print b ++ (44 ∷ (N.print c ++ (41 ∷ []))))))) (f a).1
        ∙ ap (λ (z : List ℕ). 105 ∷ 102 ∷ 40 ∷ (print_tree (f a).0.0 ++ (44 ∷ (z ++ (44 ∷ (N.print c ++ (41 ∷ []))))))) (f b).1
        ∙ ap (λ (z : List ℕ). 105 ∷ 102 ∷ 40 ∷ (print_tree (f a).0.0 ++ (44 ∷ (print_tree (f b).0.0 ++ (44 ∷ (z ++ (41 ∷ []))))))) (f c).1,
  )

  all_into : (i : Pick all) → Prints N (suc l) (picked i)
  all_into =
      each (Prints N (suc l)) all (
        λ y. ((flag y.0, flag_fits y.1.1), refl),
        (
          λ y. ((number_word y.0, word_fits y.1.1), refl),
          (
            λ y. level_into (suc l) y.0,
            (
              λ y. ((now y.0, now_fits y.1.1), refl),
              (
                λ y. past_into (suc l) y.0.0 y.0.1.1 y.1.0 y.1.1.0,
                (
                  λ y. not_into y.0,
                  (
                    λ y. two_into and y.0 y.1.1.0,
                    (
                      λ y. two_into or y.0 y.1.1.0,
                      (
                        λ y. choose_into y.0 y.1.1.0 y.1.1.1.1.0,
                        (
                          λ y. two_into add_word y.0 y.1.1.0,
                          (
                            λ y. two_into sub_word y.0 y.1.1.0,
                            (
                              λ y. two_into ahead y.0 y.1.1.0,
                              (
                                λ y. two_into less_word y.0 y.1.1.0,
                                (
                                  λ y. two_into equal_word y.0 y.1.1.0,
                                  (
                                    λ y. two_into equal_flag y.0 y.1.1.0,
                                    (
                                      λ y. two_into equal_level y.0 y.1.1.0,
                                      (
                                        λ y. two_into add_level y.0 y.1.1.0,
                                        (
                                          λ y. two_into sub_level y.0 y.1.1.0,
                                          (
                                            λ y. two_into mul y.0 y.1.1.0,
                                            (
                                              λ y. two_into div y.0 y.1.1.0,
                                              (λ y. two_into less_level y.0 y.1.1.0, tt),
                                            ),
                                          ),
                                        ),
                                      ),
                                    ),
                                  ),
                                ),
                              ),
                            ),
                          ),
                        ),
                      ),
                    ),
                  ),
                ),
              ),
            ),
          ),
        ),
      )

leaves_into : (N : Form) (l : ℕ) (i : Pick leaves) → Prints N l (picked i)
leaves_into N l =
    each (Prints N l) leaves (
      λ y. ((flag y.0, flag_fits y.1.1), refl),
      (
        λ y. ((number_word y.0, word_fits y.1.1), refl),
        (
          λ y. level_into l y.0,
          (
            λ y. ((now y.0, now_fits y.1.1), refl),
            (λ y. past_into l y.0.0 y.0.1.1 y.1.0 y.1.1.0, tt),
          ),
        ),
      ),
    )

-- the texts of the nodes are printed trees
pub node_into : (l : ℕ) → Into (node l) (tree l)
unfolding node
node_into zero x = leaves_into (word []) zero x.0 x.1
node_into (suc l) x = all_into (node l) l (node_into l) x.0 x.1

module _ (N : Form) where
  two_from : (k : Two) (a b : N.Of) → (x : (calls all N).Of) × (two_name_of k ++ (N.print a ++ (44 ∷ (N.print b ++ (41 ∷ [])))) ≡ (calls all N).print x)
  two_from and a b = ((later (later (later (later (later (later first))))), (a, (tt, (b, tt)))), refl)
  two_from or a b = ((later (later (later (later (later (later (later first)))))), (a, (tt, (b, tt)))), refl)
  two_from add_word a b = ((later (later (later (later (later (later (later (later (later first)))))))), (a, (tt, (b, tt)))), refl)
  two_from sub_word a b = ((later (later (later (later (later (later (later (later (later (later first))))))))), (a, (tt, (b, tt)))), refl)
  two_from ahead a b = ((later (later (later (later (later (later (later (later (later (later (later first)))))))))), (a, (tt, (b, tt)))), refl)
  two_from less_word a b = ((later (later (later (later (later (later (later (later (later (later (later (later first))))))))))), (a, (tt, (b, tt)))), refl)
  two_from equal_word a b = ((later (later (later (later (later (later (later (later (later (later (later (later (later first)))))))))))), (a, (tt, (b, tt)))), refl)
  two_from equal_flag a b = ((later (later (later (later (later (later (later (later (later (later (later (later (later (later first))))))))))))), (a, (tt, (b, tt)))), refl)
  two_from equal_level a b = ((later (later (later (later (later (later (later (later (later (later (later (later (later (later (later first)))))))))))))), (a, (tt, (b, tt)))), refl)
  two_from add_level a b = ((later (later (later (later (later (later (later (later (later (later (later (later (later (later (later (later first))))))))))))))), (a, (tt, (b, tt)))), refl)
  two_from sub_level a b = ((later (later (later (later (later (later (later (later (later (later (later (later (later (later (later (later (later first)))))))))))))))), (a, (tt, (b, tt)))), refl)
  two_from mul a b = ((later (later (later (later (later (later (later (later (later (later (later (later (later (later (later (later (later (later first))))))))))))))))), (a, (tt, (b, tt)))), refl)
  two_from div a b = ((later (later (later (later (later (later (later (later (later (later (later (later (later (later (later (later (later (later (later first)))))))))))))))))), (a, (tt, (b, tt)))), refl)
  two_from less_level a b = ((later (later (later (later (later (later (later (later (later (later (later (later (later (later (later (later (later (later (later (later first))))))))))))))))))), (a, (tt, (b, tt)))), refl)

  past_from : (v : ℕ) (k : ℤ) (d : ℕ) → v ≤ 255 → Ranged k → d ≤ 4294967295
      → (y : (args_form Args.a_past N).Of) × (decimal v ++ (44 ∷ []) ++ (signed k ++ (44 ∷ []) ++ (hex8 d ++ (41 ∷ []))) ≡ (args_form Args.a_past N).print y)
  past_from v k d h r m =
      let o = offset_from k r in
      let x = hex8_digits d m in (
        ((v, (omega arith, h)), (o.0, (x.0, tt))),
        ap (λ (z : List ℕ). decimal v ++ (44 ∷ []) ++ (z ++ (hex8 d ++ (41 ∷ [])))) o.1
            ∙ ap (λ (z : List ℕ). decimal v ++ (44 ∷ []) ++ ((offset 44).print o.0 ++ (z ++ (41 ∷ [])))) x.1,
      )

-- and the printed trees are texts of the nodes
leaf_from : (t : Tree) → Fits zero t → (x : (calls leaves (word [])).Of) × (print_tree t ≡ (calls leaves (word [])).print x)
leaf_from t (flag_fits {n} h) = ((first, (n, (omega arith, h))), refl)
leaf_from t (word_fits {n} h) = ((later first, (n, (omega arith, h))), refl)
leaf_from t (level_fits {d} h) = let x = hex8_digits d h in ((later (later first), (x.0, tt)), ap (λ (z : List ℕ). 108 ∷ 101 ∷ 118 ∷ 101 ∷ 108 ∷ 40 ∷ (z ++ (41 ∷ []))) x.1)
leaf_from t (now_fits {v} h) = ((later (later (later first)), (v, (omega arith, h))), refl)
leaf_from t (past_fits {v} {k} {d} h r m) = let y = past_from (word []) v k d h r m in ((later (later (later (later first))), y.0), ap (λ (z : List ℕ). 97 ∷ 116 ∷ 40 ∷ z) y.1)

all_from : (N : Form) (l : ℕ) → Into (tree l) N → (t : Tree) → Fits (suc l) t → (x : (calls all N).Of) × (print_tree t ≡ (calls all N).print x)
all_from N l f t (flag_fits {n} h) = ((first, (n, (omega arith, h))), refl)
all_from N l f t (word_fits {n} h) = ((later first, (n, (omega arith, h))), refl)
all_from N l f t (level_fits {d} h) = let x = hex8_digits d h in ((later (later first), (x.0, tt)), ap (λ (z : List ℕ). 108 ∷ 101 ∷ 118 ∷ 101 ∷ 108 ∷ 40 ∷ (z ++ (41 ∷ []))) x.1)
all_from N l f t (now_fits {v} h) = ((later (later (later first)), (v, (omega arith, h))), refl)
all_from N l f t (past_fits {v} {k} {d} h r m) = let y = past_from N v k d h r m in ((later (later (later (later first))), y.0), ap (λ (z : List ℕ). 97 ∷ 116 ∷ 40 ∷ z) y.1)
all_from N l f t (not_fits {a} h) = let x = f (a, h) in ((later (later (later (later (later first)))), (x.0, tt)), ap (λ (z : List ℕ). 110 ∷ 111 ∷ 116 ∷ 40 ∷ (z ++ (41 ∷ []))) x.1)
all_from N l f t (two_fits {k} {a} {b} h i) =
    let x = f (a, h) in
    let y = f (b, i) in
    let r = two_from N k x.0 y.0 in (
      r.0,
      ap (λ (z : List ℕ). two_name_of k ++ (z ++ (44 ∷ (print_tree b ++ (41 ∷ []))))) x.1
          ∙ ap (λ (z : List ℕ). two_name_of k ++ (N.print x.0 ++ (44 ∷ (z ++ (41 ∷ []))))) y.1 ∙ r.1,
    )
all_from N l f t (choose_fits {a} {b} {c} h i j) =
    let x = f (a, h) in
    let y = f (b, i) in
    let w = f (c, j) in (
      (later (later (later (later (later (later (later (later first))))))), (x.0, (tt, (y.0, (tt, (w.0, tt)))))),
      ap (λ (z : List ℕ). 105 ∷ 102 ∷ 40 ∷ (z ++ (44 ∷ (print_tree b ++ (44 ∷ (print_tree c ++ (41 ∷ []))))))) x.1
          ∙ ap (λ (z : List ℕ). 105 ∷ 102 ∷ 40 ∷ (N.print x.0 ++ (44 ∷ (z ++ (44 ∷ (print_tree c ++ (41 ∷ []))))))) y.1
          ∙ ap (λ (z : List ℕ). 105 ∷ 102 ∷ 40 ∷ (N.print x.0 ++ (44 ∷ (N.print y.0 ++ (44 ∷ (z ++ (41 ∷ []))))))) w.1,
    )

pub node_from : (l : ℕ) → Into (tree l) (node l)
unfolding node
node_from zero x = leaf_from x.0 x.1
node_from (suc l) x = all_from (node l) l (node_from l) x.0 x.1

-- the tree of a tree's text is that tree
nibbles_back : (b : ℕ) → 16 * (b / 16) + b % 16 ≡ b
nibbles_back b = omega arith

bytes_back : (d : ℕ) → d ≤ 4294967295 → 16777216 * (d / 16777216 % 256) + 65536 * (d / 65536 % 256) + 256 * (d / 256 % 256) + d % 256 ≡ d
bytes_back d h =
    let a : d / 16777216 % 256 ≡ d / 16777216 = omega arith in
    let b : d / 65536 ≡ 256 * (d / 16777216) + d / 65536 % 256 = omega arith in
    let c : d / 256 ≡ 256 * (d / 65536) + d / 256 % 256 = omega arith in
    let e : d ≡ 256 * (d / 256) + d % 256 = omega arith in
    sum (d / 16777216 % 256) (d / 16777216) (d / 65536) (d / 65536 % 256) (d / 256) (d / 256 % 256) (d % 256) d a b c e
  where
    sum : (a t u b v c e d : ℕ) → a ≡ t → u ≡ 256 * t + b → v ≡ 256 * u + c → d ≡ 256 * v + e → 16777216 * a + 65536 * b + 256 * c + e ≡ d
    sum a t u b v c e d i j k l = omega arith

word_back : (d : ℕ) (h : d ≤ 4294967295) → (hex8_word (hex8_digits d h).0).0 ≡ d
unfolding hex8_word hex8_digits
word_back d h =
    ap (λ (z : ℕ). 16777216 * z + 65536 * (16 * ((d / 65536 % 256) / 16) + (d / 65536 % 256) % 16) + 256 * (16 * ((d / 256 % 256) / 16) + (d / 256 % 256) % 16) + (16 * ((d % 256) / 16) + (d % 256) % 16)) (nibbles_back (d / 16777216 % 256))
    ∙ ap (λ (z : ℕ). 16777216 * (d / 16777216 % 256) + 65536 * z + 256 * (16 * ((d / 256 % 256) / 16) + (d / 256 % 256) % 16) + (16 * ((d % 256) / 16) + (d % 256) % 16)) (nibbles_back (d / 65536 % 256))
    ∙ ap (λ (z : ℕ). 16777216 * (d / 16777216 % 256) + 65536 * (d / 65536 % 256) + 256 * z + (16 * ((d % 256) / 16) + (d % 256) % 16)) (nibbles_back (d / 256 % 256))
    ∙ ap (λ (z : ℕ). 16777216 * (d / 16777216 % 256) + 65536 * (d / 65536 % 256) + 256 * (d / 256 % 256) + z) (nibbles_back (d % 256)) ∙ bytes_back d h

offset_back : (k : ℤ) (r : Ranged k) → (offset_into (offset_from k r).0).0 ≡ k
unfolding offset_into offset_from
offset_back k (plus h) = refl
offset_back k (minus h) = refl

level_back : (l d : ℕ) (h : d ≤ 4294967295) → (level_into l (hex8_digits d h).0).0.0 ≡ level d
unfolding level_into
level_back l d h = ap level (word_back d h)

past_back : (l v : ℕ) (k : ℤ) (d : ℕ) (h : v ≤ 255) (r : Ranged k) (m : d ≤ 4294967295) → (past_into l v h (offset_from k r).0 (hex8_digits d m).0).0.0 ≡ past v k d
unfolding past_into
past_back l v k d h r m = ap (λ (z : ℤ). past v z (hex8_word (hex8_digits d m).0).0) (offset_back k r) ∙ ap (λ (z : ℕ). past v k z) (word_back d m)

two_back : (N : Form) (l : ℕ) (f : Into N (tree l)) (k : Two) (a b : N.Of)
    → (all_into N l f (two_from N k a b).0.0 (two_from N k a b).0.1).0.0 ≡ two k (f a).0.0 (f b).0.0
unfolding two_from all_into two_into each
two_back N l f and a b = refl
two_back N l f or a b = refl
two_back N l f add_word a b = refl
two_back N l f sub_word a b = refl
two_back N l f ahead a b = refl
two_back N l f less_word a b = refl
two_back N l f equal_word a b = refl
two_back N l f equal_flag a b = refl
two_back N l f equal_level a b = refl
two_back N l f add_level a b = refl
two_back N l f sub_level a b = refl
two_back N l f mul a b = refl
two_back N l f div a b = refl
two_back N l f less_level a b = refl

leaf_back : (t : Tree) (h : Fits zero t) → (leaves_into (word []) zero (leaf_from t h).0.0 (leaf_from t h).0.1).0.0 ≡ t
unfolding leaves_into leaf_from each past_from
leaf_back t (flag_fits h) = refl
leaf_back t (word_fits h) = refl
leaf_back t (level_fits {d} h) = level_back zero d h
leaf_back t (now_fits h) = refl
leaf_back t (past_fits {v} {k} {d} h r m) = past_back zero v k d h r m

all_back : (N : Form) (l : ℕ) (f : Into N (tree l)) (g : Into (tree l) N) → ((t : Tree) (h : Fits l t) → (f (g (t, h)).0).0.0 ≡ t)
    → (t : Tree) (h : Fits (suc l) t) → (all_into N l f (all_from N l g t h).0.0 (all_from N l g t h).0.1).0.0 ≡ t
unfolding all_into all_from each past_from not_into choose_into
all_back N l f g e t (flag_fits h) = refl
all_back N l f g e t (word_fits h) = refl
all_back N l f g e t (level_fits {d} h) = level_back (suc l) d h
all_back N l f g e t (now_fits h) = refl
all_back N l f g e t (past_fits {v} {k} {d} h r m) = past_back (suc l) v k d h r m
all_back N l f g e t (not_fits {a} h) = ap not (e a h)
all_back N l f g e t (two_fits {k} {a} {b} h i) =
    two_back N l f k (g (a, h)).0 (g (b, i)).0 ∙ ap (λ (z : Tree). two k z (f (g (b, i)).0).0.0) (e a h) ∙ ap (λ (z : Tree). two k a z) (e b i)
all_back N l f g e t (choose_fits {a} {b} {c} h i j) =
    ap (λ (z : Tree). choose z (f (g (b, i)).0).0.0 (f (g (c, j)).0).0.0) (e a h) ∙ ap (λ (z : Tree). choose a z (f (g (c, j)).0).0.0) (e b i) ∙ ap (λ (z : Tree). choose a b z) (e c j)

pub node_back : (l : ℕ) (t : Tree) (h : Fits l t) → (node_into l (node_from l (t, h)).0).0.0 ≡ t
unfolding node node_into node_from
node_back zero t h = leaf_back t h
node_back (suc l) t h = all_back (node l) l (node_into l) (node_from l) (node_back l) t h

-- so different trees are printed differently, and no printed tree begins another
pub trees_apart : (l : ℕ) (s t : Tree) → Fits l s → Fits l t → (s ≡ t) ⊎ ((k : ℕ) × Parts (print_tree s) (print_tree t) k)
trees_apart l s t h i = by ((node_part l).plain.apart (node_from l (s, h)).0 (node_from l (t, i)).0)
  where
    by : ((node_from l (s, h)).0 ≡ (node_from l (t, i)).0) ⊎ ((k : ℕ) × Parts ((node l).print (node_from l (s, h)).0) ((node l).print (node_from l (t, i)).0) k)
        → (s ≡ t) ⊎ ((k : ℕ) × Parts (print_tree s) (print_tree t) k)
    by (inl e) = inl (sym (node_back l s h) ∙ ap (λ (x : (node l).Of). (node_into l x).0.0) e ∙ node_back l t i)
    by (inr w) = inr (
      w.0,
      subst (λ (u : List ℕ). Parts u (print_tree t) w.0) (sym (node_from l (s, h)).1)
          (subst (λ (u : List ℕ). Parts ((node l).print (node_from l (s, h)).0) u w.0) (sym (node_from l (t, i)).1) w.1),
    )
