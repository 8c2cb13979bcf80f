-- The laws of forms in absolute places, as the code of a recursive descent uses them: one for each way to go on or to return.
-- Assumes nothing.
use Prim.Native.Nat.{ℕ, zero, suc, ◌+◌, ◌*◌, ◌≤◌, ◌<◌}
use native.Mathlib.Omega.{arith}
use mathlib.Core.Path.{◌≡◌, refl, sym, ap, ◌∙◌, subst}
use mathlib.Core.Logic.{◌⊎◌, inl, inr}
use mathlib.Core.List.{List, [], ◌∷◌, ◌++◌, append_assoc}
use lib.ListN.{length, get_or, drop, length-append, length-drop, get_or-append, get_or-eq_default}
use lib.Seq.{drop-cons, drop-append-le}
use Rattle.basis.proofs.Tests.{lt_or_ge}
use Rattle.lines.specs.Lines.{decimal}
use Rattle.lines.proofs.Decimals.{decimal_below_ten}
use Rattle.shapes.specs.Forms.{Form, Parts, here, Fault, Small, Marked, mark, behind, Plain, word, seq, alt}
use Rattle.shapes.specs.Stuck.{ended}
use Rattle.shapes.specs.Numbers.{number, hex_one}
use Rattle.shapes.specs.Places.{byte_at, Got, Lost, digits}
use Rattle.shapes.proofs.Forms.{marked_rest, seq_first, seq_second, then_second, alt_left, alt_right}
use Rattle.shapes.proofs.Numbers.{number_fault, number_first, decimal_more, hex_fault}

-- a sequence that is lost in its first part
pub seq_lost_first : (F : Form) (G : F.Of → Form) (text : List ℕ) (at p : ℕ) → ((x : F.Of) → (G x).Of) → Lost F text at p → Lost (seq F G) text at p
seq_lost_first F G text at p g h = record { far = h.far; place = h.place; leaves = seq_first F G g h.leaves }

-- and in its second: at the same place
pub seq_lost_second : (F : Form) (G : F.Of → Form) (text : List ℕ) (at mid p : ℕ) (x : F.Of) → Plain F → Got F text at x mid → Lost (G x) text mid p
    → Lost (seq F G) text at p
seq_lost_second F G text at mid p x f a b = record {
  far = length (F.print x) + b.far;
  place = omega (arith, a.ends, b.place);
  leaves = subst (λ (s : List ℕ). Fault (seq F G) s (length (F.print x) + b.far)) (sym a.reads) (seq_second F G f x b.leaves);
}

-- the same where the second part doesn't hang on the first
pub then_lost_second : (F G : Form) (text : List ℕ) (at mid p : ℕ) (x : F.Of) → ((x y : F.Of) → (F.print x ≡ F.print y) ⊎ ((k : ℕ) × Parts (F.print x) (F.print y) k))
    → Got F text at x mid → Lost G text mid p → Lost (seq F λ _. G) text at p
then_lost_second F G text at mid p x f a b = record {
  far = length (F.print x) + b.far;
  place = omega (arith, a.ends, b.place);
  leaves = subst (λ (s : List ℕ). Fault (seq F λ _. G) s (length (F.print x) + b.far)) (sym a.reads) (then_second F G f x b.leaves);
}

pub seq_got : (F : Form) (G : F.Of → Form) (text : List ℕ) (at mid end : ℕ) (x : F.Of) (y : (G x).Of) → Got F text at x mid → Got (G x) text mid y end
    → Got (seq F G) text at (x, y) end
seq_got F G text at mid end x y a b = record {
  ends = omega (arith, a.ends, b.ends, length-append (F.print x) ((G x).print y));
  reads = a.reads ∙ ap (λ (s : List ℕ). F.print x ++ s) b.reads ∙ sym (append_assoc (F.print x) ((G x).print y) (drop end (ended text)));
}

-- a choice that is lost in both parts, at the further place
pub alt_lost_left : (F G : Form) (text : List ℕ) (at p q : ℕ) → q ≤ p → Lost F text at p → Lost G text at q → Lost (alt F G) text at p
alt_lost_left F G text at p q l a b = record { far = a.far; place = a.place; leaves = alt_left F G (omega (arith, a.place, b.place)) a.leaves b.leaves }

pub alt_lost_right : (F G : Form) (text : List ℕ) (at p q : ℕ) → p ≤ q → Lost F text at p → Lost G text at q → Lost (alt F G) text at q
alt_lost_right F G text at p q l a b = record { far = b.far; place = b.place; leaves = alt_right F G (omega (arith, a.place, b.place)) a.leaves b.leaves }

pub alt_got_left : (F G : Form) (text : List ℕ) (at end : ℕ) (x : F.Of) → Got F text at x end → Got (alt F G) text at (inl x) end
alt_got_left F G text at end x a = record { ends = a.ends; reads = a.reads }

pub alt_got_right : (F G : Form) (text : List ℕ) (at end : ℕ) (y : G.Of) → Got G text at y end → Got (alt F G) text at (inr y) end
alt_got_right F G text at end y a = record { ends = a.ends; reads = a.reads }

-- what stands at a place is the byte there, then what stands at the next
pub look : (text : List ℕ) (at : ℕ) → at ≤ length text → drop at (ended text) ≡ byte_at text at ∷ drop (at + 1) (ended text)
look text at h =
    let n = length-append text (256 ∷ []) in
    drop-cons (ended text) at 256 (omega (arith, n)) ∙ ap (λ (b : ℕ). b ∷ drop (suc at) (ended text)) (by (lt_or_ge at (length text)))
    ∙ ap (λ (k : ℕ). byte_at text at ∷ drop k (ended text)) (let z : suc at ≡ at + 1 = omega arith in z)
  where
    ends : (w : List ℕ) → get_or (w ++ (256 ∷ [])) (length w) 256 ≡ 256
    ends [] = refl
    ends (b ∷ w) = ends w

    by : (at < length text) ⊎ (length text ≤ at) → get_or (ended text) at 256 ≡ get_or text at 256
    by (inl l) = get_or-append text (256 ∷ []) 256 at l
    by (inr l) =
        let e : at ≡ length text = omega arith in
        ap (λ (k : ℕ). get_or (ended text) k 256) e ∙ ends text ∙ sym (get_or-eq_default text 256 l)

-- one byte
pub byte_got : (text : List ℕ) (at b : ℕ) → at ≤ length text → byte_at text at ≡ b → Got (word (b ∷ [])) text at tt (at + 1)
byte_got text at b h e = record { ends = refl; reads = look text at h ∙ ap (λ (c : ℕ). c ∷ drop (at + 1) (ended text)) e }

-- a word that is wrong at its first byte; one that is wrong later is a byte and then a word
pub word_lost : (text : List ℕ) (at b : ℕ) (w : List ℕ) → at ≤ length text → (b ≡ byte_at text at → ⊥) → Lost (word (b ∷ w)) text at at
word_lost text at b w h n = record {
  far = zero;
  place = omega arith;
  leaves = subst (λ (s : List ℕ). Fault (word (b ∷ w)) s zero) (sym (look text at h))
      (record { near = tt; goes = here n; others = λ _. record { at = zero; early = omega arith; parts = here n } });
}

-- a number: its first digit, one digit more, its end, and its three faults
pub digits_one : (text : List ℕ) (at d : ℕ) → at ≤ length text → byte_at text at ≡ 48 + d → d < 10 → Got digits text at d (at + 1)
digits_one text at d h e l = record {
  ends = omega (arith, ap length (decimal_below_ten d l));
  reads = look text at h ∙ ap (λ (c : ℕ). c ∷ drop (at + 1) (ended text)) e ∙ ap (λ (w : List ℕ). w ++ drop (at + 1) (ended text)) (sym (decimal_below_ten d l));
}

pub digits_more : (text : List ℕ) (at i v d : ℕ) → Got digits text at v i → i ≤ length text → 1 ≤ v → byte_at text i ≡ 48 + d → d < 10
    → Got digits text at (10 * v + d) (i + 1)
digits_more text at i v d a h p e l = record {
  ends = omega (arith, a.ends, ap length (decimal_more v d p l), length-append (decimal v) ((48 + d) ∷ []));
  reads = a.reads ∙ ap (λ (s : List ℕ). decimal v ++ s) (look text i h ∙ ap (λ (c : ℕ). c ∷ drop (i + 1) (ended text)) e)
      ∙ sym (append_assoc (decimal v) ((48 + d) ∷ []) (drop (i + 1) (ended text))) ∙ ap (λ (w : List ℕ). w ++ drop (i + 1) (ended text)) (sym (decimal_more v d p l));
}

module _ (least most stop : ℕ) (low : stop < 48) where
  pub number_got : (text : List ℕ) (at i v : ℕ) (l : least ≤ v) (m : v ≤ most) → Got digits text at v i → i ≤ length text → byte_at text i ≡ stop
      → Got (number least most stop) text at (v, (l, m)) (i + 1)
  number_got text at i v l m a h e = record {
    ends = omega (arith, a.ends, length-append (decimal v) (stop ∷ []));
    reads = a.reads ∙ ap (λ (s : List ℕ). decimal v ++ s) (look text i h ∙ ap (λ (c : ℕ). c ∷ drop (i + 1) (ended text)) e)
        ∙ sym (append_assoc (decimal v) (stop ∷ []) (drop (i + 1) (ended text)));
  }

  pub number_lost : (text : List ℕ) (at i v : ℕ) → least ≤ v → v ≤ most → Got digits text at v i → i ≤ length text → (stop ≡ byte_at text i → ⊥)
      → ((d : ℕ) → byte_at text i ≡ 48 + d → d < 10 → 1 ≤ v → 10 * v + d ≤ most → ⊥) → Lost (number least most stop) text at i
  number_lost text at i v l m a h s n = record {
    far = length (decimal v);
    place = a.ends;
    leaves = subst (λ (w : List ℕ). Fault (number least most stop) w (length (decimal v)))
        (sym (a.reads ∙ ap (λ (w : List ℕ). decimal v ++ w) (look text i h)))
        (number_fault least most stop low v (byte_at text i) (drop (i + 1) (ended text)) l m s n);
  }

  pub number_lost_first : (text : List ℕ) (at : ℕ) → at ≤ length text → least ≤ 1 → least ≤ most
      → ((d : ℕ) → byte_at text at ≡ 48 + d → d < 10 → least ≤ d → ⊥) → Lost (number least most stop) text at at
  number_lost_first text at h t m n = record {
    far = zero;
    place = omega arith;
    leaves = subst (λ (w : List ℕ). Fault (number least most stop) w zero) (sym (look text at h))
        (number_first least most stop low (byte_at text at) (drop (at + 1) (ended text)) t m n);
  }

pub hex_lost : (text : List ℕ) (at : ℕ) → at ≤ length text
    → ((byte_at text at < 48) ⊎ (((57 < byte_at text at) × (byte_at text at < 97)) ⊎ (102 < byte_at text at))) → Lost hex_one text at at
hex_lost text at h o = record {
  far = zero;
  place = omega arith;
  leaves = subst (λ (w : List ℕ). Fault hex_one w zero) (sym (look text at h)) (hex_fault (byte_at text at) (drop (at + 1) (ended text)) o);
}

-- a text with its end marked is marked from every place in it on
pub marked_from : (text : List ℕ) (at : ℕ) → at ≤ length text → Marked (drop at (ended text))
marked_from text at h = subst Marked (sym (drop-append-le at text (256 ∷ []) h)) (go (drop at text))
  where
    go : (w : List ℕ) → Marked (ended w)
    go [] = mark
    go (b ∷ w) = behind (go w)

marked_one : {s : List ℕ} → Marked s → 1 ≤ length s
marked_one mark = omega arith
marked_one (behind m) = omega arith

-- what is read ends inside the text
pub got_inside : (F : Form) (text : List ℕ) (at end : ℕ) (x : F.Of) → Small (F.print x) → at ≤ length text → Got F text at x end → end ≤ length text
got_inside F text at end x s h g =
    let m = marked_one (marked_rest (drop end (ended text)) s (subst Marked g.reads (marked_from text at h))) in
    omega (arith, m, length-drop end (ended text), length-append text (256 ∷ []))
