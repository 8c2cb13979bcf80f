-- What vouching determines: its answer, and where that is yes all that it found but the order within a turn. Assumes nothing.
use Prim.Native.Nat.{ℕ}
use mathlib.Core.Path.{◌≡◌, refl, sym, ap, ◌∙◌}
use Rattle.std.proofs.Common.{Option, Some, None}
use mathlib.Core.List.{List}
use Rattle.basis.specs.Firsts.{of}
use Rattle.basis.specs.Sums.{total, most}
use Rattle.table.proofs.Decoding.{same_table}
use Rattle.vouch.specs.declared.Found.{Found}
use Rattle.vouch.specs.Vouching.{Vouched, Vouches, Verdict}

-- all but the order
record SameTable (p q : Vouched) : Type 0 where
  inputs : p.inputs ≡ q.inputs
  streams : p.streams ≡ q.streams
  types : p.types ≡ q.types
  roles : p.roles ≡ q.roles
  starts : p.starts ≡ q.starts

found_is : {r : Found} {inputs streams words triggers closing : ℕ} → r.inputs ≡ inputs → r.streams ≡ streams → r.words ≡ words → r.triggers ≡ triggers → r.closing ≡ closing →
    r ≡ record { inputs = inputs; streams = streams; words = words; triggers = triggers; closing = closing }
found_is a b c d e = rw (← a, ← b, ← c, ← d, ← e) refl

module _ (s look kept : List ℕ) where
  vouches_once : {p q : Vouched} → Vouches s look kept p → Vouches s look kept q → SameTable p q
  vouches_once x y = let e = same_table (sym x.decodes ∙ y.decodes) in record {
    inputs = x.inputs_are ∙ rw e (sym y.inputs_are);
    streams = x.streams_are ∙ rw e (sym y.streams_are);
    types = x.types_are ∙ rw e (sym y.types_are);
    roles = x.roles_are ∙ rw e (sym y.roles_are);
    starts = x.starts_are ∙ rw e (sym y.starts_are);
  }

  -- `vouch`: two answers are both nothing, or one answer with the same types, roles and starts
  module _ (types roles starts order types' roles' starts' order' : List ℕ) where
    abbrev Once : Option Found → Option Found → Type 0
    Once None None = Unit {0}
    Once None (Some b) = ⊥
    Once (Some a) None = ⊥
    Once (Some a) (Some b) = (a ≡ b) × (types ≡ types') × (roles ≡ roles') × (starts ≡ starts')

    pub vouched_once : (a b : Option Found) → Verdict a s look kept types roles starts order → Verdict b s look kept types' roles' starts' order' → Once a b
    vouched_once None None x y = tt
    vouched_once None (Some b) x y = x y.0.table y.0.decodes y.0.certified
    vouched_once (Some a) None x y = y x.0.table x.0.decodes x.0.certified
    vouched_once (Some a) (Some b) x y =
        let t = vouches_once x.0 y.0 in
        let n : a.streams ≡ b.streams = t.streams in (
          found_is t.inputs n
              (x.1.words_sum ∙ ap (total (of kept)) n ∙ sym y.1.words_sum)
              (x.1.triggers_sum ∙ rw (t.roles, n) (sym y.1.triggers_sum))
              (x.1.closing_most ∙ ap (most (of look)) n ∙ sym y.1.closing_most),
          t.types,
          t.roles,
          t.starts,
        )
