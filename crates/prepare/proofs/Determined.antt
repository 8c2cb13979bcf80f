-- What preparing determines: its answer, and where that is yes all that a turn goes by but the order within it. Assumes nothing.
use Prim.Native.Nat.{ℕ}
use mathlib.Core.Path.{◌≡◌, refl, sym, ◌∙◌}
use mathlib.Core.List.{List}
use Rattle.std.proofs.Common.{Option, Some, None}
use Rattle.table.proofs.Decoding.{same_table}
use Rattle.prepare.specs.declared.Prepared.{Prepared}
use Rattle.prepare.specs.Preparing.{Brief, Prepares, Preparing}

-- all but the order
record SameBrief (p q : Brief) : Type 0 where
  inputs : p.inputs ≡ q.inputs
  streams : p.streams ≡ q.streams
  types : p.types ≡ q.types
  roles : p.roles ≡ q.roles
  starts : p.starts ≡ q.starts
  words : p.words ≡ q.words
  room : p.room ≡ q.room
  closing : p.closing ≡ q.closing

prepared_is : {r : Prepared} {inputs streams words room closing : ℕ} → r.inputs ≡ inputs → r.streams ≡ streams → r.words ≡ words → r.room ≡ room → r.closing ≡ closing →
    r ≡ record { inputs = inputs; streams = streams; words = words; room = room; closing = closing }
prepared_is a b c d e = rw (← a, ← b, ← c, ← d, ← e) refl

module _ (s look kept : List ℕ) where
  prepares_once : {p q : Brief} → Prepares s look kept p → Prepares s look kept q → SameBrief p q
  prepares_once x y = let e = same_table (sym x.decodes ∙ y.decodes) in record {
    inputs = x.inputs_are ∙ rw e (sym y.inputs_are);
    streams = x.streams_are ∙ rw e (sym y.streams_are);
    types = x.types_are ∙ rw e (sym y.types_are);
    roles = x.roles_are ∙ rw e (sym y.roles_are);
    starts = x.starts_are ∙ rw e (sym y.starts_are);
    words = x.words_are ∙ sym y.words_are;
    room = x.room_is ∙ sym y.room_is;
    closing = x.closing_is ∙ sym y.closing_is;
  }

  -- `prepare`: two answers are both nothing, or one answer with the same types, roles and starts
  module _ (types roles starts order types' roles' starts' order' : List ℕ) where
    abbrev Once : Option Prepared → Option Prepared → Type 0
    Once None None = Unit {0}
    Once None (Some q) = ⊥
    Once (Some p) None = ⊥
    Once (Some p) (Some q) = (p ≡ q) × (types ≡ types') × (roles ≡ roles') × (starts ≡ starts')

    pub prepared_once : (a b : Option Prepared) → Preparing a s look kept types roles starts order → Preparing b s look kept types' roles' starts' order' → Once a b
    prepared_once None None x y = tt
    prepared_once None (Some q) x y = x y.accepted y.look_is y.kept_is
    prepared_once (Some p) None x y = y x.accepted x.look_is x.kept_is
    prepared_once (Some p) (Some q) x y = let t = prepares_once x y in (prepared_is t.inputs t.streams t.words t.room t.closing, t.types, t.roles, t.starts)
