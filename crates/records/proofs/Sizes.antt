-- Laws of the kinds: the size of each, how long the records are, and the most room.
-- Assumes nothing.
use mathlib.Core.Path.{◌≡◌, refl}
use Rattle.std.specs.Prelude.{Option, Some, None, MatchOption}
use Prim.Native.Nat.{ℕ, ◌≤◌}
use native.Mathlib.Omega.{arith}
use lib.ListN.{length, length-append}
use Rattle.limits.specs.Limits.{most_outputs}
use Rattle.wire.specs.Bytes.{le4}
use Rattle.wire.proofs.Words.{word_length}
use Rattle.records.specs.declared.Kind.{Kind}
use Rattle.records.specs.declared.Kind.TheVariants.{Value, Trigger}
use Rattle.records.specs.Kinds.{value_size_of, trigger_size_of, byte_of, size_for, size_of_kind_of, room_for, most_room}
use Rattle.records.specs.Encoding.{value_record_of, trigger_record_of}

-- a record's size by its first byte is that of the kind which the byte names
pub size_of_named : (k : Kind) {b : ℕ} → b ≡ byte_of k → size_of_kind_of b ≡ size_for k
unfolding size_of_kind_of
size_of_named Value e = rw e
size_of_named Trigger e = rw e

-- what a byte names is determined
pub Named : ℕ → Option Kind → Type 0
Named b o = MatchOption o (size_of_kind_of b ≡ 0) (λ k. b ≡ byte_of k)

names_none : (b : ℕ) (k : Kind) → size_of_kind_of b ≡ 0 → b ≡ byte_of k → ⊥
names_none b Value e f = let g = size_of_named Value f in omega arith
names_none b Trigger e f = let g = size_of_named Trigger f in omega arith

pub named_once : (b : ℕ) (o p : Option Kind) → Named b o → Named b p → o ≡ p
unfolding Named
named_once b None None e f = refl
named_once b None (Some k) e f = absurd (names_none b k e f)
named_once b (Some k) None e f = absurd (names_none b k f e)
named_once b (Some Value) (Some Value) e f = refl
named_once b (Some Value) (Some Trigger) e f = absurd (omega arith)
named_once b (Some Trigger) (Some Value) e f = absurd (omega arith)
named_once b (Some Trigger) (Some Trigger) e f = refl

pub value_record_length : (y p w : ℕ) → length (value_record_of y p w) ≡ value_size_of
value_record_length y p w = let e = length-append (le4 p) (le4 w) in omega (arith, word_length p, word_length w)

pub trigger_record_length : (y p : ℕ) → length (trigger_record_of y p) ≡ trigger_size_of
trigger_record_length y p = omega (arith, word_length p)

-- outputs within their limit, no more triggers than outputs
pub room_at_most : (outputs triggers : ℕ) → outputs ≤ most_outputs → triggers ≤ outputs → room_for outputs triggers ≤ most_room
room_at_most outputs triggers h k = omega arith
