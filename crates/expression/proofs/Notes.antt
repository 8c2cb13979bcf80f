-- Notes: one entry of a list raised, and the notes of the weight 0.
-- Assumes nothing.
use mathlib.Core.Path.{◌≡◌, refl}
use mathlib.Core.List.{List}
use Prim.Native.Nat.{ℕ, ◌≤◌, ◌<◌}
use borrow.Author.Tests.{lt-ltb, le-ltb}
use lib.IntN.{pos}
use lib.ListN.{get_or, set}
use Rattle.basis.specs.Notes.{rising, falling}
use Rattle.limits.specs.Limits.{rise_of_zero, fall_of_zero}
use Rattle.expression.specs.References.{raised}

pub raised_less : (a : List ℕ) (v x : ℕ) → get_or a v 0 < x → set a v x ≡ raised v x a
unfolding raised
raised_less a v x h = rw (lt-ltb _ _ h)

pub raised_enough : (a : List ℕ) (v x : ℕ) → x ≤ get_or a v 0 → a ≡ raised v x a
unfolding raised
raised_enough a v x h = rw (le-ltb _ _ h)

pub rising_now : rise_of_zero ≡ rising (pos 0)
unfolding rising
rising_now = refl

pub falling_now : fall_of_zero ≡ falling (pos 0)
unfolding falling
falling_now = refl
