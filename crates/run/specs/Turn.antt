-- The values of a turn (document 01, "A run"), for every content of the store: `store v i` is slot i of v, read as a value.
-- Assumes nothing.
use Rattle.std.specs.Prelude.{ℕ, zero, suc, ◌+◌, ◌-◌, ◌%◌, Bool, ◌&&◌, cond, leb, ltb, eqb}
use Rattle.lola.specs.Expressions.{Spec}
use Rattle.lola.specs.Models.{value, refer}

-- does turn t give v's value at t - look v: where that lies in 0 to n-1, n rows being known
abbrev pub due : (look : ℕ → ℕ) (n t v : ℕ) → Bool
due look n t v = leb (look v) t && ltb t (n + look v)

-- v at position q, on turn t: the value due on this very turn, or the one that lies in slot q mod n
unfoldable pub fetch : {W : Type 0} (look kept : ℕ → ℕ) (t : ℕ) (store : ℕ → ℕ → W) (fresh : ℕ → W) (v q : ℕ) → W
fetch look kept t store fresh v q =
    let x = fresh v in
    let y = store v (q % kept v) in
    cond (eqb (q + look v) t) x y

module _ {W F : Type 0} (s : Spec W F) (look kept : ℕ → ℕ) (blank : W) (n t : ℕ) (row : ℕ → W) (store : ℕ → ℕ → W) where
  -- the value due for v on turn t: an input's from the row, an output's from its equation.
  -- References to values due on the same turn are followed at most `fuel` deep.
  unfoldable pub due_within_of : (fuel v : ℕ) → W
  due_within_of zero v = blank
  due_within_of (suc fuel) v =
      let x = row v in
      let y = value s.ops (refer (fetch look kept t store (due_within_of fuel)) n (t - look v)) (s.equation v) in
      cond (ltb v s.inputs) x y

  -- as many streams, as many steps at most
  unfoldable pub due_value : ℕ → W
  due_value v = due_within_of s.streams v
