-- A turn over the lent store (document 01, "A run"): what it needs of its arguments, and the store that it leaves. `look`, `starts` and
-- `order` hold a number for each stream, ws are the row's words, t is the turn. Assumes nothing.
use Rattle.std.specs.Prelude.{ℕ, ◌≤◌, ◌<◌, ◌^◌, ◌≡◌, Bool, List, length, get_or, take}
use Rattle.basis.specs.Firsts.{of}
use Rattle.limits.specs.Limits.{most_streams, most_levels}
use Rattle.node.specs.Kinds.{Tabulated}
use Rattle.expression.specs.Syntax.{Expr}
use Rattle.expression.specs.Grammar.{good, parse}
use Rattle.run.specs.Run.{Announced, store_after}
use Rattle.store.specs.Store.{layout_of}
use Rattle.meaning.specs.Plans.{plan_of, FitsIn}

-- `order` lists the streams by rank, each once
pub record Order (rank : ℕ → ℕ) (order : List ℕ) (streams : ℕ) : Type 0 where
  pub named : (i : ℕ) → i < streams → get_or order i 0 < streams
  pub ranked : (i : ℕ) → i < streams → rank (get_or order i 0) ≡ i
  pub back : (v : ℕ) → v < streams → get_or order (rank v) 0 ≡ v

-- The numbers are those announced for the table s, its equations stand where `starts` says, and a store of m words is as long as announced.
pub record Turnable (s types look kept starts order : List ℕ) (inputs streams m : ℕ) : Type 0 where
  pub eqs : ℕ → Expr
  pub closing : ℕ
  pub room : ℕ
  pub well_formed : List ℕ → Bool
  pub rank : ℕ → ℕ
  pub few : streams ≤ most_streams
  pub announced : Announced (plan_of inputs streams types eqs (of look) (of kept) closing room well_formed) rank (FitsIn types)
  pub ordered : Order rank order streams
  pub fits : (layout_of types (of kept)).words ≤ m
  pub wanted : ℕ → ℕ
  pub behind : ℕ → ℕ
  pub parsed : (y : ℕ) → inputs ≤ y → y < streams → parse most_levels (take streams types) s (wanted y) (get_or starts y 0) ≡ good (eqs y) (behind y)

-- What a turn needs: that, the constant table, a row known, and the row's words where inputs are due; `given` words are in
-- the row.
pub record CanTurn (s : List ℕ) (kinds : List (List ℕ)) (types look kept starts order : List ℕ) (inputs streams m given n t : ℕ) : Type 0 where
  pub turnable : Turnable s types look kept starts order inputs streams m
  pub kinds_are : Tabulated kinds
  pub row : 0 < n
  pub rows : n < 2 ^ 32
  pub words : t < n → inputs ≤ given

-- the store after turn t: the theory's
abbrev pub Turns : (s types look kept starts order : List ℕ) (inputs streams : ℕ) (ws st : List ℕ) (n t : ℕ) → List ℕ → Type 0
Turns s types look kept starts order inputs streams ws st n t after =
    (x : Turnable s types look kept starts order inputs streams (length st)) →
    after ≡ store_after (plan_of inputs streams types x.eqs (of look) (of kept) x.closing x.room x.well_formed) n t ws st
