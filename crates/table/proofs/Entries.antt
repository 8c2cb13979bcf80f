-- The entries of the scan's arrays: those of a list, 0 past its end, and where the expression of each output starts.
-- Assumes nothing.
use Prim.Native.Nat.{ℕ, zero, suc, ◌+◌, ◌-◌, ◌≤◌}
use native.Mathlib.Omega.{arith}
use mathlib.Core.Path.{◌≡◌, refl, sym, ap, ◌∙◌}
use mathlib.Core.List.{List, [], ◌∷◌, ◌++◌}
use lib.ListN.{length, get_or, take, replicate, length-replicate}
use lib.Seq.{take-append_seam, get_or-append-add}
use Rattle.limits.specs.Limits.{most_streams}
use Rattle.node.specs.declared.Node.TheVariants.{Constant}
use Rattle.node.proofs.Tabulated.{same_at}
use Rattle.expression.specs.Syntax.{leaf}
use Rattle.table.specs.Table.{Equation, Table, equation_of}
use Rattle.table.specs.Answers.{padded, starts_of}

past_end : (l : List ℕ) (n v : ℕ) → get_or (l ++ replicate n 0) v 0 ≡ get_or l v 0
past_end [] n v = same_at 0 n v
past_end (x ∷ l) n zero = refl
past_end (x ∷ l) n (suc v) = past_end l n v

pub padded_at : (l : List ℕ) (v : ℕ) → get_or (padded l) v 0 ≡ get_or l v 0
padded_at l v = past_end l (most_streams - length l) v

pub padded_take : (l : List ℕ) → take (length l) (padded l) ≡ l
padded_take l = take-append_seam l (replicate (most_streams - length l) 0)

starts_at : (qs : List Equation) (d : Equation) → d.start ≡ 0 → (i : ℕ) → get_or (starts_of qs) i 0 ≡ (get_or qs i d).start
unfolding starts_of
starts_at [] d e i = sym e
starts_at (q ∷ qs) d e zero = refl
starts_at (q ∷ qs) d e (suc i) = starts_at qs d e i

-- the entry of the output y is the start of its expression
pub start_of : (t : Table) (y : ℕ) → t.inputs ≤ y → get_or (padded (replicate t.inputs 0 ++ starts_of t.equations)) y 0 ≡ (equation_of t y).start
start_of t y h =
    padded_at (replicate t.inputs 0 ++ starts_of t.equations) y
    ∙ ap (λ (i : ℕ). get_or (replicate t.inputs 0 ++ starts_of t.equations) i 0) at_end_lem
    ∙ get_or-append-add (replicate t.inputs 0) (starts_of t.equations) (y - t.inputs) 0
    ∙ starts_at t.equations (record { start = 0; expr = leaf (Constant 0 0) }) refl (y - t.inputs)
  where
    at_end_lem : y ≡ length {A = ℕ} (replicate t.inputs 0) + (y - t.inputs)
    at_end_lem = omega (arith, length-replicate {A = ℕ} t.inputs 0)
