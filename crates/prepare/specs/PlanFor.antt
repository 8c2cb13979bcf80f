-- What a call goes by: the table that the bytes decode to, with the numbers that the check announces of it (document 01, "What the
-- check announces"). Assumes nothing.
use Rattle.std.specs.Prelude.{ℕ, zero, suc, ◌≤◌, ◌<◌, ◌≡◌, Bool, cond, not, ◌&&◌, List, [], eqb, ltb, length, get_or}
use Rattle.value.specs.declared.Value.{Value}
use Rattle.table.specs.Table.{Table, Decoded, decoded, refused, decode}
use Rattle.run.specs.Run as run
use Rattle.meaning.specs.Plans.{table_plan_of}
use Rattle.announce.specs.Announced.{announced}

-- the table of some bytes; one without streams where they are refused
abbrev pub table_in : Decoded → Table
table_in (decoded t) = t
table_in (refused n p) = record { edition = 0; inputs = 0; types = []; roles = []; equations = [] }

abbrev pub table_for : List ℕ → Table
table_for s = table_in (decode s)

-- a well-formed row: of I words, each input flag word at most 1 (refusals 14 and 15; "types are 0 flag, 1 word, 2 level")
pub record WellFormedRow (t : Table) (ws : List ℕ) : Type 0 where
  pub words : length ws ≡ t.inputs
  pub flags : (x : ℕ) → x < t.inputs → get_or t.types x 0 ≡ 0 → get_or ws x 0 ≤ 1

-- refusal 15: is the word of stream x an "input flag word above 1"
abbrev pub bad_flag : (types ws : List ℕ) → ℕ → Bool
bad_flag types ws x = eqb (get_or types x 0) 0 && ltb 1 (get_or ws x 0)

-- the first of k streams from x on with such a word, or the number behind them
unfoldable pub first_bad_of : (types ws : List ℕ) (k x : ℕ) → ℕ
first_bad_of types ws zero x = x
first_bad_of types ws (suc k) x = cond (bad_flag types ws x) x (first_bad_of types ws k (suc x))

-- the same by the tests: a row that neither refusal 14 ("row hasn't I words") nor 15 meets
abbrev pub row_fits_of : Table → List ℕ → Bool
row_fits_of t ws = eqb (length ws) t.inputs && not (ltb (first_bad_of t.types ws t.inputs 0) t.inputs)

abbrev pub look_for : List ℕ → ℕ → ℕ
look_for s v = get_or (announced s).look v 0

abbrev pub kept_for : List ℕ → ℕ → ℕ
kept_for s v = get_or (announced s).kept v 0

-- the plan of a run on these bytes
unfoldable pub plan_for : List ℕ → run.Plan Value ℕ ℕ
plan_for s = table_plan_of (table_for s) (look_for s) (kept_for s) (announced s).closing (announced s).room (row_fits_of (table_for s))
