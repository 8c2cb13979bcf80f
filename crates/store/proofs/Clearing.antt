-- The words that opening puts to 0 (document 01: "Opening puts 0 into exactly the announced store words").
-- Assumes nothing.
use Prim.Native.Nat.{ℕ}
use mathlib.Core.Path.{◌≡◌, sym}
use mathlib.Core.List.{List, ◌++◌}
use lib.ListN.{drop, replicate}
use Rattle.value.specs.declared.Value.{Value}
use Rattle.run.specs.Run.{Plan, words, opened}
use Rattle.store.specs.Store.{cleared_of}

-- it is the theory's opening, of a plan whose words these are
pub cleared_opened : {F : Type 0} (p : Plan Value ℕ F) → p.zero_word ≡ 0 → {n : ℕ} → words p ≡ n → (st : List ℕ) → cleared_of n st ≡ opened p st
unfolding opened
cleared_opened p z e st = λ i. replicate (sym e i) (sym z i) ++ drop (sym e i) st
