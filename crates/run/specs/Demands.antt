-- Demands 2 and 3 over any plan (document 01, "What the contracts must exclude"). Demand 3 speaks of demand 2's model.
-- Assumes nothing.
use Rattle.std.specs.Prelude.{ℕ, ◌+◌, ◌≤◌, ◌<◌, ◌⊎◌, ◌≡◌, true, false, ◌&&◌, cond, List, [], ◌∷◌, ◌++◌, eqb, length, get_or, drop}
use mathlib.Core.List.{flatten}
use Rattle.lola.specs.Expressions.{Spec}
use Rattle.lola.specs.Models.{Model, OneModel, trace}
use Rattle.basis.specs.Given.{Given}
use Rattle.run.specs.Run.{Plan, words, Rec, Call, row, close, drain, answer, Alike, rows_in, closed, drained, ModelOf, owed, owed_before}

-- Demand 2, of a specification whose rows' words are read by `get`
pub record Demand2 {W B F : Type 0} (s : Spec W F) (look : ℕ → ℕ) (get : ℕ → B → W) (zero_word : B) : Type 0 where
  -- exactly one evaluation model for each list of rows, the empty one included
  pub one : (rows : List (List B)) → OneModel s (length rows) (trace get zero_word rows)
  -- a value due on a turn of these rows is the same however the rows go on
  pub prefix :
      (rows more more' : List (List B)) (σ τ : ℕ → ℕ → W) →
      Model s (length (rows ++ more)) (trace get zero_word (rows ++ more)) σ →
      Model s (length (rows ++ more')) (trace get zero_word (rows ++ more')) τ →
      (v j : ℕ) → v < s.streams → j + look v < length rows → σ v j ≡ τ v j

-- what was given of stream y for position j, in the order in which it was given
unfoldable pub given_for : {W : Type 0} → ℕ → ℕ → List (Given W) → List W
given_for y j [] = []
given_for {W} y j (g ∷ gs) =
    let rest = given_for y j gs in
    let more : List W = g.word ∷ rest in
    cond (eqb g.stream y && eqb g.position j) more rest

-- Demand 3, of every point that a run can reach
pub record Demand3 {W B F : Type 0} (p : Plan W B F) (st₀ : List B) (ks : List (Call B)) (c : Rec) (st : List B) (log : List (List (Given W))) : Type 0 where
  -- until closing, a well-formed row below the limit is accepted, with room as announced; and so is closing
  pub takes_rows :
      closed ks ≡ false → length (rows_in ks) < p.limit →
      (ws : List B) (out : ℕ) → p.well_formed ws ≡ true → p.room ≤ out → (answer p (row ws out) c st).accepted ≡ true
  pub takes_close : closed ks ≡ false → (answer p close c st).accepted ≡ true
  -- and so are the announced closing turns
  pub takes_drains :
      closed ks ≡ true → 0 < length (rows_in ks) → drained ks < p.closing →
      (out : ℕ) → p.room ≤ out → (answer p (drain out) c st).accepted ≡ true
  -- nothing else is accepted, on whatever store
  pub takes_only_rows :
      (ws : List B) (out : ℕ) (other : List B) → (answer p (row ws out) c other).accepted ≡ true →
      (closed ks ≡ false) × (length (rows_in ks) < p.limit) × (p.well_formed ws ≡ true) × (p.room ≤ out)
  pub closes_once : (other : List B) → (answer p close c other).accepted ≡ true → closed ks ≡ false
  pub takes_only_drains : (out : ℕ) (other : List B) → (answer p (drain out) c other).accepted ≡ true → (closed ks ≡ true) × (0 < length (rows_in ks)) × (drained ks < p.closing)
  -- turn by turn the values are those that the model owes, however the trace goes on
  pub gives :
      (more : List (List B)) → (closed ks ≡ true → more ≡ []) → (σ : ℕ → ℕ → W) → ModelOf p (rows_in ks ++ more) σ →
      log ≡ owed_before p σ (length (rows_in ks ++ more)) (length (rows_in ks) + drained ks)
  -- store words past the announced number stay as they were
  pub rest : drop (words p) st ≡ drop (words p) st₀
  -- and change no answer: a store alike in the announced words gets the same, and is alike again
  pub unread :
      (other : List B) → Alike (words p) other st → (k : Call B) →
      ((answer p k c other).accepted ≡ (answer p k c st).accepted) × ((answer p k c other).after ≡ (answer p k c st).after) × ((answer p k c other).given ≡ (answer p k c st).given)
      × Alike (words p) (answer p k c other).store (answer p k c st).store
  -- each output's value for row j is given once, on turn j plus its look-ahead, once that turn is done
  pub once :
      (more : List (List B)) → (closed ks ≡ true → more ≡ []) → (σ : ℕ → ℕ → W) → ModelOf p (rows_in ks ++ more) σ →
      (y j : ℕ) → p.spec.inputs ≤ y → y < p.spec.streams → j < length (rows_in ks) → j + p.look y < length (rows_in ks) + drained ks →
      (given_for y j (get_or log (j + p.look y) []) ≡ σ y j ∷ []) × (given_for y j (flatten log) ≡ σ y j ∷ [])
  -- after the announced closing turns each of these turns is done
  pub ends : (length (rows_in ks) ≡ 0) ⊎ (drained ks ≡ p.closing) → (y j : ℕ) → y < p.spec.streams → j < length (rows_in ks) → j + p.look y < length (rows_in ks) + drained ks
  -- and no turn after them owes any
  pub finished :
      (length (rows_in ks) ≡ 0) ⊎ (drained ks ≡ p.closing) → (σ : ℕ → ℕ → W) (t : ℕ) → length (rows_in ks) + drained ks ≤ t → owed p σ (length (rows_in ks)) t ≡ []

-- of two runs of the same accepted calls, each on a store of its own, at the same point: the record, what was given and the announced words
pub record SamePoint {W B F : Type 0} (p : Plan W B F) (c c' : Rec) (st st' : List B) (log log' : List (List (Given W))) : Type 0 where
  pub record_same : c ≡ c'
  pub given_same : log ≡ log'
  pub stores : Alike (words p) st st'
