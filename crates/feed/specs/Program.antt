-- The program's loop over its pieces: it reads, steps and writes (document 01, "The program"). `PROGRAM` says that what it writes is the
-- text of `Printed`, however the input is cut into reads. Assumes nothing.
use Rattle.std.specs.Prelude.{ℕ, ◌≡◌, true, false, List, [], ◌∷◌, ◌++◌, take, drop, Option, Some, None}
use Rattle.wire.specs.Bytes.{AllBytes}
use Rattle.feed.specs.declared.State.{State}
use Rattle.feed.specs.declared.Advance.{Advance}
use Rattle.feed.specs.declared.Turning.{Turning}
use Rattle.feed.specs.declared.Ended.{Ended}
use Rattle.feed.specs.Printed.{printed}
use Rattle.feed.specs.Stands.{reading, Lent, Begins, Steps, EndsIn, Finishes}

-- the pieces one after the other
unfoldable pub joined : List (List ℕ) → List ℕ
joined [] = []
joined (p ∷ ps) = p ++ joined ps

-- While the input goes on. `reads` are the pieces read so far, `rest` is what was not taken yet of the last one, `said` is what was
-- written. Each step leaves what the contract of `step` says; of the text's slice its first bytes are written.
pub data Reads : (reads : List (List ℕ)) (rest : List ℕ) → State → (table store part said : List ℕ) → Type 0 where
  begun : {x : State} {table store part : List ℕ} → Begins x → Lent table store part → Reads [] [] x table store part []
  read :
      {reads : List (List ℕ)} {x : State} {table store part said : List ℕ} → Reads reads [] x table store part said →
      (piece : List ℕ) → Reads (reads ++ (piece ∷ [])) piece x table store part said
  step :
      {reads : List (List ℕ)} {rest : List ℕ} {x : State} {table store part said : List ℕ} → Reads reads rest x table store part said →
      {r : Advance} {table1 store1 part1 text1 : List ℕ} → Steps x table store part rest r table1 store1 part1 text1 →
      Reads reads (drop r.used rest) r.state table1 store1 part1 (said ++ take r.at text1)

-- Behind the end of the input, or where the program reads no further: by the contracts of `end` and `finish`.
pub data Writes : (reads : List (List ℕ)) → Option Turning → (table store said : List ℕ) → Type 0 where
  ended :
      {reads : List (List ℕ)} {rest : List ℕ} {x : State} {table store part said : List ℕ} → Reads reads rest x table store part said →
      (reading x.stage ≡ true → rest ≡ []) →
      {r : Ended} {text1 : List ℕ} → EndsIn x table r text1 → Writes reads r.left table store (said ++ take r.at text1)
  finished :
      {reads : List (List ℕ)} {x : Turning} {table store said : List ℕ} → Writes reads (Some x) table store said →
      {r : Ended} {store1 text1 : List ℕ} → Finishes x table store r store1 text1 → Writes reads r.left table store1 (said ++ take r.at text1)

-- For EVERY way in which the input can be cut into reads, all that is written, one piece after the other:
pub record PROGRAM : Type 0 where
  -- once it is over it is the text of the input
  pub whole : {reads : List (List ℕ)} {table store said : List ℕ} → Writes reads None table store said → AllBytes (joined reads) → said ≡ printed (joined reads)
  -- refused in the head or in the table it reads no further, and it is the text of every input that goes on so
  pub shut :
      {reads : List (List ℕ)} {rest : List ℕ} {x : State} {table store part said : List ℕ} → Reads reads rest x table store part said →
      reading x.stage ≡ false → (more : List ℕ) → said ≡ printed (joined reads ++ more)
