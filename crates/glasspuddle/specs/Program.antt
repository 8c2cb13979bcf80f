-- What the program's loops promise of a reader and a writer whose bytes are known (document 01, "The program"): what was read was handed to
-- `feed`, and what `feed` made of it was written. Assumes nothing.
use Rattle.std.specs.Prelude.{ℕ, ◌≡◌, ◌+◌, ◌≤◌, ◌<◌, ◌^◌, Bool, true, false, List, [], ◌++◌, length, take, Option, IfSome, Result, MatchResult}
use Rattle.std.specs.Io.KnownBytes.{Appends, Consumes, IsAtEnd}
use Rattle.wire.specs.Bytes.{AllBytes}
use Rattle.feed.specs.declared.State.{State}
use Rattle.feed.specs.Printed.{printed}
use Rattle.feed.specs.Stands.{reading, Stands}
use Rattle.glasspuddle.specs.declared.Failure.{Failure}
use Rattle.glasspuddle.specs.Written.{Written}

-- what holds of the state reached, and of whether nothing failed: where something did, no state is answered, and there is one
abbrev pub Reached : Result State Failure → (Bool → State → Type 0) → Type 0
Reached r P = MatchResult r (P true) (λ _. (y : State) × P false y)

-- a piece was taken from state x to state y, all of it where nothing failed and the program reads on; what it gave was written
pub record Taken (fine : Bool) (x : State) (table store part piece : List ℕ) (y : State) (table1 store1 part1 : List ℕ) (out out1 : Option (List ℕ)) : Type 0 where
  pub used : ℕ
  pub within : used ≤ length piece
  pub all : fine ≡ true → reading y.stage ≡ true → used ≡ length piece
  pub text : List ℕ
  pub onward : (b said : List ℕ) → Stands b x table store part said → Stands (b ++ take used piece) y table1 store1 part1 (said ++ text)
  pub written : Written fine out out1 text

-- The input was taken: of the bytes read those in `bytes`. Where nothing failed and the program would read on, these are all, and the input is
-- at its end, or has a number of bytes that no input has.
pub record Heard (fine : Bool) (y : State) (table store part : List ℕ) (into into1 out out1 : Option (List ℕ)) : Type 0 where
  pub bytes : List ℕ
  pub rest : List ℕ
  pub read : Consumes into into1 (bytes ++ rest)
  pub ended : fine ≡ true → reading y.stage ≡ true → (rest ≡ []) × (y.read + 65536 < 2 ^ 64 → IsAtEnd into1)
  pub said : List ℕ
  pub stands : Stands bytes y table store part said
  pub written : Written fine out out1 said

-- behind the end of the input, from state x: where nothing failed, what was written before and now is the text of the bytes read
pub record Rested (fine : Bool) (x : State) (table store : List ℕ) (out out1 : Option (List ℕ)) : Type 0 where
  pub text : List ℕ
  pub written : Written fine out out1 text
  pub whole : fine ≡ true → (b part said : List ℕ) → Stands b x table store part said → AllBytes b → printed b ≡ said ++ text

-- THE PROGRAM, for a reader whose bytes are known, in whatever pieces it gives them, and for a writer whose bytes are known: where no read
-- and no write failed, it has written the text of the whole input
abbrev pub Answered : (fine : Bool) (into out out1 : Option (List ℕ)) → Type 0
Answered fine into out out1 =
    fine ≡ true → IfSome into λ input. AllBytes input → length input + 65536 < 2 ^ 64 → Appends out out1 (printed input)
