-- What a program that stops at a failed read or write has read of a reader, and written of a text. Assumes nothing.
use Rattle.std.specs.Prelude.{ℕ, ◌≡◌, ◌≤◌, ◌<◌, Bool, true, List, length, take, Option, Result, MatchResult}
use Rattle.std.specs.Io.KnownBytes.{Keeps, Appends, Consumes, IsAtEnd}
use Rattle.glasspuddle.specs.declared.Failure.{Failure}

-- one read into a buffer: its first bytes are the reader's next ones, none only at the end; nothing is read where it failed
abbrev pub Took : Result ℕ Failure → (old new : Option (List ℕ)) → (buffer : List ℕ) → Type 0
Took r old new buffer =
    MatchResult r (λ n. (n ≤ length buffer) × Consumes old new (take n buffer) × (n ≡ 0 → 0 < length buffer → IsAtEnd new)) (λ _. Keeps old new)

-- a writer that held `old` holds `new`: the text's first bytes went behind them, and all of them where nothing failed
pub record Written (fine : Bool) (old new : Option (List ℕ)) (text : List ℕ) : Type 0 where
  pub count : ℕ
  pub within : count ≤ length text
  pub appended : Appends old new (take count text)
  pub whole : fine ≡ true → count ≡ length text
