-- Bytes written into a lent slice at a place, and nothing else changed (document 01: "the rest of the output stays as it was").
-- Assumes nothing.
use Rattle.std.specs.Prelude.{ℕ, ◌+◌, ◌≡◌, List, ◌++◌, length, take, drop}

-- what was `before` is `after`, with `text` from `place` up to `end`
pub record Wrote (before : List ℕ) (place : ℕ) (text after : List ℕ) (end : ℕ) : Type 0 where
  pub ends : end ≡ place + length text
  pub front : take end after ≡ take place before ++ text
  pub rest : drop end after ≡ drop end before
  pub size : length after ≡ length before
