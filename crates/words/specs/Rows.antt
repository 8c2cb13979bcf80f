-- The words of a text by rows. Assumes nothing.
use Rattle.std.specs.Prelude.{ℕ, ◌≤◌, ◌<◌}
use Rattle.shapes.specs.Forms.{Form}
use Rattle.source.specs.Words.{word_of}

-- the words of the rows from one up to another
abbrev pub Among : (from to : ℕ) → Form
Among from to = record { Of = (r : ℕ) × ((from ≤ r) × (r < to)); print = λ r. word_of r.0 }
