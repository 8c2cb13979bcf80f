-- What the words of a table of references are, that their bytes are bytes, and that no word is empty or longer than 15 bytes. Assumes nothing.
use Rattle.std.proofs.Common.{ℕ, zero, suc, ◌≡◌, ◌<◌, ◌≤◌, Bool, true, ◌&&◌, List, [], ◌∷◌, length, get_or, map, ltb, Bor, refl, arith}
use borrow.Author.Tests.{ltb-true}
use Rattle.basis.proofs.Tests.{and_true}
use Rattle.node.proofs.Tabulated.{same_on}
use Rattle.source.specs.Words.{many_words, word_of}

pub now_at : (rows : List (Bor (List ℕ))) (d : Bor (List ℕ)) (k : ℕ) → k < length rows → (get_or rows k d).now ≡ get_or (map (λ (r : Bor (List ℕ)). r.now) rows) k []
now_at [] d k h = absurd (omega arith)
now_at (r ∷ rows) d zero h = refl
now_at (r ∷ rows) d (suc k) h = now_at rows d k (omega arith)

-- no word has an end mark, by computing all rows
abbrev small : List ℕ → Bool
small [] = true
small (b ∷ w) = ltb b 256 && small w

small_at : (w : List ℕ) (k : ℕ) → small w ≡ true → get_or w k 0 < 256
small_at [] k h = omega arith
small_at (b ∷ w) zero h = ltb-true b 256 (and_true (ltb b 256) (small w) h).0
small_at (b ∷ w) (suc k) h = small_at w k (and_true (ltb b 256) (small w) h).1

pub small_bytes : (r k : ℕ) → r < many_words → get_or (word_of r) k 0 < 256
small_bytes r k h = small_at (word_of r) k (same_on (λ (r : ℕ). small (word_of r)) (λ _. true) many_words 0 r true refl (omega arith) (omega arith))

-- by computing all rows
pub fitting : (r : ℕ) → r < many_words → (1 ≤ length (word_of r)) × (length (word_of r) < 16)
fitting r h =
    let o = and_true (ltb 0 (length (word_of r))) (ltb (length (word_of r)) 16)
    (same_on (λ (r : ℕ). ltb 0 (length (word_of r)) && ltb (length (word_of r)) 16) (λ _. true) many_words 0 r true refl (omega arith) (omega arith)) in
    (ltb-true 0 (length (word_of r)) o.0, ltb-true (length (word_of r)) 16 o.1)
