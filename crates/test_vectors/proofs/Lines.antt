-- The lines of a text, counted one by one. Assumes nothing.
use Rattle.std.proofs.Common.{ℕ, suc, ◌≡◌, ◌+◌, ◌*◌, ◌/◌, ◌<◌, ◌≤◌, true, cond, IfSome, Option, Some, None, List, [], ◌∷◌, length, take, drop, fold, slice_get, Bor, sym, ap, ◌∙◌, subst, arith, zero-add}
use Rattle.std.specs.List.{IsSubsliceAt}
use Rattle.std.specs.Iterator.Runs.{Run, YieldsRun, IsChunksExactRun}
use Rattle.std.specs.Slice.Iter.{chunks_exact_steps, chunks_exact_size, chunks_exact_rest}
use Rattle.test_vectors.specs.Vectors.{agrees_of, line_of, agreed_of}

module _ (kind size : ℕ) (s : List ℕ) where
  -- one line more
  abbrev pub counted : ℕ → Bor (List ℕ) → ℕ
  counted n x = n + cond (agrees_of kind (line_of x.now)) 1 0

  -- these are the lines from the one at a place on
  abbrev LinesFrom : ℕ → List (Bor (List ℕ)) → Type 0
  LinesFrom i xs = (k : ℕ) → IfSome (slice_get xs k) (λ x. x.now ≡ take size (drop ((i + k) * size) s))

  next : (i : ℕ) (x : Bor (List ℕ)) (xs : List (Bor (List ℕ))) → LinesFrom i (x ∷ xs) → LinesFrom (suc i) xs
  next i x xs h k = let e : i + suc k ≡ suc i + k = omega arith in rw e at (h (suc k))

  agreed_is : (i : ℕ) (xs : List (Bor (List ℕ))) → LinesFrom i xs → fold counted (agreed_of kind size s i) xs ≡ agreed_of kind size s (i + length xs)
  unfolding agreed_of
  agreed_is i [] h = ap (agreed_of kind size s) (let e : i ≡ i + 0 = omega arith in e)
  agreed_is i (x ∷ xs) h =
      let here : i + 0 ≡ i = omega arith in
      let one : counted (agreed_of kind size s i) x ≡ agreed_of kind size s (suc i) = rw (h 0, here) in
      let e : suc i + length xs ≡ i + length (x ∷ xs) = omega arith in
      ap (λ n. fold counted n xs) one ∙ agreed_is (suc i) xs (next i x xs h) ∙ ap (agreed_of kind size s) e

  -- the chunks of a text are its lines
  abbrev ChunkAt : ℕ → Bor (List ℕ) → Type 0
  ChunkAt k x = (length x.now ≡ size) × (k * size + size ≤ length s) × IsSubsliceAt size s (k * size) x.now

  line_of_chunk : (k : ℕ) (o : Option (Bor (List ℕ))) → IfSome o (ChunkAt k) → IfSome o (λ x. x.now ≡ take size (drop ((0 + k) * size) s))
  line_of_chunk k None h = h
  line_of_chunk k (Some x) h = rw zero-add h.2.0

  module _ (q : Run (chunks_exact_steps {A = ℕ})) (h : IsChunksExactRun q size s) where
    lines : LinesFrom 0 q.items
    unfolding YieldsRun
    lines k = line_of_chunk k (slice_get q.items k) (subst (λ (o : Option (Bor (List ℕ))). IfSome o (ChunkAt k)) (q.gave.1 k) (h.2 k))

    all_counted : q.whole ≡ true → fold counted 0 q.items ≡ agreed_of kind size s (length s / size)
    unfolding agreed_of
    all_counted w = agreed_is 0 q.items lines ∙ ap (agreed_of kind size s) (zero-add (length q.items) ∙ sym q.long ∙ h.1 w)

  -- the same, where the run is from where the iterator was made
  pub chunks_counted : (q : Run (chunks_exact_steps {A = ℕ})) → (0 < chunks_exact_size q.from → IsChunksExactRun q (chunks_exact_size q.from) (chunks_exact_rest q.from))
      → chunks_exact_size q.from ≡ size → chunks_exact_rest q.from ≡ s → 0 < size → q.whole ≡ true → fold counted 0 q.items ≡ agreed_of kind size s (length s / size)
  chunks_counted q h e f l =
      all_counted q (subst (λ (n : ℕ). IsChunksExactRun q n s) e (subst (λ (xs : List ℕ). IsChunksExactRun q (chunks_exact_size q.from) xs) f (h (omega arith))))
