-- What one read gave stands behind what was read before.
use Rattle.std.proofs.Common.{ℕ, ◌≡◌, ◌+◌, ◌-◌, ◌≤◌, List, ◌++◌, length, take, sym, ap, ◌∙◌, subst, rules, length-take-le}
use Rattle.std.proofs.lemmas.List.{take-append-le}
use Rattle.std.proofs.Math.Seq.{take-append-add}
use Rattle.std.specs.Io.KnownBytes.{Consumes}
use Rattle.std.proofs.KnownBytes.{Consumes-trans}
use borrow.Rule.Slice.PartMut.{put_mid, post_of}
use Rattle.filled.proofs.read_full.Goals as goal

filled : (a k n : ℕ) (xs ys : List ℕ) → a ≤ length xs → n ≤ length ys → take a xs ++ take n ys ≡ take (a + n) (put_mid a k xs ys)
filled a k n xs ys within fits =
    let long = length-take-le a xs within in
    let behind = post_of a k xs in
    sym (ap (λ m. take (m + n) (put_mid a k xs ys)) (sym long) ∙ take-append-add (take a xs) (ys ++ behind) n ∙ ap (λ l. take a xs ++ l) (take-append-le n ys behind fits))

pub loop-done-preserved : goal.loop-done-preserved
loop-done-preserved g c =
    let (within, read) = c.loop-done.invariant in
    let bytes = filled c.loop-done.done (length c.loop-done.text - c.loop-done.done) c.in_ok-n.n c.loop-done.text c.read.new.buf within c.in_ok-n.ensures.bound.0 in
    (search rules, subst (Consumes _ _) bytes (Consumes-trans _ _ _ _ _ read c.in_ok-n.ensures.bytes.0))
