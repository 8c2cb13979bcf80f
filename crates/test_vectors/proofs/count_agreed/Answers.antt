use Rattle.std.proofs.Common.{◌≡◌, ◌∙◌, ap, arith, rules, tests}
use Rattle.std.proofs.lemmas.List.{take_all}
use Rattle.std.specs.Slice.Iter.{chunks_exact_size, chunks_exact_rest}
use Rattle.test_vectors.proofs.Lines.{counted, chunks_counted}
use Rattle.test_vectors.proofs.count_agreed.Goals as goal

pub returns : goal.returns
returns c =
    let (p, begins, whole, count) = c.count.ensures.runs in
    let (q, from, filters) = c.filter.ensures.runs p p.seen begins in
    let kind = c.args.operator.kind in
    let size = c.args.operator.line in
    let text = c.args.text.now in
    let given = c.chunks_exact.ensures.rest in
    -- Found by tactics, so that a part in the text's place is refused for the lines that it leaves out, and for no name.
    let all : chunks_exact_rest c.chunks_exact.result ≡ text = grind (arith, take_all) in
    count ∙ filters.5 (counted kind size text) (λ x b f n k. search (rules, tests))
    ∙ chunks_counted kind size text q (c.chunks_exact.ensures.runs q q.seen) (ap chunks_exact_size from ∙ c.chunks_exact.ensures.size) (ap chunks_exact_rest from ∙ all) c.args.operator.some (filters.0 ∙ whole)
