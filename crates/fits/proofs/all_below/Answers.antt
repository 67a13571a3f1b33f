-- What the library says of its run over the samples.
use Rattle.std.proofs.Common.{ap, ◌∙◌, rules}
use borrow.Author.Tests.{tests}
use Rattle.std.specs.Slice.Iter.{chunks_exact_rest, chunks_exact_size}
use Rattle.fits.proofs.FirstBytes.{chunks_below}
use Rattle.fits.proofs.all_below.Goals as goal

pub returns : goal.returns
returns c =
    let run = c.all.ensures.runs in
    let chunks = c.chunks_exact.ensures in
    chunks_below run.0 _ _ c.args.bytes.now c.args.size c.args.limit c.all.result c.requires
    (ap chunks_exact_size run.1 ∙ chunks.size)
    (ap chunks_exact_rest run.1 ∙ chunks.rest)
    (chunks.runs run.0 run.0.seen)
    run.2
    (λ x b q k. search (rules, tests))
