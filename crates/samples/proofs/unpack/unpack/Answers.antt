-- `samples::unpack::unpack`: the samples taken by eight bytes, and right after them the rest.
-- Assumes nothing.
use Rattle.samples.proofs.Rows.{read_parts}
use Rattle.samples.proofs.unpack.unpack.Goals as goal

pub returns : goal.returns
returns c =
    read_parts c.args.row _ c.count_by_eight-most.ensures.0 _ c.skip.ensures _ c.first.ensures _ _
    c.requires.out_holds c.unpack_by_eight.ensures c.unpack_rest.ensures
