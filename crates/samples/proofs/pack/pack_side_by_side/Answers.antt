-- `samples::pack::pack_side_by_side`: the samples up to a whole byte, then the rest.
-- Assumes nothing.
use Rattle.samples.proofs.Rows.{packed_rest, written_parts}
use Rattle.samples.proofs.pack.pack_side_by_side.Goals as goal

pub pack_grouped-requires-clause-samples_fit : goal.pack_grouped-requires-clause-samples_fit
pack_grouped-requires-clause-samples_fit c =
    packed_rest c.args.row _ c.before_byte-head.ensures _ c.skip.ensures _ c.requires.samples_fit

pub returns : goal.returns
returns c =
    written_parts c.args.row _ c.before_byte-head.ensures _ c.skip.ensures _ c.first.ensures _ _
    c.pack_each.ensures c.pack_grouped.ensures
