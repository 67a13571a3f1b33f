-- `layout::BlockLayout::sample_place` meets its contract: the sample's place in the order is in the runs.
-- Assumes nothing.
use Rattle.std.proofs.Common.{ap, ◌∙◌, arith}
use Rattle.layout.specs.Internal.Layout.{bit_of, place}
use Rattle.layout.proofs.Places.{sizes, ordinal_in_runs}
use Rattle.layout.proofs.BlockLayout.sample_place.Goals as goal

pub sample_ordinal-requires-clause-size_fits : goal.sample_ordinal-requires-clause-size_fits
sample_ordinal-requires-clause-size_fits c = omega (arith, (sizes _ c.requires.sound).block-le)

pub order_place-requires-clause-in_runs : goal.order_place-requires-clause-in_runs
order_place-requires-clause-in_runs c = omega (arith, ordinal_in_runs _ c.requires.sound _ _ _ c.requires.sample)

pub returns : goal.returns
unfolding place
returns c = c.order_place.ensures ∙ ap (bit_of c.args.self) c.sample_ordinal.ensures
