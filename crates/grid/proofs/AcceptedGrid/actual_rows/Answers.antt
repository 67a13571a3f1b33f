-- `grid::AcceptedGrid::actual_rows` meets its contract.
-- Assumes nothing.
use Rattle.grid.specs.Sizes.{actual_rows}
use Rattle.grid.proofs.Accepted.{facts, row-start}
use Rattle.grid.proofs.AcceptedGrid.actual_rows.Goals as goal

pub part_length-requires : goal.part_length-requires
part_length-requires c = let a = c.args.self in row-start _ (facts _ a.accepted) c.args.row c.requires

pub returns : goal.returns
unfolding actual_rows
returns c = c.part_length.ensures
