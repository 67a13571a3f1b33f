-- `grid::AcceptedGrid::actual_columns` meets its contract.
-- Assumes nothing.
use Rattle.grid.specs.Sizes.{actual_columns}
use Rattle.grid.proofs.Accepted.{facts, column-start}
use Rattle.grid.proofs.AcceptedGrid.actual_columns.Goals as goal

pub part_length-requires : goal.part_length-requires
part_length-requires c = let a = c.args.self in column-start _ (facts _ a.accepted) c.args.column c.requires

pub returns : goal.returns
unfolding actual_columns
returns c = c.part_length.ensures
