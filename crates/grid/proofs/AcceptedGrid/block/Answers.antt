-- `grid::AcceptedGrid::block` meets its contract.
-- Assumes nothing.
use Rattle.std.proofs.Common.{sym, ◌∙◌}
use Rattle.grid.proofs.Accepted.{block_in}
use Rattle.grid.proofs.AcceptedGrid.block.Goals as goal

pub invariant_of-result : goal.invariant_of-result
invariant_of-result c = record { inside = block_in _ _ _ (sym c.has_block.ensures ∙ c.if-not-has_block.false) }
