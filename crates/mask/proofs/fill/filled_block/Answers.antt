-- `mask::fill::filled_block` meets its contract.
-- Assumes nothing.
use Rattle.grid.proofs.Accepted.{facts}
use Rattle.mask.specs.Table.{filled_block}
use Rattle.mask.proofs.fill.filled_block.Goals as goal

pub nonzero_div-k : goal.nonzero_div-k
nonzero_div-k c = (facts _ c.args.grid.accepted).sides.bands-pos

pub returns : goal.returns
unfolding filled_block
returns c = rw (c.pick.ensures, c.bands_apart.ensures)
