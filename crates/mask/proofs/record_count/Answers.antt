-- `mask::record_count` meets its contract.
-- Assumes nothing.
use Rattle.std.proofs.Common.{arith}
use Rattle.grid.proofs.Accepted.{facts}
use Rattle.mask.specs.Table.{records}
use Rattle.mask.proofs.record_count.Goals as goal

pub overflow_mul-blocks : goal.overflow_mul-blocks
overflow_mul-blocks c = rw c.blocks-blocks.ensures (omega (arith, (facts _ c.args.grid.accepted).slots_le))

pub returns : goal.returns
unfolding records
returns c = rw (c.pick.ensures, c.bands_apart-apart.ensures, c.blocks-blocks.ensures)
