-- `grid::AcceptedGrid::block_bytes` meets its contract.
-- Assumes nothing.
use Rattle.std.proofs.Common.{arith}
use Rattle.grid.proofs.Accepted.{facts, block-le}
use Rattle.grid.proofs.AcceptedGrid.block_bytes.Goals as goal

pub overflow_mul-result : goal.overflow_mul-result
overflow_mul-result c =
    let f = facts _ c.args.self.accepted in
    rw c.band_bytes.ensures (omega (arith, block-le _ f, f.image-le))
