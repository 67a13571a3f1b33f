-- `grid::AcceptedGrid::image_bytes` meets its contract.
-- Assumes nothing.
use Rattle.std.proofs.Common.{arith}
use Rattle.grid.proofs.Accepted.{facts}
use Rattle.grid.proofs.AcceptedGrid.image_bytes.Goals as goal

pub overflow_mul-result : goal.overflow_mul-result
overflow_mul-result c = rw c.blocks-2.ensures (omega (arith, (facts _ c.args.self.accepted).slots_le))

pub overflow_mul-result-2 : goal.overflow_mul-result-2
overflow_mul-result-2 c = rw (c.blocks-2.ensures, c.band_bytes.ensures) (omega (arith, (facts _ c.args.self.accepted).image-le))
