-- `grid::AcceptedGrid::band_bytes` meets its contract.
-- Assumes nothing.
use Rattle.grid.proofs.Accepted.{answered}
use Rattle.grid.proofs.AcceptedGrid.band_bytes.Goals as goal

pub band_bytes_of_sides-requires : goal.band_bytes_of_sides-requires
band_bytes_of_sides-requires c = let a = answered _ c.args.self.accepted in (a.q1-yes, a.q2-yes)
