-- `grid::AcceptedGrid::fits_in` meets its contract.
-- Assumes nothing.
use Rattle.std.proofs.Common.{refl}
use Rattle.grid.specs.Check.{q11}
use Rattle.grid.proofs.AcceptedGrid.fits_in.Goals as goal

pub returns : goal.returns
unfolding q11
returns c = rw c.image_bytes.ensures refl
