-- `grid::Grid::image_fits` meets its contract.
-- Assumes nothing.
use native.Mathlib.Omega.{arith}
use Rattle.grid.specs.Sizes.{band_bytes}
use Rattle.grid.specs.Check.{q4}
use Rattle.common.proofs.Arith.{leb_div}
use Rattle.grid.proofs.Accepted.{sized, counted, slots_top, band-some}
use Rattle.grid.proofs.Grid.image_fits.Goals as goal

pub overflow_mul-result-2 : goal.overflow_mul-result-2
overflow_mul-result-2 c =
    omega (arith, slots_top _ (sized c.args.self c.requires.0 c.requires.1) (counted c.args.self c.requires.2))

pub nonzero_div-result : goal.nonzero_div-result
nonzero_div-result c =
    omega (arith, c.band_bytes_of_sides-t.ensures, band-some _ (sized c.args.self c.requires.0 c.requires.1))

pub returns : goal.returns
unfolding q4
returns c =
    rw c.band_bytes_of_sides-t.ensures
    (leb_div _ _ (band_bytes c.args.self) (band-some _ (sized c.args.self c.requires.0 c.requires.1)))
