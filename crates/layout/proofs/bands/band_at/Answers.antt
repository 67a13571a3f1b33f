-- `layout::bands::band_at` meets its contract.
-- Assumes nothing.
use Rattle.std.proofs.Common.{refl}
use Rattle.common.specs.Tests.{pick}
use Rattle.layout.specs.Bands.{band_at, band_count}
use Rattle.layout.proofs.bands.band_at.Goals as goal

pub listed-requires : goal.listed-requires
unfolding band_count pick
listed-requires c = rw c.in-Some.is at c.requires

pub returns-in-None : goal.returns-in-None
unfolding band_at pick
returns-in-None c = rw c.in-None.is refl

pub returns-in-Some : goal.returns-in-Some
unfolding band_at pick
returns-in-Some c = rw c.in-Some.is c.listed.ensures
