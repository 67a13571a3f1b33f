-- `layout::bands::band_count` meets its contract.
-- Assumes nothing.
use Rattle.std.proofs.Common.{refl}
use Rattle.common.specs.Tests.{pick}
use Rattle.layout.specs.Bands.{band_count}
use Rattle.layout.proofs.bands.band_count.Goals as goal

pub returns-in-None : goal.returns-in-None
unfolding band_count pick
returns-in-None c = rw c.in-None.is refl

pub returns-in-Some : goal.returns-in-Some
unfolding band_count pick
returns-in-Some c = rw c.in-Some.is refl
