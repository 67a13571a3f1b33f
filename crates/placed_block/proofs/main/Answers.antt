-- The planes fit the block, and the file holds it.
use Rattle.std.proofs.Common.{arith, refl}
use Rattle.bits.specs.Bits.{be_at}
use Rattle.bits.specs.Values.{side_by_side}
use Rattle.common.specs.Tests.{all_below, every, pick}
use Rattle.layout.specs.Bands.{band_count, q8}
use Rattle.placed_block.specs.Placed.{twelve_bits}
use Rattle.placed_block.specs.declared.TheConstants.{PLANES}
use Rattle.placed_block.proofs.PlacedFits.{placed-sound, placed_end, twelve-bits}
use Rattle.placed_block.proofs.main.Goals as goal

pub store_block-requires : goal.store_block-requires
unfolding twelve_bits all_below every side_by_side be_at
store_block-requires c =
    rw c.placed.ensures (record { accepted = placed-sound; data_is = omega arith; image_holds = omega (arith, placed_end); fits = λ _. twelve-bits PLANES refl })

pub read_planes-requires : goal.read_planes-requires
unfolding band_count pick q8 all_below every
read_planes-requires c =
    rw c.placed-2.ensures (record { accepted = placed-sound; reached = omega (arith, placed_end); bands_in = refl; room = omega arith })
