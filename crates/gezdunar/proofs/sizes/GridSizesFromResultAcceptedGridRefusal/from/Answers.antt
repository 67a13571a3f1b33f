-- The sizes of a checked grid.
-- Assumes nothing.
use Rattle.gezdunar.specs.Boundary.{accepted_sizes}
use Rattle.gezdunar.proofs.sizes.GridSizesFromResultAcceptedGridRefusal.from.Goals as goal

pub returns-in-Ok : goal.returns-in-Ok
unfolding accepted_sizes
returns-in-Ok c =
    rw (
      c.in-Ok.is,
      c.mark_words.ensures,
      c.blocks-blocks.ensures,
      c.sample_bytes.ensures,
      c.band_bytes.ensures,
      c.block_bytes.ensures,
      c.image_bytes.ensures,
    )
