-- `grid::GridBlock::whole` meets its contract.
-- Assumes nothing.
use Rattle.std.proofs.Common.{arith, refl}
use Rattle.grid.specs.Layout.{whole_start, whole_length}
use Rattle.grid.proofs.Accepted.{facts, block-end-le}
use Rattle.grid.proofs.GridBlock.whole.Goals as goal

pub overflow_mul-index : goal.overflow_mul-index
overflow_mul-index c =
    let b = c.args.self in
    rw (c.index.ensures, c.block_bytes-size.ensures)
    (omega (arith, block-end-le _ _ _ b.inside, (facts _ b.grid.accepted).image-le))

pub returns : goal.returns
unfolding whole_start whole_length
returns c = rw (c.pick-2.ensures, c.pick.ensures, c.index.ensures, c.block_bytes-size.ensures, c.bands_apart-apart.ensures) refl
