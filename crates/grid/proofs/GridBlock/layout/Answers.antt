-- `grid::GridBlock::layout` meets its contract.
-- Assumes nothing.
use Rattle.std.proofs.Common.{◌≡◌, ◌*◌, arith}
use native.Mathlib.Nat.{mul-le-mul_left}
use Rattle.grid.specs.Sizes.{band_bytes, blocks, block_index}
use Rattle.grid.specs.Internal.BlockLayouts.{first_byte}
use Rattle.grid.proofs.Accepted.{facts, index_lt}
use Rattle.grid.proofs.BlockLayouts.{runs_in}
use Rattle.grid.proofs.GridBlock.layout.Goals as goal

-- the first byte, as the code computes it
first_is : (c : goal.After-pick)
    → let b = c.args.self in
    let g = b.grid.grid in c.index.result * c.pick.result ≡ first_byte g.imode g (block_index g b.row b.column)
first_is c = rw (
  c.index.ensures,
  c.pick.ensures,
  c.block_bytes.ensures,
  c.bands_apart-apart.ensures,
  c.band_bytes-t.ensures,
)

pub overflow_mul-first : goal.overflow_mul-first
overflow_mul-first c =
    let b = c.args.self in
    let f = facts _ b.grid.accepted in
    let w = runs_in b.grid.grid.imode b.grid.grid f _ (index_lt _ _ _ b.inside) in
    rw (first_is c) (omega (arith, w.counted, f.image-le))

pub overflow_mul-blocks : goal.overflow_mul-blocks
overflow_mul-blocks c =
    let g = c.args.self.grid in
    let f = facts _ g.accepted in
    rw (c.blocks-2.ensures, c.band_bytes-t.ensures)
    (omega (arith, f.image-le, mul-le-mul_left (blocks g.grid * band_bytes g.grid) f.sides.bands-pos))
