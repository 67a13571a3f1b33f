-- `moves::store::put_block` meets its contract.
-- Assumes nothing.
use Rattle.std.proofs.Common.{arith}
use Rattle.moves.proofs.StorePieces.{whole_planes}
use Rattle.moves.proofs.store.put_block.Goals as goal

pub in_planes-requires : goal.in_planes-requires
in_planes-requires c =
    rw (c.whole_part-part.ensures, c.sample_bytes.ensures) (whole_planes _ _ _ c.requires (omega arith))
