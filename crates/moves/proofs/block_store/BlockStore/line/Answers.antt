-- `moves::block_store::BlockStore::line` meets its contract.
-- Assumes nothing.
use Rattle.std.proofs.Common.{arith}
use Rattle.moves.proofs.Pieces.{to_fits}
use Rattle.moves.proofs.StorePieces.{index_is}
use Rattle.moves.proofs.BlockStores.{placed}
use Rattle.moves.proofs.block_store.BlockStore.line.Goals as goal

pub at-from-requires : goal.at-from-requires
at-from-requires c =
    to_fits (placed c.args.self.now c.args.image.now c.requires.image_holds c.requires.moves) (omega arith)

pub put_row-requires-clause-from_is : goal.put_row-requires-clause-from_is
put_row-requires-clause-from_is c =
    let s = c.args.self.now in index_is s.layout _ _ _ s.planes_are c.at-from.ensures
