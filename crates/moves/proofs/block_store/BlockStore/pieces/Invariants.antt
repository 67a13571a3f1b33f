-- Of the bands, the parts before p are put.
use Rattle.moves.specs.Internal.BlockStores.{HasPut}
use Rattle.moves.proofs.Orders.{PartsBefore}
use Rattle.moves.proofs.block_store.BlockStore.pieces.Given as goal

abbrev pub invariant-loop-p : goal.invariant-loop-p
invariant-loop-p l = HasPut l.self (PartsBefore l.order l.area l.p) l.initial.image l.image
