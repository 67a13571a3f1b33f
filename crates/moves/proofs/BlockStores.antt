-- Laws of a block that is stored, as the code has it.
-- Assumes nothing.
use Prim.Native.Nat.{ℕ}
use mathlib.Core.List.{List}
use Rattle.moves.specs.declared.block_store.BlockStore.{BlockStore}
use Rattle.moves.specs.declared.order.Piece.{Piece}
use Rattle.moves.specs.declared.order.Way.{Way}
use Rattle.moves.specs.Internal.BlockStores.{ImageHolds, Moves}
use Rattle.moves.specs.Internal.Stores.{Writable}
use Rattle.moves.proofs.StorePieces.{PlacedBlock, placed-block}

module _ (s : BlockStore) (image : List ℕ) (holds : ImageHolds s image) where
  pub writable : Writable s.layout s.samples.now image
  writable =
      let t = s.storable in
      record { accepted = t.accepted; data_is = t.data_is; image_holds = holds; fits = t.fits }

  -- a piece on both sides
  pub placed : {way : Way} {q : Piece} → Moves s way q
      → PlacedBlock s.layout s.samples.now image s.places s.planes q
  placed m = placed-block writable s.places_are s.planes_are m.inside
