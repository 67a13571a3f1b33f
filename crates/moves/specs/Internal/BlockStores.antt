-- A block that is stored, as the code has it: what is asked of its pieces, and what they put into the image.
-- Assumes nothing.
use Rattle.std.specs.Prelude.{ℕ, ◌≤◌, List, length}
use Rattle.layout.specs.Internal.Layout.{block_end}
use Rattle.moves.specs.declared.block_store.BlockStore.{BlockStore}
use Rattle.moves.specs.declared.order.Piece.{Piece}
use Rattle.moves.specs.declared.order.Way.{Way}
use Rattle.moves.specs.Internal.Puts.{Samples}
use Rattle.moves.specs.Internal.Stores.{SomePut, put_block}
use Rattle.moves.specs.Internal.Orders.{PieceIn, WayFits}

-- the image reaches the block's end
abbrev pub ImageHolds : BlockStore → List ℕ → Type 0
ImageHolds s image = block_end s.layout ≤ length image

-- some samples of the block put
abbrev pub HasPut : BlockStore → Samples → List ℕ → List ℕ → Type 0
HasPut s some image after = SomePut s.layout s.samples.now some image after

-- all of them, and nothing else
abbrev pub put_all_of : BlockStore → List ℕ → List ℕ
put_all_of s image = put_block s.layout s.samples.now image

-- a piece of the block, and the way that it can be moved
pub record Moves (s : BlockStore) (way : Way) (q : Piece) : Type 0 where
  pub inside : PieceIn s.layout.bands s.layout.rows s.layout.columns q
  pub way-fits : WayFits way s.layout q.bands.count q.rows.count
