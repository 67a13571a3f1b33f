-- A part that is read, as the code has it: what is asked of its pieces and areas, and what they put into the answer.
-- Assumes nothing.
use Rattle.std.specs.Prelude.{ℕ, ◌≤◌, List, length}
use Rattle.layout.specs.Bands.{Bands, bands_in, band_count}
use Rattle.moves.specs.declared.order.Area.{Area}
use Rattle.moves.specs.declared.order.Order.{Order}
use Rattle.moves.specs.declared.order.Piece.{Piece}
use Rattle.moves.specs.declared.order.Way.{Way}
use Rattle.moves.specs.declared.part_read.PartRead.{PartRead}
use Rattle.moves.specs.Internal.Parts.{SomeRead, part_read, answer_bytes}
use Rattle.moves.specs.Internal.Puts.{Samples}
use Rattle.moves.specs.Internal.Orders.{PieceIn, WayFits, Listed, AreaMoves, ListedOrder}

abbrev pub asked_of : PartRead → Bands
asked_of p = bands_in p.asked

abbrev pub count_of : PartRead → ℕ
count_of p = band_count p.layout.bands (asked_of p)

-- `out` holds the answer
abbrev pub RoomIn : PartRead → List ℕ → Type 0
RoomIn p out = answer_bytes p.layout (asked_of p) p.rows p.columns ≤ length out

-- some samples of the part read
abbrev pub HasRead : PartRead → Samples → List ℕ → List ℕ → Type 0
HasRead p some out after = SomeRead p.layout p.src.now p.part (asked_of p) p.rows p.columns some out after

-- all of them, and nothing else
abbrev pub read_all : PartRead → List ℕ → List ℕ
read_all p out = part_read p.layout p.src.now p.part (asked_of p) p.rows p.columns out

-- a piece of the part, and the way that it can be moved
pub record Moves (p : PartRead) (way : Way) (q : Piece) : Type 0 where
  pub inside : PieceIn (count_of p) p.part.rows p.part.columns q
  pub way-fits : WayFits way p.layout q.bands.count q.rows.count
  pub listed : Listed way (asked_of p).all (count_of p) q.bands

-- an area of an order of the part
pub record MovesArea (p : PartRead) (o : Order) (a : Area) : Type 0 where
  pub moves : AreaMoves p.layout (count_of p) p.part.rows p.part.columns o a
  pub listed : ListedOrder o.way (asked_of p).all (count_of p) o.bands.most
