-- The order in which samples of a part are moved: areas of some rows and columns, and of these pieces of some bands.
-- Assumes nothing.
use Rattle.std.specs.Prelude.{ℕ, ◌+◌, ◌-◌, ◌*◌, ◌/◌, ◌%◌, ◌^◌, min, ◌≤◌, ◌<◌, ◌≡◌, Bool, true, false, ltb}
use Rattle.common.specs.Rounding.{ceil_div}
use Rattle.common.specs.Tests.{pick}
use Rattle.layout.specs.declared.BlockLayout.{BlockLayout}
use Rattle.layout.specs.Internal.Spacing.{has_strides, band_stride}
use Rattle.moves.specs.declared.order.Cut.{Cut}
use Rattle.moves.specs.declared.order.Span.{Span}
use Rattle.moves.specs.declared.order.Area.{Area}
use Rattle.moves.specs.declared.order.Piece.{Piece}
use Rattle.moves.specs.declared.order.Order.{Order}
use Rattle.moves.specs.declared.order.Way.{Way}
use Rattle.moves.specs.declared.order.Way.TheVariants.{Rows, Pixels, Runs}

-- ---- a length in parts

abbrev pub cut_into : (length most : ℕ) → Cut
cut_into length most = record { length = length; most = most; parts = ceil_div length most }

abbrev pub part_of : Cut → ℕ → Span
part_of c p = record { from = p * c.most; count = min c.most (c.length - p * c.most) }

-- the part after a part, and after the last the first
abbrev pub next_from : Cut → Span → ℕ
next_from c s = pick (ltb (s.from + s.count) c.length) (s.from + s.count) 0

abbrev pub next_part : Cut → Span → Span
next_part c s = record { from = next_from c s; count = min c.most (c.length - next_from c s) }

pub record RightCut (c : Cut) : Type 0 where
  pub some : 0 < c.most
  pub parts_are : c.parts ≡ ceil_div c.length c.most

-- a span of at least one number below `length`
pub record SpanIn (length : ℕ) (s : Span) : Type 0 where
  pub some : 0 < s.count
  pub ends : s.from + s.count ≤ length

pub record InSpan (s : Span) (x : ℕ) : Type 0 where
  pub low : s.from ≤ x
  pub high : x < s.from + s.count

-- ---- areas and pieces

abbrev pub area_count : Order → ℕ
area_count o = o.rows.parts * o.columns.parts

-- columns change first, then rows
abbrev pub area_of : Order → ℕ → Area
area_of o a =
    record { rows = part_of o.rows (a / o.columns.parts); columns = part_of o.columns (a % o.columns.parts) }

-- the area after an area, by the next parts of the columns and the rows: where the columns begin again, both
abbrev pub advanced : (columns rows : Span) → Area → Area
advanced columns rows a =
    pick (ltb 0 columns.from)
    (record { rows = a.rows; columns = columns })
    (record { rows = rows; columns = columns })

abbrev pub next_area : Order → Area → Area
next_area o a = advanced (next_part o.columns a.columns) (next_part o.rows a.rows) a

pub record AreaIn (rows columns : ℕ) (a : Area) : Type 0 where
  pub in_rows : SpanIn rows a.rows
  pub in_columns : SpanIn columns a.columns

-- the samples of an area, of whatever band
pub record InArea (a : Area) (b r c : ℕ) : Type 0 where
  pub in_r : InSpan a.rows r
  pub in_c : InSpan a.columns c

-- part p of the bands, of an area
abbrev pub piece_of : Order → Area → ℕ → Piece
piece_of o a p = record { bands = part_of o.bands p; rows = a.rows; columns = a.columns }

pub record RightCuts (o : Order) : Type 0 where
  pub bands-cut : RightCut o.bands
  pub rows_cut : RightCut o.rows
  pub columns-cut : RightCut o.columns

pub record PieceIn (bands rows columns : ℕ) (p : Piece) : Type 0 where
  pub in_bands : SpanIn bands p.bands
  pub in_rows : SpanIn rows p.rows
  pub in_columns : SpanIn columns p.columns

pub record InPiece (p : Piece) (b r c : ℕ) : Type 0 where
  pub in_b : InSpan p.bands b
  pub in_r : InSpan p.rows r
  pub in_c : InSpan p.columns c

-- ---- ways to move a piece

-- what a way asks of the layout, and of the bands and the rows that go together
abbrev pub WayFits : Way → BlockLayout → (bands rows : ℕ) → Type 0
WayFits Rows l bands rows = (has_strides l ≡ true) × (bands ≡ 1)
WayFits Pixels l bands rows =
    (has_strides l ≡ true) × (rows ≡ 1) × (band_stride l.mode l ≡ l.nbpp) × (l.nbpp % 8 ≡ 0)
WayFits Runs l bands rows = (rows ≡ 1) × (bands ≡ 1)

-- how many bands go together pixel by pixel
abbrev pub PixelBands : Way → (together bands : ℕ) → Type 0
PixelBands Rows together bands = Unit {0}
PixelBands Pixels together bands = (0 < together) × (bands ≡ together)
PixelBands Runs together bands = Unit {0}

-- a read pixel by pixel takes all bands of a list at once
abbrev pub Listed : Way → Bool → ℕ → Span → Type 0
Listed Rows all count bands = Unit {0}
Listed Pixels all count bands = (all ≡ false) × (bands.from ≡ 0) × (bands.count ≡ count)
Listed Runs all count bands = Unit {0}

-- the same of an order: the list goes together
abbrev pub ListedOrder : Way → Bool → (count most : ℕ) → Type 0
ListedOrder Rows all count most = Unit {0}
ListedOrder Pixels all count most = (all ≡ false) × (most ≡ count)
ListedOrder Runs all count most = Unit {0}

-- an area of an order of so many bands, rows and columns
pub record AreaMoves (l : BlockLayout) (bands rows columns : ℕ) (o : Order) (a : Area) : Type 0 where
  pub bands-cut : RightCut o.bands
  pub bands_are : o.bands.length ≡ bands
  pub parts-fit : o.bands.parts < 2 ^ 64
  pub inside : AreaIn rows columns a
  pub way-fits : WayFits o.way l o.bands.most a.rows.count

-- an order of so many bands, rows and columns, in which at most `together` bands are moved pixel by pixel
pub record Chosen (l : BlockLayout) (together bands rows columns : ℕ) (o : Order) : Type 0 where
  pub right : RightCuts o
  pub bands_are : o.bands.length ≡ bands
  pub rows_are : o.rows.length ≡ rows
  pub columns_are : o.columns.length ≡ columns
  pub way-fits : WayFits o.way l o.bands.most o.rows.most
  pub pixels : PixelBands o.way together o.bands.most
