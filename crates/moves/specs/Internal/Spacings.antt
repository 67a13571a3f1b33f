-- Where samples that stand evenly lie, in an image and in planes.
-- Assumes nothing.
use Rattle.std.specs.Prelude.{ℕ, ◌+◌, ◌*◌, ◌^◌, ◌<◌}
use Rattle.layout.specs.declared.BlockLayout.{BlockLayout}
use Rattle.layout.specs.Internal.Layout.{place}
use Rattle.layout.specs.Internal.Spacing.{band_stride, row_stride, column_stride}
use Rattle.moves.specs.declared.order.Piece.{Piece}
use Rattle.moves.specs.declared.part.Part.{Part}
use Rattle.moves.specs.declared.spacing.Spacing.{Spacing}

abbrev pub spaced_at : Spacing → ℕ → ℕ → ℕ → ℕ
spaced_at s b r c = s.first + b * s.band + r * s.row + c * s.column

-- the first sample of a piece, in band b
abbrev pub first_at : Spacing → ℕ → Piece → ℕ
first_at s b q = spaced_at s b q.rows.from q.columns.from

-- sample (b, i, j) of a part, b a band of the block: its first bit in the image, where the layout has strides
abbrev pub image_spacing : BlockLayout → Part → Spacing
image_spacing l p =
    record {
      first = place l 0 p.r p.c;
      band = band_stride l.mode l;
      row = row_stride l.mode l;
      column = column_stride l.mode l;
    }

-- sample (k, i, j) of a part, k the place of its band in the answer: its first byte in planes of so many rows and
-- columns of samples of s bytes
abbrev pub plane_spacing : Part → (rows columns s : ℕ) → Spacing
plane_spacing p rows columns s =
    record {
      first = (p.to_row * columns + p.to_column) * s;
      band = rows * columns * s;
      row = columns * s;
      column = s;
    }

-- the numbers of that spacing, and those on the way to them, fit in 64 bits
pub record PlanesFit (p : Part) (rows columns s : ℕ) : Type 0 where
  pub down : p.to_row * columns < 2 ^ 64
  pub start : p.to_row * columns + p.to_column < 2 ^ 64
  pub first : (p.to_row * columns + p.to_column) * s < 2 ^ 64
  pub samples : rows * columns < 2 ^ 64
  pub band : rows * columns * s < 2 ^ 64
  pub row : columns * s < 2 ^ 64
