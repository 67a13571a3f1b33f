-- Reading: the block read, the whole block and the window.
-- Assumes nothing.
use Rattle.std.specs.Prelude.{ℕ, ◌+◌, ◌*◌, ◌/◌, ◌%◌, List, [], length, take, drop}
use Rattle.common.specs.Questions.{outcome}
use Rattle.common.specs.Over.{over}
use Rattle.bits.specs.Bits.{bits_at}
use Rattle.bits.specs.Values.{values}
use Rattle.layout.specs.Bands.{Bands, band_count, band_at}
use Rattle.widths.specs.declared.Widths.{Widths}
use Rattle.grid.specs.declared.Grid.{Grid}
use Rattle.grid.specs.Sizes.{sample_bytes, actual_rows, actual_columns}
use Rattle.grid.specs.Layout.{place, whole_start, whole_length}
use Rattle.calls.specs.declared.Shape.{Shape}
use Rattle.calls.specs.Answers.{Filled}
use Rattle.calls.specs.Orders.{block_number, whole_number, Window, window_number}

-- ---- answers

abbrev pub filled_with : Shape → List ℕ → Filled
filled_with shape out = record { shape = shape; out = out }

-- what a refused read answers
abbrev pub no_shape : ℕ → Shape
no_shape number = record { number = number; bands = 0; rows = 0; columns = 0 }

-- the bytes of `bands` bands of `rows` rows of `columns` samples: band by band, row by row, each sample in s big-endian
-- bytes
unfoldable pub bytes_of : ℕ → ℕ → ℕ → ℕ → (ℕ → ℕ → ℕ → ℕ) → List ℕ
bytes_of s bands rows columns sample =
    values (λ n. sample (n / columns / rows) (n / columns % rows) (n % columns)) s (bands * rows * columns)

-- a refusal writes nothing; an accepted read fills the front of the output
abbrev pub filled : ℕ → ℕ → ℕ → ℕ → ℕ → (ℕ → ℕ → ℕ → ℕ) → List ℕ → Filled
filled number s bands rows columns sample out =
    outcome number
    (filled_with (record { number = 0; bands = bands; rows = rows; columns = columns })
    (over out 0 (bytes_of s bands rows columns sample)))
    (λ n. filled_with (no_shape n) out)

-- ---- the block read

-- the number in sample (b, r, c) of a block
unfoldable pub sample_at : Grid → List ℕ → ℕ → ℕ → ℕ → ℕ → ℕ → ℕ
sample_at g image row column b r c = bits_at image (place g row column b r c) g.nbpp

-- the block read: the bands asked for of a block's actual samples
unfoldable pub block_read : Widths → Grid → List ℕ → ℕ → ℕ → ℕ → Bands → List ℕ → Filled
block_read ws g image row column level bs out =
    filled (block_number ws g (length image) row column level bs (length out))
    (sample_bytes g) (band_count g.bands bs) (actual_rows g row) (actual_columns g column)
    (λ k r c. sample_at g image row column (band_at bs k) r c) out

-- ---- the whole block

-- the whole nominal block, as a part of the image; a refusal, or mode S, gives an empty part
unfoldable pub whole_block : Widths → Grid → List ℕ → ℕ → ℕ → List ℕ
whole_block ws g image row column =
    outcome (whole_number ws g (length image) row column)
    (take (whole_length g) (drop (whole_start g row column) image))
    (λ n. [])

-- where that part starts: the image's index; 0 for an empty part
unfoldable pub whole_at : Widths → Grid → ℕ → ℕ → ℕ → ℕ
whole_at ws g n row column = outcome (whole_number ws g n row column) (whole_start g row column) (λ k. 0)

-- ---- the window

-- the number in the image at a band, row and column of the picture
unfoldable pub picture_at : Grid → List ℕ → ℕ → ℕ → ℕ → ℕ
picture_at g image b row column =
    sample_at g image (row / g.nppbv) (column / g.nppbh) b (row % g.nppbv) (column % g.nppbh)

-- a window's answer where the picture's numbers are given
unfoldable pub window_of : Widths → Grid → (ℕ → ℕ → ℕ → ℕ) → ℕ → Window → List ℕ → Filled
window_of ws g numbers n w out =
    filled (window_number ws g n w (length out))
    (sample_bytes g) (band_count g.bands w.bands) w.rows w.columns
    (λ k r c. numbers (band_at w.bands k) (w.row + r) (w.column + c)) out

-- the window: a rectangle of the picture out of an image
unfoldable pub window : Widths → Grid → List ℕ → Window → List ℕ → Filled
window ws g image w out = window_of ws g (picture_at g image) (length image) w out
