-- The order in which each call on an image asks its questions. Questions 1, 3, 4, 6 and 11 stand in grid, 2, which is
-- asked of the table that the call is handed, in widths, 8 and 9 in layout, 12 in marks.
-- Assumes nothing.
use Rattle.std.specs.Prelude.{ℕ, ◌+◌, ◌*◌, ◌/◌, ◌^◌, Bool, true, false, not, ◌||◌, List, [], ◌∷◌, ltb, leb, eqb, length}
use Rattle.common.specs.Questions.{ask}
use Rattle.common.specs.Tests.{every, all_below}
use Rattle.bits.specs.Bits.{be_at}
use Rattle.layout.specs.Bands.{Bands, band_count, q8, q9}
use Rattle.widths.specs.declared.Widths.{Widths}
use Rattle.grid.specs.declared.Grid.{Grid}
use Rattle.grid.specs.declared.EdgeRule.{EdgeRule}
use Rattle.grid.specs.declared.EdgeRule.TheVariants.{Tight, Full}
use Rattle.grid.specs.Check.{ask_grid, q6, q11}
use Rattle.grid.specs.Sizes.{sample_bytes, band_bytes, blocks, actual_rows, actual_columns}
use Rattle.grid.specs.Layout.{block_end, whole_start, whole_length}
use Rattle.marks.specs.Marks.{q12}

-- ---- the block read

-- 5: is the resolution level 0
abbrev pub q5 : ℕ → Bool
q5 level = eqb level 0

-- 7 of a block: do n bytes reach its end
abbrev pub q7 : Grid → ℕ → ℕ → ℕ → Bool
q7 g n row column = leb (block_end g row column) n

-- 5, 6, 7, 8, 9, for an image of n bytes and an output of m
abbrev pub block_questions : Grid → ℕ → ℕ → ℕ → ℕ → Bands → ℕ → ℕ
block_questions g n row column level bs m =
    ask 5 (q5 level)
    (ask 6 (q6 g row column)
    (ask 7 (q7 g n row column)
    (ask 8 (q8 g.bands bs)
    (ask 9 (q9 (band_count g.bands bs) (actual_rows g row) (actual_columns g column) (sample_bytes g) m) 0))))

unfoldable pub block_number : Widths → Grid → ℕ → ℕ → ℕ → ℕ → Bands → ℕ → ℕ
block_number ws g n row column level bs m = ask_grid ws g (block_questions g n row column level bs m)

-- ---- the whole block

-- 7 of a whole block: do n bytes reach its nominal end; in S, where it is no part of the image, they always do
abbrev pub q7_whole : Grid → ℕ → ℕ → ℕ → Bool
q7_whole g n row column = leb (whole_start g row column + whole_length g) n

-- 6, 7
abbrev pub whole_questions : Grid → ℕ → ℕ → ℕ → ℕ
whole_questions g n row column = ask 6 (q6 g row column) (ask 7 (q7_whole g n row column) 0)

unfoldable pub whole_number : Widths → Grid → ℕ → ℕ → ℕ → ℕ
whole_number ws g n row column = ask_grid ws g (whole_questions g n row column)

-- ---- the window

-- a rectangle of the picture, and the bands asked for
pub record Window : Type 0 where
  pub row : ℕ
  pub column : ℕ
  pub rows : ℕ
  pub columns : ℕ
  pub bands : Bands

-- the window that a call names: its first row and column, its rows and columns, and the bands asked for
abbrev pub rectangle : ℕ → ℕ → ℕ → ℕ → Bands → Window
rectangle row column rows columns bands =
    record { row = row; column = column; rows = rows; columns = columns; bands = bands }

-- 10: at least one row and column, all inside the picture
unfoldable pub q10 : Grid → Window → Bool
q10 g w =
    every
    (leb 1 w.rows
    ∷ leb 1 w.columns
    ∷ leb (w.row + w.rows) g.nrows
    ∷ leb (w.column + w.columns) g.ncols
    ∷ [])

-- does the window cross the block
unfoldable pub crosses : Grid → Window → ℕ → ℕ → Bool
crosses g w row column =
    every
    (ltb (row * g.nppbv) (w.row + w.rows)
    ∷ ltb w.row ((row + 1) * g.nppbv)
    ∷ ltb (column * g.nppbh) (w.column + w.columns)
    ∷ ltb w.column ((column + 1) * g.nppbh)
    ∷ [])

-- 7 of a window: do n bytes reach the end of every block crossed
unfoldable pub q7_window : Grid → ℕ → Window → Bool
q7_window g n w =
    all_below g.nbpc (λ row. all_below g.nbpr (λ column. not (crosses g w row column) || q7 g n row column))

-- 10, 7, 8, 9, for an image of n bytes and an output of m
abbrev pub window_questions : Grid → ℕ → Window → ℕ → ℕ
window_questions g n w m =
    ask 10 (q10 g w)
    (ask 7 (q7_window g n w)
    (ask 8 (q8 g.bands w.bands)
    (ask 9 (q9 (band_count g.bands w.bands) w.rows w.columns (sample_bytes g) m) 0)))

unfoldable pub window_number : Widths → Grid → ℕ → Window → ℕ → ℕ
window_number ws g n w m = ask_grid ws g (window_questions g n w m)

-- ---- the calls on a frame, for an image of n bytes and m mark words

-- 11, 12, then the rest
abbrev pub ask_buffers : Grid → ℕ → ℕ → ℕ → ℕ
ask_buffers g n m rest = ask 11 (q11 g n) (ask 12 (q12 (blocks g) m) rest)

-- start; finish asks 15 of the marks after the same
unfoldable pub start_number : Widths → Grid → ℕ → ℕ → ℕ
start_number ws g n m = ask_grid ws g (ask_buffers g n m 0)

-- 13: is the shape bands, actual rows, actual columns
unfoldable pub q13 : Grid → ℕ → ℕ → ℕ → ℕ → ℕ → Bool
q13 g row column bands rows columns =
    every (eqb bands g.bands ∷ eqb rows (actual_rows g row) ∷ eqb columns (actual_columns g column) ∷ [])

-- 14: is the data's length exact
unfoldable pub q14 : Grid → ℕ → ℕ → ℕ → Bool
q14 g row column n = eqb n (g.bands * actual_rows g row * actual_columns g column * sample_bytes g)

-- 26: is each sample of the data a number of NBPP bits. At byte multiples any bytes are
unfoldable pub q26 : Grid → List ℕ → Bool
q26 g dat =
    all_below (length dat / sample_bytes g) (λ k. ltb (be_at dat (k * sample_bytes g) (sample_bytes g)) (2 ^ g.nbpp))

-- write: 11, 12, 6, 13, 14, 26, for data of `size` bytes whose samples fit or do not
unfoldable pub write_number : Widths → Grid → ℕ → ℕ → ℕ → ℕ → ℕ → ℕ → ℕ → ℕ → Bool → ℕ
write_number ws g n m row column bands rows columns size fit =
    ask_grid ws g
    (ask_buffers g n m
    (ask 6 (q6 g row column)
    (ask 13 (q13 g row column bands rows columns)
    (ask 14 (q14 g row column size)
    (ask 26 fit 0)))))

-- skip: 11, 12, 6
unfoldable pub skip_number : Widths → Grid → ℕ → ℕ → ℕ → ℕ → ℕ
skip_number ws g n m row column = ask_grid ws g (ask_buffers g n m (ask 6 (q6 g row column) 0))

-- progress: 12
unfoldable pub progress_number : Widths → Grid → ℕ → ℕ
progress_number ws g m = ask_grid ws g (ask 12 (q12 (blocks g) m) 0)

-- 27: is the edge rule still tight
abbrev pub q27 : EdgeRule → Bool
q27 Tight = true
q27 Full = false

-- re-lay: 11, 12, 27, and 9 of the scratch, which has k bytes
unfoldable pub relay_number : Widths → Grid → ℕ → ℕ → ℕ → ℕ
relay_number ws g n m k =
    ask_grid ws g (ask_buffers g n m (ask 27 (q27 g.edges) (ask 9 (leb (g.bands * band_bytes g) k) 0)))
