-- Where a sample lies: document 01's section of that name.
-- Assumes nothing.
use Rattle.std.specs.Prelude.{ℕ, ◌+◌, ◌-◌, ◌*◌, ◌/◌, ◌%◌, ◌<◌, Bool, true, false}
use Rattle.common.specs.Tests.{pick}
use Rattle.layout.specs.declared.InterleaveMode.{InterleaveMode}
use Rattle.layout.specs.Order.{ordinal, bands_apart}
use Rattle.grid.specs.Sizes.{sample_bytes, band_bytes, blocks, block_index, actual_rows, actual_columns, byte_multiple}
use Rattle.grid.specs.declared.EdgeRule.{EdgeRule}
use Rattle.grid.specs.declared.EdgeRule.TheVariants.{Tight, Full}
use Rattle.grid.specs.declared.Grid.{Grid}
use Rattle.grid.specs.declared.places.Span.{Span}

-- byte multiples: the first byte of a sample of the block at an index. In B, P and R the block starts at index × bands
-- × t
abbrev pub sample_byte : InterleaveMode → Grid → ℕ → ℕ → ℕ → ℕ → ℕ
sample_byte m g index b r c =
    pick (bands_apart m)
    ((b * blocks g + index) * band_bytes g + (r * g.nppbh + c) * sample_bytes g)
    (index * g.bands * band_bytes g + sample_bytes g * ordinal m g.bands g.nppbv g.nppbh b r c)

-- a run, document 01's term at other widths: the samples that a block holds stand in the order of the mode and are cut
-- into as many runs as bands. This is the first byte of run i of the block at an index
abbrev pub run_byte : InterleaveMode → Grid → ℕ → ℕ → ℕ
run_byte m g index i =
    pick (bands_apart m)
    ((i * blocks g + index) * band_bytes g)
    (index * g.bands * band_bytes g + i * band_bytes g)

-- the edge rule, document 02's term, at other widths: of so many actual and so many nominal rows, or columns, a block's
-- runs hold the actual ones under tight, and all the nominal ones under full
abbrev pub held : EdgeRule → ℕ → ℕ → ℕ
held Tight actual nominal = actual
held Full actual nominal = nominal

-- other widths: the rows and columns of a block that its runs hold
abbrev pub packed_rows : Grid → ℕ → ℕ
packed_rows g row = held g.edges (actual_rows g row) g.nppbv

abbrev pub packed_columns : Grid → ℕ → ℕ
packed_columns g column = held g.edges (actual_columns g column) g.nppbh

-- the first bit of sample (b, r, c) of block (row, column); bits are counted from the image's first byte on, high bit
-- first.
-- Byte multiples, where the first argument is true: the sample's first byte. Other widths: the sample's place in its
-- run, without gaps between rows
abbrev pub place_by : Bool → Grid → ℕ → ℕ → ℕ → ℕ → ℕ → ℕ
place_by true g row column b r c = 8 * sample_byte g.imode g (block_index g row column) b r c
place_by false g row column b r c =
    let v : ℕ = packed_rows g row in
    let h : ℕ = packed_columns g column in
    let n : ℕ = ordinal g.imode g.bands v h b r c in
    8 * run_byte g.imode g (block_index g row column) (n / (v * h)) + n % (v * h) * g.nbpp

-- where a sample lies: its first bit
unfoldable pub place : Grid → ℕ → ℕ → ℕ → ℕ → ℕ → ℕ
place g row column b r c = place_by (byte_multiple g) g row column b r c

-- question 7 of block (row, column): the end of its last actual sample, or for non-byte widths the end of its last
-- run's t bytes
abbrev pub block_end_by : Bool → Grid → ℕ → ℕ → ℕ
block_end_by true g row column =
    sample_byte g.imode g (block_index g row column) (g.bands - 1) (actual_rows g row - 1) (actual_columns g column - 1)
    + sample_bytes g
block_end_by false g row column = run_byte g.imode g (block_index g row column) (g.bands - 1) + band_bytes g

-- where the data of a block ends
unfoldable pub block_end : Grid → ℕ → ℕ → ℕ
block_end g row column = block_end_by (byte_multiple g) g row column

-- a block of the grid
pub record Block (g : Grid) (row column : ℕ) : Type 0 where
  pub in_row : row < g.nbpc
  pub in_column : column < g.nbpr

-- an actual sample of a block of the grid: band b, row r, column c
pub record Sample (g : Grid) (row column b r c : ℕ) : Type 0 where
  pub block : Block g row column
  pub in_b : b < g.bands
  pub in_r : r < actual_rows g row
  pub in_c : c < actual_columns g column

-- bit i, from the high end, of an actual sample
pub record SampleBit (g : Grid) (row column b r c i : ℕ) : Type 0 where
  pub sample : Sample g row column b r c
  pub in_i : i < g.nbpp

-- the whole nominal block in the image: its first byte and its length; nothing, at 0, in S, where its bands lie apart
unfoldable pub whole_start : Grid → ℕ → ℕ → ℕ
whole_start g row column = pick (bands_apart g.imode) 0 (block_index g row column * (g.bands * band_bytes g))

unfoldable pub whole_length : Grid → ℕ
whole_length g = pick (bands_apart g.imode) 0 (g.bands * band_bytes g)

-- both
abbrev pub whole_span : Grid → ℕ → ℕ → Span
whole_span g row column = record { start = whole_start g row column; length = whole_length g }
