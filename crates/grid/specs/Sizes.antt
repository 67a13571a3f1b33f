-- Sizes of a grid. Fields have MIL-STD-2500C's names: a block has NPPBV rows and NPPBH columns, NBPR blocks stand
-- across and NBPC down.
-- Assumes nothing.
use Rattle.std.specs.Prelude.{ℕ, ◌+◌, ◌-◌, ◌*◌, ◌%◌, min, Bool, eqb}
use Rattle.common.specs.Rounding.{ceil_div}
use Rattle.grid.specs.declared.Grid.{Grid}

-- s: the bytes of a sample in lent data
abbrev pub sample_bytes : Grid → ℕ
sample_bytes g = ceil_div g.nbpp 8

-- t: the bytes of a band of a block
unfoldable pub band_bytes : Grid → ℕ
band_bytes g = ceil_div (g.nppbh * g.nppbv * g.nbpp) 8

-- the blocks of the picture
abbrev pub blocks : Grid → ℕ
blocks g = g.nbpr * g.nbpc

-- the bytes of the image
abbrev pub image_bytes : Grid → ℕ
image_bytes g = g.nbpr * g.nbpc * g.bands * band_bytes g

-- the index of the block at a block row and a block column
abbrev pub block_index : Grid → ℕ → ℕ → ℕ
block_index g row column = row * g.nbpr + column

-- actual rows: the rows of a block that are inside the picture
unfoldable pub actual_rows : Grid → ℕ → ℕ
actual_rows g row = min g.nppbv (g.nrows - row * g.nppbv)

-- actual columns: the columns of a block that are inside the picture
unfoldable pub actual_columns : Grid → ℕ → ℕ
actual_columns g column = min g.nppbh (g.ncols - column * g.nppbh)

-- byte multiples: a sample fills its bytes
abbrev pub byte_multiple : Grid → Bool
byte_multiple g = eqb (g.nbpp % 8) 0
