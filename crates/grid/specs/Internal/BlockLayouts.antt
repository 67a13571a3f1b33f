-- The layout of a block of the ordinary image: the blocks of the grid one after the other, or in S those of a band. No
-- promise cites it;
-- `place_is` and `end_is` of proofs/BlockLayouts.antt show that it gives document 01's places and ends.
-- Assumes nothing.
use Rattle.std.specs.Prelude.{ℕ, ◌*◌}
use Rattle.common.specs.Tests.{pick}
use Rattle.layout.specs.declared.InterleaveMode.{InterleaveMode}
use Rattle.layout.specs.declared.BlockLayout.{BlockLayout}
use Rattle.layout.specs.Order.{bands_apart}
use Rattle.grid.specs.declared.Grid.{Grid}
use Rattle.grid.specs.Sizes.{band_bytes, blocks, block_index, actual_rows, actual_columns, byte_multiple}
use Rattle.grid.specs.Layout.{packed_rows, packed_columns}

-- the byte of run 0 of the block at an index
abbrev pub first_byte : InterleaveMode → Grid → ℕ → ℕ
first_byte m g index = index * pick (bands_apart m) (band_bytes g) (g.bands * band_bytes g)

-- the bytes from a run to the next
abbrev pub runs_apart : InterleaveMode → Grid → ℕ
runs_apart m g = pick (bands_apart m) (blocks g * band_bytes g) (band_bytes g)

-- the rows and columns of a block that its runs hold; at byte multiples all of them, since an edge block keeps the
-- places of a full one
abbrev pub run_rows : Grid → ℕ → ℕ
run_rows g row = pick (byte_multiple g) g.nppbv (packed_rows g row)

abbrev pub run_columns : Grid → ℕ → ℕ
run_columns g column = pick (byte_multiple g) g.nppbh (packed_columns g column)

abbrev pub layout_of : Grid → ℕ → ℕ → BlockLayout
layout_of g row column =
    record {
      first = first_byte g.imode g (block_index g row column);
      apart = runs_apart g.imode g;
      run_bytes = band_bytes g;
      rows = actual_rows g row;
      columns = actual_columns g column;
      run_rows = run_rows g row;
      run_columns = run_columns g column;
      mode = g.imode;
      bands = g.bands;
      nbpp = g.nbpp;
    }
