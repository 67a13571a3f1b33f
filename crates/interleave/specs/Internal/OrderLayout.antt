-- The samples of a block in the order of a mode, and nothing else, as a layout.
-- Assumes nothing.
use Rattle.std.specs.Prelude.{ℕ, ◌*◌}
use Rattle.layout.specs.declared.InterleaveMode.{InterleaveMode}
use Rattle.layout.specs.declared.BlockLayout.{BlockLayout}

abbrev pub order_layout : InterleaveMode → ℕ → ℕ → ℕ → ℕ → BlockLayout
order_layout mode bands rows columns s =
    record {
      first = 0;
      apart = rows * columns * s;
      run_bytes = rows * columns * s;
      rows = rows;
      columns = columns;
      run_rows = rows;
      run_columns = columns;
      mode = mode;
      bands = bands;
      nbpp = 8 * s;
    }
