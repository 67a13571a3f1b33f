-- The layout of the program's block, and a test of its samples.
-- Assumes nothing.
use Rattle.std.specs.Prelude.{ℕ, ◌^◌, Bool, List, ltb}
use Rattle.common.specs.Tests.{all_below}
use Rattle.bits.specs.Values.{side_by_side}
use Rattle.layout.specs.declared.InterleaveMode.TheVariants.{P}
use Rattle.layout.specs.declared.BlockLayout.{BlockLayout}

abbrev pub placed_layout : BlockLayout
placed_layout =
    record {
      first = 5;
      apart = 16;
      run_bytes = 9;
      rows = 2;
      columns = 3;
      run_rows = 2;
      run_columns = 3;
      mode = P;
      bands = 2;
      nbpp = 12;
    }

-- do the 12 samples of planes, of two bytes each, fit 12 bits
unfoldable pub twelve_bits : List ℕ → Bool
twelve_bits dat = all_below 12 (λ k. ltb (side_by_side dat 0 2 k) (2 ^ 12))
