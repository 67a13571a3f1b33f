-- How far apart neighbours of a block stand, counted in bits.
-- Assumes nothing.
use Rattle.std.specs.Prelude.{ℕ, ◌-◌, ◌*◌, ◌%◌, Bool, true, false, [], ◌∷◌, eqb}
use Rattle.common.specs.Tests.{some}
use Rattle.common.specs.Rounding.{ceil_div}
use Rattle.layout.specs.declared.Strides.{Strides}
use Rattle.layout.specs.declared.InterleaveMode.{InterleaveMode}
use Rattle.layout.specs.declared.InterleaveMode.TheVariants.{B, P, R, S}
use Rattle.layout.specs.declared.BlockLayout.{BlockLayout}
use Rattle.layout.specs.Internal.Layout.{run_size, ordinal_in}

-- does each band have a run of its own
abbrev pub own_runs : InterleaveMode → Bool
own_runs B = true
own_runs P = false
own_runs R = false
own_runs S = true

-- do samples stand evenly: runs follow each other without a gap, or each band has a run of its own
unfoldable pub has_strides : BlockLayout → Bool
has_strides l = some (eqb (8 * l.apart) (run_size l * l.nbpp) ∷ own_runs l.mode ∷ [])

-- from a band to the next, from a row to the next, from a column to the next
abbrev pub band_stride : InterleaveMode → BlockLayout → ℕ
band_stride B l = 8 * l.apart
band_stride P l = l.nbpp
band_stride R l = l.run_columns * l.nbpp
band_stride S l = 8 * l.apart

abbrev pub row_stride : InterleaveMode → BlockLayout → ℕ
row_stride B l = l.run_columns * l.nbpp
row_stride P l = l.run_columns * (l.bands * l.nbpp)
row_stride R l = l.bands * (l.run_columns * l.nbpp)
row_stride S l = l.run_columns * l.nbpp

-- this one holds inside a run in every layout
abbrev pub column_stride : InterleaveMode → BlockLayout → ℕ
column_stride B l = l.nbpp
column_stride P l = l.bands * l.nbpp
column_stride R l = l.nbpp
column_stride S l = l.nbpp

abbrev pub strides_of : BlockLayout → Strides
strides_of l = record { band = band_stride l.mode l; row = row_stride l.mode l; column = column_stride l.mode l }

-- how many samples of the block stand from one column to the next
abbrev pub column_steps : InterleaveMode → BlockLayout → ℕ
column_steps B l = 1
column_steps P l = l.bands
column_steps R l = 1
column_steps S l = 1

-- how many samples of a row, from sample (b, r, c) on, are in the run of that sample, where the row goes on so long
unfoldable pub rest_of_run : BlockLayout → ℕ → ℕ → ℕ → ℕ
rest_of_run l b r c = ceil_div (run_size l - ordinal_in l b r c % run_size l) (column_steps l.mode l)
