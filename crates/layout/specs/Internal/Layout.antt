-- A block's layout: one formula for every mode and width.
-- The block's samples stand in the order of the mode, cut into as many runs as bands; a run holds `run_rows` ×
-- `run_columns` samples.
-- Assumes nothing.
use Rattle.std.specs.Prelude.{ℕ, ◌+◌, ◌-◌, ◌*◌, ◌/◌, ◌%◌, ◌^◌, ◌≤◌, ◌<◌, Bool, true, false, eqb}
use Rattle.common.specs.Rounding.{ceil_div}
use Rattle.layout.specs.Order.{ordinal}
use Rattle.layout.specs.declared.BlockLayout.{BlockLayout}

-- s: the bytes of a sample in lent data
abbrev pub sample_bytes : BlockLayout → ℕ
sample_bytes l = ceil_div l.nbpp 8

-- byte multiples: a sample fills its bytes
abbrev pub byte_multiple : BlockLayout → Bool
byte_multiple l = eqb (l.nbpp % 8) 0

-- the samples of a run
abbrev pub run_size : BlockLayout → ℕ
run_size l = l.run_rows * l.run_columns

-- how many samples of the block stand before sample (band b, row r, column c)
abbrev pub ordinal_in : BlockLayout → ℕ → ℕ → ℕ → ℕ
ordinal_in l b r c = ordinal l.mode l.bands l.run_rows l.run_columns b r c

-- the first bit of the sample that stands at place n of the block's order
abbrev pub bit_of : BlockLayout → ℕ → ℕ
bit_of l n = 8 * (l.first + n / run_size l * l.apart) + n % run_size l * l.nbpp

-- where a sample lies: its first bit
unfoldable pub place : BlockLayout → ℕ → ℕ → ℕ → ℕ
place l b r c = bit_of l (ordinal_in l b r c)

-- where the data of the block end: with its last actual sample, or for non-byte widths with its last run
abbrev pub end_by : Bool → BlockLayout → ℕ
end_by true l = place l (l.bands - 1) (l.rows - 1) (l.columns - 1) / 8 + sample_bytes l
end_by false l = l.first + (l.bands - 1) * l.apart + l.run_bytes

unfoldable pub block_end : BlockLayout → ℕ
block_end l = end_by (byte_multiple l) l

-- an actual sample
pub record Sample (l : BlockLayout) (b r c : ℕ) : Type 0 where
  pub in_b : b < l.bands
  pub in_r : r < l.rows
  pub in_c : c < l.columns

-- samples of w bits in s bytes that can be moved. Where they fill no whole bytes they are narrow enough for eight bytes
-- to hold one from any bit on
pub record SampleSize (w s : ℕ) : Type 0 where
  pub bits_pos : 0 < w
  pub bits_le : w ≤ 8 * s
  pub bytes_le : s ≤ 8
  pub narrow : w < 8 * s → w ≤ 57
  pub some : 0 < s

-- a layout that can be worked with: samples that can be moved, sides inside those of the runs, runs inside their bytes,
-- runs that do not meet, and
-- bits that can be counted. Movers ask for this and for the block's end.
pub record Sound (l : BlockLayout) : Type 0 where
  pub size : SampleSize l.nbpp (sample_bytes l)
  pub some-bands : 0 < l.bands
  pub some-rows : 0 < l.rows
  pub some-columns : 0 < l.columns
  pub rows-le : l.rows ≤ l.run_rows
  pub columns-le : l.columns ≤ l.run_columns
  pub run_fits : run_size l * l.nbpp ≤ 8 * l.run_bytes
  pub runs-apart : l.run_bytes ≤ l.apart
  pub counted : l.first + l.bands * l.apart ≤ 2 ^ 56
