-- Rows and pixels of samples, as a loop moves them: what each turn does.
-- Assumes nothing.
use Rattle.std.specs.Prelude.{ℕ, ◌+◌, ◌*◌, ◌%◌, ◌^◌, ◌≤◌, ◌<◌, ◌≡◌, List, length, get_or}
use Rattle.bits.specs.Bits.{be_at}
use Rattle.common.specs.Over.{over}
use Rattle.common.specs.Turns.{iter}
use Rattle.bits.specs.Values.{values, side_by_side}
use Rattle.samples.specs.Internal.Samples.{spaced, put_spaced}

-- samples of w bits that can be moved out of n bytes or into them: `count` of them, one every `step` bits from bit
-- `at` on, of s bytes each
pub record Movable (n at step w s count : ℕ) : Type 0 where
  pub whole : w ≡ 8 * s → (at % 8 ≡ 0) × (step % 8 ≡ 0)
  pub inside : at + count * step + w ≤ 8 * n + step
  pub fits : at + count * step + w < 2 ^ 63

-- row i read: `count` samples of w bits, one every `step` bits from bit at + i * row of xs on, go in s bytes each to
-- index to + i * line on
abbrev pub row_read : List ℕ → (at row step w s count to line : ℕ) → ℕ → List ℕ → List ℕ
row_read xs at row step w s count to line i ys =
    over ys (to + i * line) (values (spaced xs (at + i * row) step w) s count)

abbrev pub rows_read : List ℕ → (at row step w s count to line rows : ℕ) → List ℕ → List ℕ
rows_read xs at row step w s count to line rows ys = iter rows (row_read xs at row step w s count to line) ys

-- rows of samples of s whole bytes read: `at`, `row` and `step` are counted in bytes
abbrev pub whole_rows : List ℕ → (at row step s count to line rows : ℕ) → List ℕ → List ℕ
whole_rows xs at row step s count to line rows ys =
    rows_read xs (8 * at) (8 * row) (8 * step) (8 * s) s count to line rows ys

-- row i written: `count` samples of s bytes, side by side from index from + i * line of dat on; their low w bits go
-- to bit at + i * row on, one every `step` bits
abbrev pub row_written : List ℕ → (from line s w at row step count : ℕ) → ℕ → List ℕ → List ℕ
row_written dat from line s w at row step count i ys =
    put_spaced (side_by_side dat (from + i * line) s) w (at + i * row) step count ys

abbrev pub rows_written : List ℕ → (from line s w at row step count rows : ℕ) → List ℕ → List ℕ
rows_written dat from line s w at row step count rows ys = iter rows (row_written dat from line s w at row step count) ys

-- listed bands of `count` pixels in n bytes, in which samples of s bytes stand side by side, and room for them in m
-- bytes
pub record PixelsIn (n m : ℕ) (list : List ℕ) (at pixel s to plane count : ℕ) : Type 0 where
  pub size-le : s ≤ 8
  pub some : 0 < length list
  pub inside : (k : ℕ) → k < length list → at + get_or list k 0 * s + count * pixel + s ≤ n + pixel
  pub room : to + length list * plane + count * s ≤ m + plane

-- the band listed at place k read out of the pixel at index `at` of xs: its s bytes go to index to + k * plane on
abbrev pub sample_read : List ℕ → List ℕ → (at s to plane : ℕ) → ℕ → List ℕ → List ℕ
sample_read xs list at s to plane k ys =
    over ys (to + k * plane) (values (λ j. be_at xs (at + get_or list k 0 * s) s) s 1)

-- the listed bands read out of pixel c
abbrev pub pixel_read : List ℕ → List ℕ → (at pixel s to plane : ℕ) → ℕ → List ℕ → List ℕ
pixel_read xs list at pixel s to plane c ys =
    iter (length list) (sample_read xs list (at + c * pixel) s (to + c * s) plane) ys

abbrev pub pixels_read : List ℕ → List ℕ → (at pixel s to plane count : ℕ) → List ℕ → List ℕ
pixels_read xs list at pixel s to plane count ys = iter count (pixel_read xs list at pixel s to plane) ys
